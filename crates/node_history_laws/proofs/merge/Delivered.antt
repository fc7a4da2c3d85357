-- An accepted payload is applied as the configuration that it reads as; the merged one is written, reads back as the same configuration,
-- and so does the same to the node.
use Rattle.std.specs.Prelude.{Ok, Err}
use Prim.Native.Nat.{ℕ, ◌≤◌}
use mathlib.Core.Path.{◌≡◌, refl, ap, sym, ◌∙◌, subst}
use mathlib.Core.Bool.{Bool, true, false, cond, ◌&&◌}
use mathlib.Core.List.{List}
use native.Mathlib.Omega.{arith}
use borrow.Author.Tests.{le-leb, eqb-true}
use lib.Dec.{leb, eqb}
use lib.ListN.{length}
use Rattle.refusal.specs.declared.Refusal.TheVariants as refusal
use Rattle.refusal.specs.Verdict.{Verdict}
use Rattle.refusal.specs.RefusalLemmas.{refused-not}
use Rattle.byte_io.specs.Write.{emit}
use Rattle.cbor.specs.Encode.{encode}
use Rattle.cbor.specs.Item.{map_item}
use Rattle.cojp.specs.Configuration.{read_configuration_as, read_configuration}
use Rattle.cojp.specs.ErrorReports.{error_reports_valid}
use Rattle.protocol_version.specs.Version.{by_version}
use Rattle.cojp_laws.specs.Largest.{LargestConfiguration, DraftWritten}
use Rattle.cojp_laws.specs.RoundTrip.{ConfigurationRoundTrip}
use Rattle.cojp.specs.Same.{SameConfiguration}
use Rattle.cojp.specs.InRange.{InRange, ReadsInRange}
use Rattle.cojp.specs.Writing.{missing, keys_without_additional_info, of_version}
use Rattle.cojp.specs.Writing.{configuration_in_range, configuration_pairs, configuration_plan}
use Rattle.cojp.specs.declared.configuration.Configuration.{Configuration}
use Rattle.cojp.specs.declared.configuration.ConfigurationRead.{ConfigurationRead}
use Rattle.protocol_version.specs.declared.Version.{Version}
use Rattle.protocol_version.specs.declared.Version.TheVariants.{Draft}
use Rattle.cojp_merge.specs.Laws.{MergeLaws, TakesEqual}
use Rattle.cojp_merge.specs.Merge.{merged, of_draft, merge_answer}
use Rattle.lemmas.specs.logic.Tests.{both_left, both_right}
use Rattle.node_attempt.specs.Attempt as attempt
use Rattle.node_attempt.specs.delivery.Delivery.{belongs, may_come}
use Rattle.node_attempt.specs.declared.delivery.Delivery.TheVariants.{Update}
use Rattle.node.specs.Delivery.{placement_of, fitted_by, fitted, apply, apply_read, deliver, deliver_by, deliver_verdict, read_for}
use Rattle.node.specs.Range.{valid}
use Rattle.node.specs.declared.delivery.DeliveryResult.{DeliveryResult}
use Rattle.node.specs.declared.node.Node.{Node}
use Rattle.node_history_laws.specs.merge.Merged.{uncounted, OfDraft, MergedApplies, merged_payload, MergedDelivers}
use Rattle.node_history_laws.proofs.merge.Applied.{version-stays}
use Rattle.node_history_laws.proofs.merge.Exactly.{applies-exactly}

-- ---- an accepted payload
module _ (n : Node) (time : ℕ) where
  read-accepted : (v : Verdict) (c : Configuration) → (apply_read v Update n time c).verdict ≡ Ok tt → v ≡ Ok tt
  read-accepted (Ok tt) c e = refl
  read-accepted (Err k) c e = absurd (let z : ◌≡◌ {A = ℕ} 0 1 = cc in omega arith)

  both-accepted : (v : Verdict) (r : ConfigurationRead) → (deliver_by v Update n time r).verdict ≡ Ok tt
      → (v ≡ Ok tt) × (r.verdict ≡ Ok tt)
  both-accepted (Ok tt) r e = (refl, read-accepted r.verdict r.configuration e)
  both-accepted (Err k) r e = absurd (let z : ◌≡◌ {A = ℕ} 0 1 = cc in omega arith)

  by-accepted : (v : Verdict) (r : ConfigurationRead) → v ≡ Ok tt → r.verdict ≡ Ok tt
      → deliver_by v Update n time r ≡ apply Update n time (fitted n r.configuration)
  by-accepted v r e f = rw (e, f)

  -- at a node of the draft
  module _ (old : n.version ≡ Draft) where
    read-so : (p : List ℕ) → read_for n p ≡ read_configuration p
    read-so p = ap (λ (v : Version). read_configuration_as v p) old

    all-fits : (c : Configuration) → fitted n c ≡ c
    unfolding fitted
    all-fits c = ap (λ (v : Version). by_version v c (fitted_by (placement_of n c.keys).verdict c)) old

    met : (p : List ℕ) → (deliver Update n time p).verdict ≡ Ok tt
        → (deliver_verdict Update n time (length p) ≡ Ok tt) × ((read_configuration p).verdict ≡ Ok tt)
    unfolding deliver
    met p e =
        let both = both-accepted (deliver_verdict Update n time (length p)) (read_for n p) e in
        (both.0, subst (λ (r : ConfigurationRead). r.verdict ≡ Ok tt) (read-so p) both.1)

    applied : (p : List ℕ) → deliver_verdict Update n time (length p) ≡ Ok tt → (read_configuration p).verdict ≡ Ok tt
        → deliver Update n time p ≡ apply Update n time (read_configuration p).configuration
    unfolding deliver
    applied p e f =
        let read = subst (λ (r : ConfigurationRead). r.verdict ≡ Ok tt) (sym (read-so p)) f in
        let so = all-fits (read_for n p).configuration ∙ ap (λ (r : ConfigurationRead). r.configuration) (read-so p) in
        by-accepted (deliver_verdict Update n time (length p)) (read_for n p) e read ∙ ap (λ (c : Configuration). apply Update n time c) so

  -- another payload may come where this one may, if it is not LONG
  tests : (v a l m c b : Bool)
      → ◌≡◌ {A = Verdict}
      (cond v (cond a (cond l (cond c (cond b (Ok tt) (Err refusal.Phase)) (Err refusal.Clock)) (Err refusal.Long))
      (Err refusal.Range)) (Err refusal.Range)) (Ok tt)
      → m ≡ true
      → ◌≡◌ {A = Verdict}
      (cond v (cond a (cond m (cond c (cond b (Ok tt) (Err refusal.Phase)) (Err refusal.Clock)) (Err refusal.Long))
      (Err refusal.Range)) (Err refusal.Range)) (Ok tt)
  tests false a l m c b e h = refused-not refusal.Range e
  tests true false l m c b e h = refused-not refusal.Range e
  tests true true false m c b e h = refused-not refusal.Long e
  tests true true true m c b e h = rw h e

  may-come-too : (k len : ℕ) → deliver_verdict Update n time k ≡ Ok tt → len ≤ 256 → deliver_verdict Update n time len ≡ Ok tt
  unfolding deliver_verdict may_come
  may-come-too k len e h =
      tests (valid n) (attempt.valid n.attempt) (leb k 256) (leb len 256) (leb n.attempt.clock time)
      (belongs Update n.attempt.phase) e
      (le-leb len 256 h)

-- ---- the merged one
whole-range : (c : Configuration) → InRange Draft c → of_draft c ≡ true
unfolding of_draft configuration_in_range error_reports_valid
whole-range c i = rw (i.keys, i.address, i.jrc, i.network, i.prefix, i.form, i.met)

in-limits : (c : Configuration) → of_draft c ≡ true → configuration_in_range Draft c ≡ true
unfolding of_draft
in-limits c e = both_left (configuration_in_range Draft c) (eqb c.labels.count 0) e

-- what a reading of the draft takes is of the draft
of-draft : (c : Configuration) → InRange Draft c → OfDraft c
unfolding of_version error_reports_valid
of-draft c i =
    let list = missing c.blacklist.disposition in
    let rate = missing c.rate.disposition in
    let front = both_left (keys_without_additional_info c.keys && list) rate i.form in
    record {
      blacklist = both_right (keys_without_additional_info c.keys) list front;
      rate = both_right (keys_without_additional_info c.keys && list) rate i.form;
      met = eqb-true c.labels.count 0 i.met;
    }

merge-is : (f s : Configuration) → of_draft f ≡ true → of_draft s ≡ true → (merge_answer f s).configuration ≡ merged f s
unfolding merge_answer
merge-is f s e h = rw (e, h)

module _ (applies : MergedApplies) (laws : MergeLaws) (in-range : ReadsInRange) (first second : Configuration)
    (largest : LargestConfiguration (merge_answer first second).configuration)
    (planned : DraftWritten (merge_answer first second).configuration)
    (back : ConfigurationRoundTrip (merge_answer first second).configuration) where
  exact : (p q w : List ℕ) (f s : Configuration) → (read_configuration p).configuration ≡ f → (read_configuration q).configuration ≡ s
      → SameConfiguration (read_configuration w).configuration (merged f s) → TakesEqual (read_configuration w).configuration (merged f s)
  exact p q w f s e h = rw (← e, ← h) (laws.exact p q w)

  pub merged-delivers : MergedDelivers first second
  merged-delivers n time p q old Reads-first Reads-second e h =
      let a = met n time old p e in
      let m = (deliver Update n time p).node in
      let once : deliver Update n time p ≡ apply Update n time first =
      applied n time old p a.0 a.1 ∙ ap (λ (c : Configuration). apply Update n time c) Reads-first in
      let old-too : m.version ≡ Draft = ap (λ (d : DeliveryResult). d.node.version) once ∙ version-stays n time first ∙ old in
      let b = met m time old-too q h in
      let x : InRange Draft first = subst (λ (c : Configuration). InRange Draft c) Reads-first (in-range Draft p a.1) in
      let y : InRange Draft second = subst (λ (c : Configuration). InRange Draft c) Reads-second (in-range Draft q b.1) in
      let i = whole-range first x in
      let j = whole-range second y in
      let twice : deliver Update m time q ≡ apply Update m time second =
      applied m time old-too q b.0 b.1 ∙ ap (λ (c : Configuration). apply Update m time c) Reads-second in
      let between : m ≡ (apply Update n time first).node = ap (λ (d : DeliveryResult). d.node) once in
      let then : deliver Update m time q ≡ apply Update (apply Update n time first).node time second =
      twice ∙ ap (λ (k : Node). apply Update k time second) between in
      let one =
      applies n time first second (of-draft first x) (of-draft second y) (sym (ap (λ (d : DeliveryResult). d.verdict) once) ∙ e)
      (sym (ap (λ (d : DeliveryResult). d.verdict) then) ∙ h) in
      let good = laws.in-range first second i j in
      let is : (merge_answer first second).configuration ≡ merged first second = merge-is first second i j in
      let w = merged_payload first second in
      let writes : configuration_plan Draft (merge_answer first second).configuration ≡ emit w =
      planned (in-limits (merge_answer first second).configuration good.1)
      ∙ ap (λ (c : Configuration). emit (encode (map_item (configuration_pairs c)))) is in
      let short = largest w writes in
      let read = back Draft w writes false in
      let arrives : deliver Update n time w ≡ apply Update n time (read_configuration w).configuration =
      applied n time old w (may-come-too n time (length p) (length w) a.0 (omega (arith, short))) read.accepted in
      let same : SameConfiguration (read_configuration w).configuration (merged first second) =
      subst (λ (c : Configuration). SameConfiguration (read_configuration w).configuration c) is read.same in
      let equal : TakesEqual (read_configuration w).configuration (merged first second) =
      exact p q w first second Reads-first Reads-second same in
      let o = applies-exactly n time (read_configuration w).configuration (merged first second) equal
      (of-draft (read_configuration w).configuration (in-range Draft w read.accepted)).met refl one.accepted in
      let comes = ap (λ (d : DeliveryResult). d.node) arrives ∙ o.1 in
      let left = ap (λ (d : DeliveryResult). d.node) then in
      record {
        merges = good.0;
        writes = writes;
        short = short;
        accepted = ap (λ (d : DeliveryResult). d.verdict) arrives ∙ o.0;
        node =
            record {
              but-counters = ap uncounted comes ∙ one.node.but-counters ∙ ap uncounted (sym left);
              ordinary = λ b. comes ∙ one.node.ordinary b ∙ sym left;
            };
      }
