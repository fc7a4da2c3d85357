-- Each parameter goes by its report, so each law is by cases on the reports of one parameter.
use Rattle.std.specs.Prelude.{Ok, Err}
use Prim.Native.Nat.{ℕ}
use mathlib.Core.Path.{◌≡◌, refl, ap, sym, ◌∙◌}
use mathlib.Core.Bool.{Bool, true, false, cond, ◌&&◌}
use lib.Dec.{eqb}
use native.Mathlib.Omega.{arith}
use mathlib.Core.Option.{none, some}
use Rattle.refusal.specs.declared.Refusal.{Refusal}
use Rattle.cojp.specs.Configuration.{empty_configuration}
use Rattle.link_key.specs.set.KeySet.{keys_of}
use Rattle.cojp.specs.DispositionLemmas.{by-disposition}
use Rattle.cojp.specs.ErrorReports.{no_error_reports}
use Rattle.cojp.specs.Lists.{no_list_parameter, bytes_in as list_bytes}
use Rattle.cojp.specs.Octets.{bytes_in, no_octets_parameter}
use Rattle.cojp.specs.Rate.{no_rate_parameter}
use Rattle.cojp.specs.Reading.{if_taken}
use Rattle.cojp.specs.Same.{lease_of, octets_taken, SameConfiguration}
use Rattle.cojp.specs.Writing.{keys_in_range, address_in_range, jrc_in_range, octets_in_range}
use Rattle.cojp.specs.Writing.{keys_without_additional_info, missing, of_version, configuration_in_range}
use Rattle.cojp.specs.declared.address.AddressParameter.{AddressParameter}
use Rattle.cojp.specs.declared.configuration.Configuration.{Configuration}
use Rattle.cojp.specs.declared.key_set.KeysParameter.{KeysParameter}
use Rattle.cojp.specs.declared.octets.OctetsParameter.{OctetsParameter}
use Rattle.cojp.specs.declared.disposition.Disposition.{Disposition}
use Rattle.cojp.specs.declared.disposition.Disposition.TheVariants.{Absent, Taken, Discarded}
use Rattle.protocol_version.specs.declared.Version.TheVariants.{Draft}
use Rattle.cojp_write.proofs.octets.Limits.{configuration-fits}
use Rattle.lemmas.specs.logic.Tests.{both_left, both_right, both_true}
use Rattle.cojp_merge.specs.Laws.{Associative, NeutralFirst, NeutralSecond, StaysInRange, RefusedEmpty}
use Rattle.cojp_merge.specs.Merge.{merged, of_draft, merge_answer, outside_limits}
use Rattle.cojp_merge.specs.declared.MergeResult.{MergeResult}

-- ---- one parameter, which tells its report
module _ {A : Type 0} (report : A → Disposition) where
  bracket : (x y z : A) (r : Disposition) → report z ≡ r
      → if_taken (report z) z (if_taken (report y) y x) ≡ if_taken (report (if_taken (report z) z y)) (if_taken (report z) z y) x
  bracket x y z Absent e = rw e
  bracket x y z Taken e = rw (e, e)
  bracket x y z Discarded e = rw e

  -- after one that is absent, what is taken is seen as it is
  seen-after : {B : Type 0} (value : A → B) (absent x : A) (r : Disposition) → report absent ≡ Absent → report x ≡ r
      → if_taken (report (if_taken (report x) x absent)) (some (value (if_taken (report x) x absent))) none
      ≡ if_taken (report x) (some (value x)) none
  seen-after value absent x Absent n e = rw (e, n)
  seen-after value absent x Taken n e = rw (e, e)
  seen-after value absent x Discarded n e = rw (e, n)

-- ---- the draft's five parameters
abbrev of-five : KeysParameter → AddressParameter → OctetsParameter → OctetsParameter → OctetsParameter → Configuration
of-five keys address jrc network prefix = record {
  keys = keys;
  address = address;
  jrc = jrc;
  network = network;
  prefix = prefix;
  blacklist = no_list_parameter Absent;
  rate = no_rate_parameter Absent;
  labels = no_error_reports;
  unknown = 0;
}

from-five : {k l : KeysParameter} {a b : AddressParameter} {j i n m p q : OctetsParameter} → k ≡ l → a ≡ b → j ≡ i → n ≡ m → p ≡ q
    → of-five k a j n p ≡ of-five l b i m q
from-five e f g h o = rw (e, f, g, h, o)

brackets : (a b c : Configuration) → merged (merged a b) c ≡ merged a (merged b c)
brackets a b c =
    from-five
    (bracket (λ (x : KeysParameter). x.disposition) a.keys b.keys c.keys c.keys.disposition refl)
    (bracket (λ (x : AddressParameter). x.disposition) a.address b.address c.address c.address.disposition refl)
    (bracket (λ (x : OctetsParameter). x.disposition) a.jrc b.jrc c.jrc c.jrc.disposition refl)
    (bracket (λ (x : OctetsParameter). x.disposition) a.network b.network c.network c.network.disposition refl)
    (bracket (λ (x : OctetsParameter). x.disposition) a.prefix b.prefix c.prefix c.prefix.disposition refl)

-- what else the draft asks: plain keys, no blacklist, no join rate
record Drafted (c : Configuration) : Type 0 where
  keys : keys_without_additional_info c.keys ≡ true
  blacklist : missing c.blacklist.disposition ≡ true
  rate : missing c.rate.disposition ≡ true

drafted : (c : Configuration) → of_version Draft c ≡ true → Drafted c
unfolding of_version
drafted c e =
    let k = keys_without_additional_info c.keys in
    let b = missing c.blacklist.disposition in
    let r = missing c.rate.disposition in
    let f = both_left (k && b) r e in
    record { keys = both_left k b f; blacklist = both_right k b f; rate = both_right (k && b) r e }

merged-in-range : (a b : Configuration) → configuration_in_range Draft a ≡ true → configuration_in_range Draft b ≡ true
    → configuration_in_range Draft (merged a b) ≡ true
unfolding configuration_in_range of_version
merged-in-range a b e f =
    let x = configuration-fits Draft a e in
    let y = configuration-fits Draft b f in
    let k =
    by-disposition (λ (p : KeysParameter). keys_in_range p ≡ true) b.keys.disposition {x = b.keys} {y = a.keys} y.keys x.keys in
    let l = by-disposition (λ (p : AddressParameter). address_in_range p ≡ true) b.address.disposition {x = b.address} {y = a.address}
    y.address x.address in
    let j =
    by-disposition (λ (p : OctetsParameter). jrc_in_range p ≡ true) b.jrc.disposition {x = b.jrc} {y = a.jrc} y.jrc x.jrc in
    let n = by-disposition (λ (p : OctetsParameter). octets_in_range p ≡ true) b.network.disposition {x = b.network} {y = a.network}
    y.network x.network in
    let p = by-disposition (λ (q : OctetsParameter). octets_in_range q ≡ true) b.prefix.disposition {x = b.prefix} {y = a.prefix}
    y.prefix x.prefix in
    let o = by-disposition (λ (q : KeysParameter). keys_without_additional_info q ≡ true) b.keys.disposition {x = b.keys} {y = a.keys}
    (drafted b y.form).keys (drafted a x.form).keys in
    six k l j n p o
  where
    six : {k l j n p o : Bool} → k ≡ true → l ≡ true → j ≡ true → n ≡ true → p ≡ true → o ≡ true
        → (k && l && j && n && p && (o && true && true)) ≡ true
    six e f g h i o = rw (e, f, g, h, i, o)

-- what is missing is seen as none
none_seen : {A : Type 0} (x : A) (r : Disposition) → missing r ≡ true → none ≡ if_taken r (some x) none
none_seen x Absent e = refl
none_seen x Taken e = absurd (let z : ◌≡◌ {A = ℕ} 0 1 = cc in omega arith)
none_seen x Discarded e = refl

-- ---- of the draft: the limits, and no label noted
draft-limits : (c : Configuration) → of_draft c ≡ true → configuration_in_range Draft c ≡ true
unfolding of_draft
draft-limits c e = both_left (configuration_in_range Draft c) (eqb c.labels.count 0) e

pub of-draft : (c : Configuration) → configuration_in_range Draft c ≡ true → eqb c.labels.count 0 ≡ true → of_draft c ≡ true
unfolding of_draft
of-draft c e f = rw (e, f)

merged-of-draft : (a b : Configuration) → of_draft a ≡ true → of_draft b ≡ true → of_draft (merged a b) ≡ true
merged-of-draft a b e f = of-draft (merged a b) (merged-in-range a b (draft-limits a e) (draft-limits b f)) refl

-- ---- the answer
abbrev pub answered : Configuration → MergeResult
answered c = record { verdict = Ok tt; configuration = c }

pub merge-answered : (a b : Configuration) → of_draft a ≡ true → of_draft b ≡ true → answered (merged a b) ≡ merge_answer a b
unfolding merge_answer
merge-answered a b e f = rw (e, f)

pub merge-first-outside : (a b : Configuration) → of_draft a ≡ false → outside_limits ≡ merge_answer a b
unfolding merge_answer
merge-first-outside a b e = rw e

pub merge-second-outside : (a b : Configuration) → of_draft b ≡ false → outside_limits ≡ merge_answer a b
unfolding merge_answer
merge-second-outside a b f = by (of_draft a)
  where
    by : (x : Bool) → outside_limits ≡ cond (x && of_draft b) (answered (merged a b)) outside_limits
    by true = rw f
    by false = refl

accepted-test : (t : Bool) (c : Configuration) → (cond t (answered c) outside_limits).verdict ≡ Ok tt → t ≡ true
accepted-test true c e = refl
accepted-test false c e = absurd (let z : ◌≡◌ {A = ℕ} 0 1 = cc in omega arith)

accepted-of-draft : (a b : Configuration) → (merge_answer a b).verdict ≡ Ok tt → (of_draft a ≡ true) × (of_draft b ≡ true)
unfolding merge_answer
accepted-of-draft a b e = both_true (of_draft a) (of_draft b) (accepted-test (of_draft a && of_draft b) (merged a b) e)

accepted-is : (a b : Configuration) → (merge_answer a b).verdict ≡ Ok tt → (merge_answer a b).configuration ≡ merged a b
accepted-is a b e =
    let r = accepted-of-draft a b e in
    ap (λ (m : MergeResult). m.configuration) (sym (merge-answered a b r.0 r.1))

pub associative : Associative
associative a b c e f =
    let r = accepted-of-draft a b e in
    let s = accepted-of-draft b c f in
    rw (accepted-is a b e, accepted-is b c f)
    (sym (merge-answered (merged a b) c (merged-of-draft a b r.0 r.1) s.1)
    ∙ ap answered (brackets a b c)
    ∙ merge-answered a (merged b c) r.0 (merged-of-draft b c s.0 s.1))

pub neutral-first : NeutralFirst
neutral-first c e =
    rw (accepted-is empty_configuration c e)
    (same (drafted c (configuration-fits Draft c (draft-limits c (accepted-of-draft empty_configuration c e).1)).form))
  where
    same : Drafted c → SameConfiguration (merged empty_configuration c) c
    same d = record {
      keys = seen-after (λ (x : KeysParameter). x.disposition) (λ (x : KeysParameter). keys_of x.value) empty_configuration.keys
          c.keys c.keys.disposition refl refl;
      address =
          seen-after (λ (x : AddressParameter). x.disposition) (λ (x : AddressParameter). (x.value.bytes, lease_of x.value))
          empty_configuration.address c.address c.address.disposition refl refl;
      jrc = octets c.jrc;
      network = octets c.network;
      prefix = octets c.prefix;
      blacklist = none_seen (c.blacklist.value.count, list_bytes c.blacklist.value) c.blacklist.disposition d.blacklist;
      rate = none_seen c.rate.value c.rate.disposition d.rate;
    }
      where
        octets : (p : OctetsParameter) → octets_taken (if_taken p.disposition p (no_octets_parameter Absent)) ≡ octets_taken p
        octets p = seen-after (λ (x : OctetsParameter). x.disposition) (λ (x : OctetsParameter). bytes_in x.value)
            (no_octets_parameter Absent) p p.disposition refl refl

pub neutral-second : NeutralSecond
neutral-second c e =
    let d = drafted c (configuration-fits Draft c (draft-limits c (accepted-of-draft c empty_configuration e).0)).form in
    rw (accepted-is c empty_configuration e) (record {
      keys = refl;
      address = refl;
      jrc = refl;
      network = refl;
      prefix = refl;
      blacklist = none_seen (c.blacklist.value.count, list_bytes c.blacklist.value) c.blacklist.disposition d.blacklist;
      rate = none_seen c.rate.value c.rate.disposition d.rate;
    })

pub in-range : StaysInRange
in-range a b e f =
    let answer = sym (merge-answered a b e f) in
    (ap (λ (m : MergeResult). m.verdict) answer, rw answer (merged-of-draft a b e f))

refused-test : (t : Bool) (c : Configuration) (k : Refusal) → (cond t (answered c) outside_limits).verdict ≡ Err k
    → (cond t (answered c) outside_limits).configuration ≡ empty_configuration
refused-test true c k e = absurd (let z : ◌≡◌ {A = ℕ} 0 1 = cc in omega arith)
refused-test false c k e = refl

pub refused : RefusedEmpty
unfolding merge_answer
refused a b k e = refused-test (of_draft a && of_draft b) (merged a b) k e
