-- A reading of the published form notes each known label, so one that took something has a label noted; a reading of the draft notes none.
use Rattle.std.specs.Prelude.{Ok}
use Prim.Native.Nat.{ℕ, ◌+◌}
use native.Mathlib.Omega.{arith}
use mathlib.Core.Path.{◌≡◌, refl, ap, sym}
use mathlib.Core.Bool.{Bool, true, false, cond, ◌&&◌}
use mathlib.Core.List.{List}
use mathlib.Core.Logic.{◌⊎◌, inl, inr}
use lib.Dec.{eqb, ltb}
use lib.ListN.{set}
use borrow.Author.Tests.{ne_eqb, ltb-false}
use Rattle.cbor.specs.Decode.{payload_by, decode_by, heading, argument, next, members, pairs, major_of}
use Rattle.cbor.specs.Strict.{head_by}
use Rattle.cbor.specs.View.{View}
use Rattle.short_address.specs.Address.{is_address}
use Rattle.lemmas.specs.logic.Tests.{never}
use Rattle.cojp.specs.Address.{address_in}
use Rattle.cojp.specs.Configuration.{empty_configuration, with_unknown_count, taking_for, noted, configuration_taking, configuration_form}
use Rattle.cojp.specs.Configuration.{configuration_answer, read_configuration}
use Rattle.cojp.specs.ErrorReports.{error_report_of, error_reports_valid, added}
use Rattle.cojp.specs.InRange.{InRange, ReadsInRange}
use Rattle.cojp.specs.Parameter.{parameter_of, later_parameter}
use Rattle.cojp.specs.Reading.{Reading, refused, read, map_reading}
use Rattle.cojp.specs.Same.{SameConfiguration}
use Rattle.cojp.specs.Walk.{payload_read_by}
use Rattle.cojp.specs.Writing.{configuration_in_range, of_version}
use Rattle.cojp.specs.declared.configuration.Configuration.{Configuration}
use Rattle.cojp.specs.declared.error_report.ErrorReports.{ErrorReports}
use Rattle.protocol_version.specs.declared.Version.TheVariants.{Draft, Published}
use Rattle.cojp.proofs.Walks.{Gives, payload-gives}
use Rattle.cojp_merge.specs.Laws.{published_in, RangeToMerge, DraftAlone}
use Rattle.cojp_merge.specs.Merge.{of_draft, merge_answer}
use Rattle.cojp_merge.specs.declared.MergeResult.{MergeResult}
use Rattle.cojp_merge.proofs.Merging.{of-draft, merge-answered, merge-first-outside, merge-second-outside}

-- ---- the published form
-- one more report: there is one
added-some : (f : ErrorReports) (code label : ℕ) → eqb (added f code label).count 0 ≡ false
unfolding added
added-some f code label = by (ltb f.count 5) refl
  where
    by : (b : Bool) → ltb f.count 5 ≡ b →
        eqb (cond b (record { count = f.count + 1; reports = set f.reports f.count (error_report_of code label) }) f).count 0 ≡ false
    by true e = ne_eqb (f.count + 1) 0 (λ q. omega arith)
    by false e = ne_eqb f.count 0 (λ q. omega (arith, ltb-false f.count 5 e))

abbrev NotedOrEmpty : Configuration → Type 0
NotedOrEmpty c = eqb c.labels.count 0 ≡ true → SameConfiguration c empty_configuration

passed : (c : Configuration) (n : ℕ) → NotedOrEmpty c → NotedOrEmpty (with_unknown_count c n)
passed c n h e =
    let s = h e in
    record {
      keys = s.keys;
      address = s.address;
      jrc = s.jrc;
      network = s.network;
      prefix = s.prefix;
      blacklist = s.blacklist;
      rate = s.rate;
    }

after-label : (n : ℕ) (r : Reading Configuration) → Gives NotedOrEmpty (map_reading (noted Published n) r)
after-label n (refused k) = tt
after-label n (read c) = λ e. never (eqb (added c.labels 1 n).count 0) e (added-some c.labels 1 n)

taken : (c : Configuration) (n : ℕ) (x : View) → Gives NotedOrEmpty (configuration_taking Published c n x)
unfolding configuration_taking
taken c n x = after-label n (taking_for Published c (parameter_of Published n) x)

empty-same : SameConfiguration empty_configuration empty_configuration
empty-same = record { keys = refl; address = refl; jrc = refl; network = refl; prefix = refl; blacklist = refl; rate = refl }

noted-or-empty : (strict : Bool) (p : List ℕ) → NotedOrEmpty (published_in strict p)
noted-or-empty strict p =
    go (payload_read_by (configuration_form Published) (head_by strict) empty_configuration p)
    (payload-gives (configuration_form Published) NotedOrEmpty (λ c h. passed c (c.unknown + 1) h) (λ c h n fresh. taken c n)
    (head_by strict) empty_configuration (λ e. empty-same) p)
  where
    go : (r : Reading Configuration) → Gives NotedOrEmpty r → NotedOrEmpty (configuration_answer r).configuration
    go (refused k) h = λ e. empty-same
    go (read c) h = h

not-of-draft : (c : Configuration) → eqb c.labels.count 0 ≡ false → of_draft c ≡ false
unfolding of_draft
not-of-draft c e = by (configuration_in_range Draft c)
  where
    by : (x : Bool) → (x && eqb c.labels.count 0) ≡ false
    by true = e
    by false = refl

published-outside : (strict : Bool) (p : List ℕ) (d : Configuration)
    → RangeToMerge (published_in strict p) d ⊎ SameConfiguration (published_in strict p) empty_configuration
published-outside strict p d = by (eqb (published_in strict p).labels.count 0) refl
  where
    by : (b : Bool) → eqb (published_in strict p).labels.count 0 ≡ b
        → RangeToMerge (published_in strict p) d ⊎ SameConfiguration (published_in strict p) empty_configuration
    by true e = inr (noted-or-empty strict p e)
    by false e =
        let outside = not-of-draft (published_in strict p) e in
        inl (record {
          first = sym (merge-first-outside (published_in strict p) d outside);
          second = sym (merge-second-outside d (published_in strict p) outside);
        })

-- ---- the draft
read-of-draft : (c : Configuration) → InRange Draft c → of_draft c ≡ true
unfolding configuration_in_range error_reports_valid
read-of-draft c i = of-draft c (rw (i.keys, i.address, i.jrc, i.network, i.prefix, i.form)) i.met

drafts-merge : ReadsInRange → (p q : List ℕ) → (read_configuration p).verdict ≡ Ok tt → (read_configuration q).verdict ≡ Ok tt
    → (merge_answer (read_configuration p).configuration (read_configuration q).configuration).verdict ≡ Ok tt
drafts-merge L p q e f =
    let a = (read_configuration p).configuration in
    let b = (read_configuration q).configuration in
    ap (λ (m : MergeResult). m.verdict)
    (sym (merge-answered a b (read-of-draft a (L Draft p e)) (read-of-draft b (L Draft q f))))

pub draft-alone : ReadsInRange → DraftAlone
unfolding payload_by decode_by heading argument next members pairs major_of is_address address_in payload_read_by parameter_of
    later_parameter
    configuration_taking added merge_answer of_draft configuration_in_range of_version
draft-alone L = record { draft = drafts-merge L; published = published-outside; second = refl; hour = refl }
