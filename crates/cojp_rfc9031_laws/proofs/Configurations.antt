-- A configuration of the published form: which parameters are absent tells which labels have not come, and what came is noted in its order.
use Prim.Native.Nat.{ℕ, suc, ◌+◌, ◌≤◌}
use native.Mathlib.Omega.{arith}
use mathlib.Core.Path.{◌≡◌, refl, sym, ap, ◌∙◌}
use mathlib.Core.Bool.{Bool, true, false, cond, ◌||◌}
use mathlib.Core.List.{List, [], ◌∷◌, ◌++◌}
use lib.Dec.{eqb}
use lib.ListN.{length, length-append}
use borrow.Author.Tests.{eqb-true}
use Rattle.cbor.specs.Strict.{head_by}
use Rattle.cbor.specs.View.{View}
use Rattle.cojp.specs.Address.{no_address_parameter, address_judged, address_read}
use Rattle.cojp.specs.Configuration.{empty_configuration, with_keys, with_address, with_jrc, with_blacklist, with_rate}
use Rattle.cojp.specs.Configuration.{with_unknown_count, label_status_for, noted, configuration_taking, configuration_form}
use Rattle.cojp.specs.ErrorReports.{error_report_of}
use Rattle.cojp.specs.KeySet.{no_keys_parameter, keys_judged_as, keys_read_as}
use Rattle.cojp.specs.Lists.{list_answer, fitting, in_array, strings_in, blacklist_taken}
use Rattle.cojp.specs.Octets.{no_octets_parameter, octets_judged, octets_read}
use Rattle.cojp.specs.Parameter.{parameter_of, later_parameter}
use Rattle.cojp.specs.Rate.{rate_taken}
use Rattle.cojp.specs.Reading.{malformed_as}
use Rattle.cojp.specs.Walk.{label_status_of, payload_read_by}
use Rattle.cojp.specs.declared.configuration.Configuration.{Configuration}
use Rattle.cojp.specs.declared.error_report.ErrorReport.{ErrorReport}
use Rattle.cojp.specs.declared.disposition.Disposition.TheVariants.{Discarded}
use Rattle.protocol_version.specs.declared.Version.TheVariants.{Published}
use Rattle.lemmas.specs.logic.Tests.{never}
use Rattle.cojp_rfc9031_laws.specs.InOrder.{malformed, times_in}
use Rattle.cojp_rfc9031_laws.specs.Labels.{configuration_labels, is_in, Known, known_of, labels_of}
use Rattle.cojp_rfc9031_laws.specs.Labels.{known_in, pairs_in, labels_verdict, payload_verdict}
use Rattle.cojp_rfc9031_laws.proofs.Labels.{in-snoc, stood, stands_by, stays, comes, flag, flag-most, each_label}
use Rattle.cojp_rfc9031_laws.proofs.Noting.{Holds, none-held, added-held}
use Rattle.cojp_rfc9031_laws.proofs.Values.{keys-met, address-met, octets-met, list-met, rate-met}
use Rattle.cojp_rfc9031_laws.proofs.Walk.{Took, Agrees, payload-agrees}

-- ---- what came
-- how many of the five labels are among these
abbrev pub many : List ℕ → ℕ
many ls = flag (is_in 2 ls) + flag (is_in 3 ls) + flag (is_in 4 ls) + flag (is_in 6 ls) + flag (is_in 7 ls)

pub five-most : (ls : List ℕ) → many ls ≤ 5
five-most ls =
    omega (arith, flag-most (is_in 2 ls), flag-most (is_in 3 ls), flag-most (is_in 4 ls), flag-most (is_in 6 ls), flag-most (is_in 7 ls))

malformed-snoc : (ks : List Known) (k : Known) → malformed (ks ++ (k ∷ [])) ≡ malformed ks ++ (error_report_of 1 k.label ∷ [])
malformed-snoc [] k = refl
malformed-snoc (j ∷ ks) k = ap (λ (l : List ErrorReport). error_report_of 1 j.label ∷ l) (malformed-snoc ks k)

times_snoc : (n : ℕ) (xs : List ErrorReport) (x : ErrorReport)
    → times_in n (xs ++ (x ∷ [])) ≡ cond (eqb n x.label) (times_in n xs + 1) (times_in n xs)
times_snoc n [] x = refl
times_snoc n (y ∷ xs) x =
    ap (λ (m : ℕ). cond (eqb n y.label) (m + 1) m) (times_snoc n xs x) ∙ by (eqb n x.label) (eqb n y.label) (times_in n xs)
  where
    by : (a b : Bool) (m : ℕ) → cond b (cond a (m + 1) m + 1) (cond a (m + 1) m) ≡ cond a (cond b (m + 1) m + 1) (cond b (m + 1) m)
    by true true m = refl
    by true false m = refl
    by false true m = refl
    by false false m = refl

pub malformed-long : (ks : List Known) → length (malformed ks) ≡ length ks
malformed-long [] = refl
malformed-long (k ∷ ks) = ap suc (malformed-long ks)

pub record Seen (ks : List Known) (c : Configuration) : Type 0 where
  pub keys : label_status_of c.keys.disposition ≡ stood (is_in 2 (labels_of ks))
  pub address : label_status_of c.address.disposition ≡ stood (is_in 3 (labels_of ks))
  pub jrc : label_status_of c.jrc.disposition ≡ stood (is_in 4 (labels_of ks))
  pub blacklist : label_status_of c.blacklist.disposition ≡ stood (is_in 6 (labels_of ks))
  pub rate : label_status_of c.rate.disposition ≡ stood (is_in 7 (labels_of ks))
  pub many-met : length ks ≡ many (labels_of ks)
  pub alone : (n : ℕ) → times_in n (malformed ks) ≡ flag (is_in n (labels_of ks))
  pub met : Holds c.labels (malformed ks)

pub none_seen : Seen [] empty_configuration
none_seen = record {
  keys = refl;
  address = refl;
  jrc = refl;
  blacklist = refl;
  rate = refl;
  many-met = refl;
  alone = λ n. refl;
  met = none-held;
}

pub pass-seen : (ks : List Known) (c : Configuration) → Seen ks c → Seen ks (with_unknown_count c (c.unknown + 1))
pass-seen ks c h = record {
  keys = h.keys;
  address = h.address;
  jrc = h.jrc;
  blacklist = h.blacklist;
  rate = h.rate;
  many-met = h.many-met;
  alone = h.alone;
  met = h.met;
}

-- ---- the standing of a label
pub stands : (ks : List Known) (c : Configuration) → Seen ks c → (n : ℕ) →
    label_status_for c (parameter_of Published n) ≡ stands_by configuration_labels (labels_of ks) n
unfolding parameter_of later_parameter
stands ks c h n =
    each_label (λ (m : ℕ). label_status_for c (parameter_of Published m) ≡ stands_by configuration_labels (labels_of ks) m) n
    h.keys h.address h.jrc h.blacklist h.rate (λ a b d f g. rw (a, b, d, f, g))

-- ---- one label more
module _ (ks : List Known) (c : Configuration) (h : Seen ks c) (v : View) where
  -- one of the five more
  abbrev OneMore : ℕ → Type 0
  OneMore n = many (labels_of (ks ++ (known_of n v ∷ []))) ≡ many (labels_of ks) + 1

  counted : (n : ℕ) → OneMore n → length (ks ++ (known_of n v ∷ [])) ≡ many (labels_of (ks ++ (known_of n v ∷ [])))
  counted n one = length-append ks (known_of n v ∷ []) ∙ omega (arith, one, h.many-met)

  noted-held : (n : ℕ) → OneMore n → Holds (noted Published n c).labels (malformed (ks ++ (known_of n v ∷ [])))
  noted-held n one =
      rw (malformed-snoc ks (known_of n v))
      (added-held c.labels (malformed ks) 1 n h.met
      (omega (arith, malformed-long ks, one, h.many-met, five-most (labels_of (ks ++ (known_of n v ∷ []))))))

  alone-still : (m : ℕ) → is_in m (labels_of ks) ≡ false → (n : ℕ) →
      times_in n (malformed (ks ++ (known_of m v ∷ []))) ≡ flag (is_in n (labels_of (ks ++ (known_of m v ∷ []))))
  alone-still m e n =
      ap (times_in n) (malformed-snoc ks (known_of m v)) ∙ times_snoc n (malformed ks) (error_report_of 1 m) ∙ by (eqb n m) refl
      ∙ ap flag (sym (in-snoc n ks (known_of m v)))
    where
      by : (b : Bool) → eqb n m ≡ b → cond b (times_in n (malformed ks) + 1) (times_in n (malformed ks))
          ≡ flag (b || is_in n (labels_of ks))
      by true q =
          let none : is_in n (labels_of ks) ≡ false = ap (λ (x : ℕ). is_in x (labels_of ks)) (eqb-true n m q) ∙ e in
          let never-yet : times_in n (malformed ks) ≡ 0 = h.alone n ∙ ap flag none in
          omega arith
      by false q = h.alone n

  take-keys : is_in 2 (labels_of ks) ≡ false →
      Seen (ks ++ (known_of 2 v ∷ [])) (noted Published 2 (with_keys c (malformed_as (no_keys_parameter Discarded) (keys_read_as true v))))
  take-keys e =
      let k = known_of 2 v in
      let one : OneMore 2 = rw (in-snoc 2 ks k, in-snoc 3 ks k, in-snoc 4 ks k, in-snoc 6 ks k, in-snoc 7 ks k, e) (omega arith) in
      record {
        keys = comes 2 ks k _ refl (keys-met (keys_judged_as true v));
        address = stays 3 ks k _ refl h.address;
        jrc = stays 4 ks k _ refl h.jrc;
        blacklist = stays 6 ks k _ refl h.blacklist;
        rate = stays 7 ks k _ refl h.rate;
        many-met = counted 2 one;
        alone = alone-still 2 e;
        met = noted-held 2 one;
      }

  take-address : is_in 3 (labels_of ks) ≡ false →
      Seen (ks ++ (known_of 3 v ∷ [])) (noted Published 3 (with_address c (malformed_as (no_address_parameter Discarded) (address_read v))))
  take-address e =
      let k = known_of 3 v in
      let one : OneMore 3 = rw (in-snoc 2 ks k, in-snoc 3 ks k, in-snoc 4 ks k, in-snoc 6 ks k, in-snoc 7 ks k, e) (omega arith) in
      record {
        keys = stays 2 ks k _ refl h.keys;
        address = comes 3 ks k _ refl (address-met (address_judged v));
        jrc = stays 4 ks k _ refl h.jrc;
        blacklist = stays 6 ks k _ refl h.blacklist;
        rate = stays 7 ks k _ refl h.rate;
        many-met = counted 3 one;
        alone = alone-still 3 e;
        met = noted-held 3 one;
      }

  take-jrc : is_in 4 (labels_of ks) ≡ false →
      Seen (ks ++ (known_of 4 v ∷ [])) (noted Published 4 (with_jrc c (malformed_as (no_octets_parameter Discarded) (octets_read 16 v))))
  take-jrc e =
      let k = known_of 4 v in
      let one : OneMore 4 = rw (in-snoc 2 ks k, in-snoc 3 ks k, in-snoc 4 ks k, in-snoc 6 ks k, in-snoc 7 ks k, e) (omega arith) in
      record {
        keys = stays 2 ks k _ refl h.keys;
        address = stays 3 ks k _ refl h.address;
        jrc = comes 4 ks k _ refl (octets-met (octets_judged 16 v));
        blacklist = stays 6 ks k _ refl h.blacklist;
        rate = stays 7 ks k _ refl h.rate;
        many-met = counted 4 one;
        alone = alone-still 4 e;
        met = noted-held 4 one;
      }

  take-blacklist : is_in 6 (labels_of ks) ≡ false →
      Seen (ks ++ (known_of 6 v ∷ [])) (noted Published 6 (with_blacklist c (blacklist_taken v)))
  take-blacklist e =
      let k = known_of 6 v in
      let one : OneMore 6 = rw (in-snoc 2 ks k, in-snoc 3 ks k, in-snoc 4 ks k, in-snoc 6 ks k, in-snoc 7 ks k, e) (omega arith) in
      record {
        keys = stays 2 ks k _ refl h.keys;
        address = stays 3 ks k _ refl h.address;
        jrc = stays 4 ks k _ refl h.jrc;
        blacklist = comes 6 ks k _ refl (list-met (list_answer (fitting 253 (in_array strings_in v))));
        rate = stays 7 ks k _ refl h.rate;
        many-met = counted 6 one;
        alone = alone-still 6 e;
        met = noted-held 6 one;
      }

  take-rate : is_in 7 (labels_of ks) ≡ false → Seen (ks ++ (known_of 7 v ∷ [])) (noted Published 7 (with_rate c (rate_taken v)))
  take-rate e =
      let k = known_of 7 v in
      let one : OneMore 7 = rw (in-snoc 2 ks k, in-snoc 3 ks k, in-snoc 4 ks k, in-snoc 6 ks k, in-snoc 7 ks k, e) (omega arith) in
      record {
        keys = stays 2 ks k _ refl h.keys;
        address = stays 3 ks k _ refl h.address;
        jrc = stays 4 ks k _ refl h.jrc;
        blacklist = stays 6 ks k _ refl h.blacklist;
        rate = comes 7 ks k _ refl (rate-met v);
        many-met = counted 7 one;
        alone = alone-still 7 e;
        met = noted-held 7 one;
      }

  pub takes : (n : ℕ) → is_in n configuration_labels ≡ true → is_in n (labels_of ks) ≡ false →
      Took (Seen (ks ++ (known_of n v ∷ []))) (configuration_taking Published c n v)
  unfolding configuration_taking parameter_of later_parameter
  takes n =
      each_label
      (λ (m : ℕ). is_in m configuration_labels ≡ true → is_in m (labels_of ks) ≡ false →
      Took (Seen (ks ++ (known_of m v ∷ []))) (configuration_taking Published c m v)) n (λ e. take-keys) (λ e. take-address) (λ e. take-jrc)
      (λ e. take-blacklist) (λ e. take-rate) (λ a b d f g e. never (is_in n configuration_labels) e (rw (a, b, d, f, g)))

-- ---- the whole payload
pub configuration-agrees : (strict : Bool) (p : List ℕ) →
    Agrees (payload_verdict (labels_verdict configuration_labels []) strict p) (Seen (known_in configuration_labels (pairs_in strict p)))
    (payload_read_by (configuration_form Published) (head_by strict) empty_configuration p)
configuration-agrees =
    payload-agrees (configuration_form Published) configuration_labels Seen stands pass-seen (λ ks c h n v. takes ks c h v n)
    empty_configuration none_seen
