-- What the form asks of an object, parameter by parameter: one of the other form is missing.
use Prim.Native.Nat.{ℕ}
use mathlib.Core.Path.{◌≡◌, refl}
use mathlib.Core.Bool.{Bool, true, false, ◌&&◌}
use mathlib.Core.List.{List, Memᴰ}
use native.Mathlib.Omega.{arith}
use lib.Dec.{leb}
use Rattle.lemmas.specs.logic.Tests.{both_left, both_right}
use Rattle.link_key.specs.set.KeyLaws.{KeyLaws}
use Rattle.link_key.specs.set.KeySet.{keys_of}
use Rattle.link_key.specs.declared.Key.{Key}
use Rattle.link_key.specs.declared.additional_info.AdditionalInfo.{AdditionalInfo}
use Rattle.link_key.specs.declared.additional_info.AdditionalInfo.TheVariants as info
use Rattle.cbor.specs.View.{Scalar}
use Rattle.cojp.specs.Lists.{Picked, strings_in, error_reports_in, at_least_one, kept}
use Rattle.protocol_version.specs.Version.{by_version, allows_additional_info}
use Rattle.cojp.specs.Writing.{octets_in_range, list_in_range, keys_without_additional_info, missing, of_version, request_in_range}
use Rattle.cojp.specs.declared.configuration.Configuration.{Configuration}
use Rattle.cojp.specs.declared.key_set.KeysParameter.{KeysParameter}
use Rattle.cojp.specs.declared.list.ListParameter.{ListParameter}
use Rattle.cojp.specs.declared.disposition.Disposition.{Disposition}
use Rattle.cojp.specs.declared.disposition.Disposition.TheVariants.{Absent, Taken, Discarded}
use Rattle.cojp.specs.declared.request.JoinRequest.{JoinRequest}
use Rattle.protocol_version.specs.declared.Version.{Version}
use Rattle.protocol_version.specs.declared.Version.TheVariants.{Draft, Published}

pub not_taken : (r : Disposition) → missing r ≡ true → r ≡ Taken → ⊥
not_taken Absent h e = let z : ◌≡◌ {A = ℕ} 0 1 = cc in omega arith
not_taken Taken h e = let z : ◌≡◌ {A = ℕ} 0 1 = cc in omega arith
not_taken Discarded h e = let z : ◌≡◌ {A = ℕ} 0 1 = cc in omega arith

-- what may be written of additional information
abbrev pub Fitting : Bool → AdditionalInfo → Type 0
Fitting true n = Unit {0}
Fitting false n = n ≡ info.Absent

pub record OfForm (v : Version) (c : Configuration) : Type 0 where
  pub keys : by_version v (keys_without_additional_info c.keys) true ≡ true
  pub network : by_version v true (missing c.network.disposition) ≡ true
  pub prefix : by_version v true (missing c.prefix.disposition) ≡ true
  pub blacklist : by_version v (missing c.blacklist.disposition) (list_in_range strings_in c.blacklist) ≡ true
  pub rate : by_version v (missing c.rate.disposition) true ≡ true

pub of-form : (v : Version) (c : Configuration) → of_version v c ≡ true → OfForm v c
unfolding of_version
of-form Draft c h =
    let k = keys_without_additional_info c.keys in
    let l = missing c.blacklist.disposition in
    let r = missing c.rate.disposition in
    let f = both_left (k && l) r h in
    record { keys = both_left k l f; network = refl; prefix = refl; blacklist = both_right k l f; rate = both_right (k && l) r h }
of-form Published c h =
    let n = missing c.network.disposition in
    let p = missing c.prefix.disposition in
    let l = list_in_range strings_in c.blacklist in
    let f = both_left (n && p) l h in
    record { keys = refl; network = both_left n p f; prefix = both_right n p f; blacklist = both_right (n && p) l h; rate = refl }

-- reports in a join request, in range
abbrev pub ReportsOf : Version → ListParameter → Type 0
ReportsOf v p = by_version v (missing p.disposition) (list_in_range (at_least_one error_reports_in) p) ≡ true

pub reports-of : (v : Version) (q : JoinRequest) → request_in_range v q ≡ true → ReportsOf v q.unsupported
unfolding request_in_range
reports-of v q h =
    both_right (leb q.role 1 && octets_in_range q.network)
    (by_version v (missing q.unsupported.disposition) (list_in_range (at_least_one error_reports_in) q.unsupported)) h

-- the draft's keys have no additional information
pub keys-fitting : KeyLaws → (v : Version) (p : KeysParameter) → by_version v (keys_without_additional_info p) true ≡ true
    → p.disposition ≡ Taken
    → (k : Key) → Memᴰ k (keys_of p.value) → Fitting (allows_additional_info v) k.info
keys-fitting keys Draft p h e k m = keys.plain-each (keys_of p.value) (simp e at h) k m
keys-fitting keys Published p h e k m = tt

-- a taken list is the published form's, and is kept
pub list-kept : (v : Version) (f : List Scalar → Picked) (p : ListParameter)
    → by_version v (missing p.disposition) (list_in_range f p) ≡ true → p.disposition ≡ Taken
    → (v ≡ Published) × (kept f p.value ≡ true)
list-kept Draft f p h e = absurd (not_taken p.disposition h e)
list-kept Published f p h e = (refl, simp e at h)

-- a parameter that only one form has
pub draft-taken : (v : Version) (r : Disposition) → by_version v true (missing r) ≡ true → r ≡ Taken → v ≡ Draft
draft-taken Draft r h e = refl
draft-taken Published r h e = absurd (not_taken r h e)

pub published-taken : (v : Version) (r : Disposition) → by_version v (missing r) true ≡ true → r ≡ Taken → v ≡ Published
published-taken Draft r h e = absurd (not_taken r h e)
published-taken Published r h e = refl
