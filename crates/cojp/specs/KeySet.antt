-- Key sets: one flat array of groups, each an identifier (unsigned), optionally a usage (unsigned, absent means 0),
-- a value (byte string) and, in the published form (RFC 9031), optionally additional information (byte string).
use Rattle.std.specs.Prelude.{ℕ, ◌-◌, Bool, true, false, cond, List, [], ◌∷◌, ◌++◌, length, replicate, Ok, Err}
use Rattle.std.proofs.Math.Option.{Option, none, some}
use Rattle.refusal.specs.declared.Refusal.TheVariants.{Keys}
use Rattle.cbor.specs.View.{Scalar, number, minus, string, other, View, scalar, list}
use Rattle.link_key.specs.AdditionalInfo.{additional_info_in}
use Rattle.link_key.specs.Key.{key_with_additional_info, no_key}
use Rattle.link_key.specs.set.KeySet.{no_keys, valid_keys}
use Rattle.link_key.specs.declared.Key.{Key}
use Rattle.link_key.specs.declared.additional_info.AdditionalInfo.{AdditionalInfo}
use Rattle.link_key.specs.declared.additional_info.AdditionalInfo.TheVariants as info
use Rattle.link_key.specs.declared.set.key_set.KeySet.{KeySet}
use Rattle.cojp.specs.declared.key_set.KeysRead.{KeysRead}
use Rattle.cojp.specs.Reading.{Reading, refused, read, Judgement, broken, unfit, good, concluded}
use Rattle.cojp.specs.declared.key_set.KeysParameter.{KeysParameter}
use Rattle.cojp.specs.declared.disposition.Disposition.{Disposition}
use Rattle.cojp.specs.declared.disposition.Disposition.TheVariants.{Absent, Taken}

-- the set of these keys, zeros in its other places
abbrev pub key_set_of : List Key → KeySet
key_set_of ks = record { count = length ks; keys = ks ++ replicate (8 - length ks) no_key }

-- ---- the parameter
abbrev pub keys_parameter : Disposition → KeySet → KeysParameter
keys_parameter r s = record { disposition = r; value = s }

abbrev pub no_keys_parameter : Disposition → KeysParameter
no_keys_parameter r = keys_parameter r no_keys

-- ---- reading
-- the groups, whatever their numbers and lengths are, or a pattern that is broken
pub data Groups : Type 0 where
  not_groups : Groups
  groups_of : List Key → Groups

abbrev pub group : ℕ → ℕ → List ℕ → AdditionalInfo → Groups → Groups
group i u v w not_groups = not_groups
group i u v w (groups_of ks) = groups_of (key_with_additional_info i u v w ∷ ks)

-- a group with a second byte string: only where keys may have additional information, and only of 4 or 8 bytes
abbrev pub further : Bool → ℕ → ℕ → List ℕ → Option AdditionalInfo → Groups → Groups
further false i u v w gs = not_groups
further true i u v none gs = not_groups
further true i u v (some w) gs = group i u v w gs

-- what comes next, `allows_additional_info` telling whether keys may have additional information: an identifier; after it a usage or a
-- value;
-- after a usage a value; after a value perhaps additional information, and then the next group
unfoldable mutual
  pub groups : Bool → List Scalar → Groups
  groups allowed [] = groups_of []
  groups allowed (number i ∷ r) = identified allowed i r
  groups allowed (minus n ∷ r) = not_groups
  groups allowed (string v ∷ r) = not_groups
  groups allowed (other ∷ r) = not_groups

  pub identified : Bool → ℕ → List Scalar → Groups
  identified allowed i [] = not_groups
  identified allowed i (number u ∷ r) = used allowed i u r
  identified allowed i (minus n ∷ r) = not_groups
  identified allowed i (string v ∷ r) = valued allowed i 0 v r
  identified allowed i (other ∷ r) = not_groups

  pub used : Bool → ℕ → ℕ → List Scalar → Groups
  used allowed i u [] = not_groups
  used allowed i u (number n ∷ r) = not_groups
  used allowed i u (minus n ∷ r) = not_groups
  used allowed i u (string v ∷ r) = valued allowed i u v r
  used allowed i u (other ∷ r) = not_groups

  pub valued : Bool → ℕ → ℕ → List ℕ → List Scalar → Groups
  valued allowed i u v [] = group i u v info.Absent (groups_of [])
  valued allowed i u v (number n ∷ r) = group i u v info.Absent (identified allowed n r)
  valued allowed i u v (minus n ∷ r) = not_groups
  valued allowed i u v (string w ∷ r) = further allowed i u v (additional_info_in w) (groups allowed r)
  valued allowed i u v (other ∷ r) = not_groups

-- the whole pattern comes before the limits
abbrev pub keys_in : Groups → Judgement KeySet
keys_in not_groups = broken
keys_in (groups_of ks) = cond (valid_keys ks) (good (key_set_of ks)) unfit

abbrev pub keys_judged_as : Bool → View → Judgement KeySet
keys_judged_as allowed (scalar p) = broken
keys_judged_as allowed (list ps) = keys_in (groups allowed ps)

-- a set outside the limits refuses the payload
abbrev pub keys_concluded : Judgement KeySet → Reading KeysParameter
keys_concluded j = concluded (refused Keys) (keys_parameter Taken) j

abbrev pub keys_read_as : Bool → View → Reading KeysParameter
keys_read_as allowed v = keys_concluded (keys_judged_as allowed v)

-- in draft 004 keys have no additional information
abbrev pub keys_read : View → Reading KeysParameter
keys_read v = keys_read_as false v

-- the answer: the value ends at `next`; beside a refusal the parameter is absent and `next` is 0
abbrev pub keys_answer : Reading KeysParameter → ℕ → KeysRead
keys_answer (refused k) next = record { verdict = Err k; parameter = no_keys_parameter Absent; next = 0 }
keys_answer (read p) next = record { verdict = Ok tt; parameter = p; next = next }
