-- For the contracts of the functions that read a key set: its groups as they stand in the bytes, and what a place and a set can hold.
use Rattle.std.specs.Prelude.{ℕ, ◌+◌, ◌-◌, ◌≤◌, ◌<◌, ◌≡◌, Bool, ◌&&◌, List, leb, eqb, length, take, drop}
use Rattle.std.specs.Option.{unwrap_or}
use Rattle.std.specs.declared.option.Option.{Option as Found}
use Rattle.std.specs.declared.option.Option.TheVariants.{None, Some}
use Rattle.std.proofs.Math.Option.{Option, none, some}
use Rattle.link_key.specs.AdditionalInfo.{additional_info_in}
use Rattle.link_key.specs.declared.additional_info.AdditionalInfo.{AdditionalInfo}
use Rattle.link_key.specs.declared.additional_info.AdditionalInfo.TheVariants as info
use Rattle.link_key.specs.declared.set.key_set.KeySet.{KeySet}
use Rattle.cojp.specs.Bytes.{members_at, after_members}
use Rattle.cojp.specs.KeySet.{Groups, not_groups, group, groups}
use Rattle.cojp_key_set.specs.declared.group.Group.{Group}

-- the answer about a byte string, as code has it
abbrev pub additional_info_answer : Option AdditionalInfo → Found AdditionalInfo
additional_info_answer none = None
additional_info_answer (some i) = Some i

-- the additional information that stands right before a place q, k bytes of it; of no bytes it is absent
abbrev pub additional_info_before : List ℕ → ℕ → ℕ → AdditionalInfo
additional_info_before s q k = unwrap_or (additional_info_answer (additional_info_in (take k (drop (q - k) s)))) info.Absent

-- what an answer of a group's reader says of these groups, n members being left
abbrev pub GroupAt : Bool → List ℕ → ℕ → Groups → Found Group → Type 0
GroupAt allowed s n gs None = gs ≡ not_groups
GroupAt allowed s n gs (Some g) =
    (g.start + g.len ≤ length s) × (g.extra ≤ g.next) × (g.next ≤ length s) × (g.left < n)
    × (gs ≡ group g.identifier g.usage (take g.len (drop g.start s)) (additional_info_before s g.next g.extra)
    (groups allowed (members_at g.left (drop g.next s))))

-- where the bytes go on after a group that begins at a place, n members being left
abbrev pub GroupRest : List ℕ → ℕ → ℕ → Found Group → Type 0
GroupRest s at n None = Unit {0}
GroupRest s at n (Some g) = after_members n (drop at s) ≡ after_members g.left (drop g.next s)

-- a place of a set can hold the key
abbrev pub storable : ℕ → ℕ → ℕ → Bool
storable identifier usage len = (leb identifier 255 && leb usage 255 && eqb len 16)

-- a set has 1 to 8 keys
abbrev pub some_few : KeySet → Bool
some_few set = (leb 1 set.count && leb set.count 8)
