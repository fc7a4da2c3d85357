-- For the contracts of the functions that gather members into a destination.
use Rattle.std.specs.Prelude.{ℕ, ◌-◌, ◌<◌, true, false, ◌≡◌, List, [], ◌∷◌, length, drop, Option, Some, None}
use Rattle.byte_io.specs.Write.{Wrote}
use Rattle.cbor.specs.View.{Scalar, other}
use Rattle.cojp.specs.Lists.{Picked, nothing, picked, before, fitting, list_answer, written, is_integer, integer, error_reports_in}
use Rattle.cojp.specs.Bytes.{members_at}
use Rattle.cojp.specs.declared.list.ListRead.{ListRead}
use Rattle.cojp_list.specs.declared.list.Gathered.{Gathered}
use Rattle.cojp_list.specs.declared.error_entry.Integer.{Integer}
use Rattle.cojp_list.specs.declared.error_entry.ErrorEntry.{ErrorEntry}
use Rattle.cojp_list.specs.declared.error_entry.Position.{Position}

-- what an answer says, d being the destination before and d' afterwards, and q what is to be kept
abbrev pub GatheredAs : Picked → List ℕ → Option Gathered → List ℕ → Type 0
GatheredAs q d None d' = fitting (length d) q ≡ nothing
GatheredAs q d (Some g) d' =
    (ps : List Scalar) × (fitting (length d) q ≡ picked ps) × (g.members ≡ length ps) × Wrote (written ps) d g.len d'

-- what was gathered into the front of the bytes, as a list
abbrev pub gathered_list : Option Gathered → List ℕ → ListRead
gathered_list None b = list_answer nothing
gathered_list (Some g) b = record { good = true; value = record { count = g.members; len = g.len; bytes = b } }

-- ---- reports: what is said of the members at a place, n being left
-- no integer comes next
abbrev pub NoNumber : List Scalar → Type 0
NoNumber [] = Unit {0}
NoNumber (p ∷ ps) = is_integer p ≡ false

-- an integer as a member
abbrev pub signed : Integer → Scalar
signed i = integer i.negative i.number

abbrev pub IntegerAt : List ℕ → ℕ → ℕ → Option (Integer × ℕ) → Type 0
IntegerAt s at n None = NoNumber (members_at n (drop at s))
IntegerAt s at n (Some r) = (0 < n) × (members_at n (drop at s) ≡ signed r.0 ∷ members_at (n - 1) (drop r.1 s))

abbrev pub AnyAt : List ℕ → ℕ → ℕ → Position → Type 0
AnyAt s at n r = (x : Scalar) × (r.left < n) × (members_at n (drop at s) ≡ x ∷ members_at r.left (drop r.next s))

abbrev pub ErrorEntryAt : List ℕ → ℕ → Picked → Option ErrorEntry → Type 0
ErrorEntryAt s n q None = q ≡ nothing
ErrorEntryAt s n q (Some e) =
    (e.left < n) × (q ≡ before (signed e.code ∷ signed e.label ∷ other ∷ []) (error_reports_in (members_at e.left (drop e.next s))))
