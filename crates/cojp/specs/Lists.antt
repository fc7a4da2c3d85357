-- Arrays that are kept as they are written (RFC 9031: blacklist, unsupported configuration): which members are kept, and the bytes that
-- they are then. docs/RFC9031.md has the rules.
use Rattle.std.specs.Prelude.{ℕ, Bool, true, false, cond, ◌&&◌, List, [], ◌∷◌, ◌++◌, leb, eqb, length, take, replicate}
use Rattle.refusal.specs.declared.Refusal.TheVariants.{Range}
use Rattle.byte_io.specs.Write.{Plan, emit, refuse}
use Rattle.cbor.specs.Item.{Item, Items, unsigned, negative, bytes, simple, no_items, more}
use Rattle.cbor.specs.Encode.{encodes, shortest}
use Rattle.cbor.specs.View.{Scalar, number, minus, string, other, View, scalar, list}
use Rattle.lemmas.specs.lists.Same.{same}
use Rattle.cojp.specs.Bytes.{members_at}
use Rattle.cojp.specs.Octets.{padded}
use Rattle.cojp.specs.declared.list.ItemList.{ItemList}
use Rattle.cojp.specs.declared.list.ListParameter.{ListParameter}
use Rattle.cojp.specs.declared.list.ListRead.{ListRead}
use Rattle.cojp.specs.declared.disposition.Disposition.{Disposition}
use Rattle.cojp.specs.declared.disposition.Disposition.TheVariants.{Taken, Discarded}

-- a member as it is written: what is no number and no byte string is null
abbrev pub scalar_item : Scalar → Item
scalar_item (number n) = unsigned n
scalar_item (minus n) = negative n
scalar_item (string s) = bytes s
scalar_item other = simple 22

abbrev pub items_of : List Scalar → Items
items_of [] = no_items
items_of (p ∷ ps) = more (scalar_item p) (items_of ps)

abbrev pub written : List Scalar → List ℕ
written ps = encodes (items_of ps)

-- ---- the members that are kept, or a broken pattern
pub data Picked : Type 0 where
  nothing : Picked
  picked : List Scalar → Picked

-- with these in front
abbrev pub before : List Scalar → Picked → Picked
before ps nothing = nothing
before ps (picked qs) = picked (ps ++ qs)

-- a blacklist: byte strings
unfoldable pub strings_in : List Scalar → Picked
strings_in [] = picked []
strings_in (number n ∷ r) = nothing
strings_in (minus n ∷ r) = nothing
strings_in (string s ∷ r) = before (string s ∷ []) (strings_in r)
strings_in (other ∷ r) = nothing

abbrev pub is_integer : Scalar → Bool
is_integer (number n) = true
is_integer (minus n) = true
is_integer (string s) = false
is_integer other = false

abbrev pub integer : Bool → ℕ → Scalar
integer true n = minus n
integer false n = number n

-- reports: groups of a code, a label and any item, which is kept as null
unfoldable pub error_reports_in : List Scalar → Picked
error_reports_in [] = picked []
error_reports_in (p ∷ []) = nothing
error_reports_in (p ∷ q ∷ []) = nothing
error_reports_in (p ∷ q ∷ x ∷ r) = cond (is_integer p && is_integer q) (before (p ∷ q ∷ other ∷ []) (error_reports_in r)) nothing

-- at least one member
abbrev pub at_least_one : (List Scalar → Picked) → List Scalar → Picked
at_least_one f [] = nothing
at_least_one f (p ∷ ps) = f (p ∷ ps)

-- an array of them
abbrev pub in_array : (List Scalar → Picked) → View → Picked
in_array f (scalar p) = nothing
in_array f (list ps) = f ps

-- ---- the list
-- what has room in n bytes
abbrev pub fitting : ℕ → Picked → Picked
fitting n nothing = nothing
fitting n (picked ps) = cond (leb (length (written ps)) n) (picked ps) nothing

abbrev pub list_of : List Scalar → ItemList
list_of ps = record { count = length ps; len = length (written ps); bytes = padded 253 (written ps) }

abbrev pub no_list : ItemList
no_list = record { count = 0; len = 0; bytes = replicate 253 0 }

abbrev pub list_answer : Picked → ListRead
list_answer nothing = record { good = false; value = no_list }
list_answer (picked ps) = record { good = true; value = list_of ps }

-- ---- the parameter: a good list is taken
abbrev pub list_parameter : Disposition → ItemList → ListParameter
list_parameter r l = record { disposition = r; value = l }

abbrev pub no_list_parameter : Disposition → ListParameter
no_list_parameter r = list_parameter r no_list

abbrev pub list_taken : ListRead → ListParameter
list_taken r = cond r.good (list_parameter Taken r.value) (no_list_parameter Discarded)

-- label 6 of a configuration
abbrev pub blacklist_taken : View → ListParameter
blacklist_taken v = list_taken (list_answer (fitting 253 (in_array strings_in v)))

-- label 8 of a request
abbrev pub unsupported_taken : View → ListParameter
unsupported_taken v = list_taken (list_answer (fitting 253 (in_array (at_least_one error_reports_in) v)))

-- ---- a list that is handed in: it is in its limits if reading it again gives it
abbrev pub bytes_in : ItemList → List ℕ
bytes_in l = take l.len l.bytes

unfoldable pub same_as : ListRead → ItemList → Bool
same_as r l = (r.good && eqb r.value.count l.count && same (bytes_in r.value) (bytes_in l))

unfoldable pub kept : (List Scalar → Picked) → ItemList → Bool
kept f l = (leb l.len 253 && same_as (list_answer (fitting 253 (f (members_at l.count (bytes_in l))))) l)

-- ---- the array that is written of a list
abbrev pub picked_items : Picked → Items
picked_items nothing = no_items
picked_items (picked ps) = items_of ps

abbrev pub items_in : (List Scalar → Picked) → ItemList → Items
items_in f l = picked_items (f (members_at l.count (bytes_in l)))

-- writing it: RANGE where the list has more bytes than its array
unfoldable pub list_plan : ItemList → Plan
list_plan l = cond (leb l.len 253) (emit (shortest 4 l.count ++ bytes_in l)) (refuse Range)
