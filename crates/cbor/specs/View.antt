-- What the layer above asks of an item: of a map's label whether it is an integer, of a value whether it is an integer, a byte string,
-- an array of such, or something else. Said of the tree, and then of the bytes that a place's head begins.
use Rattle.std.specs.Prelude.{ℕ, zero, suc, ◌+◌, ◌-◌, ◌^◌, ◌≤◌, ◌<◌, cond, ◌≡◌, List, [], ◌∷◌, leb, length, take, drop}
use Rattle.cbor.specs.Item.{Item, Items, Pairs, unsigned, negative, bytes, text, array, map_item, tag, simple, float, no_items, more}
use Rattle.cbor.specs.Decode.{Outcome, refused, got, Heading, Major, unsigneds, negatives, byte_strings}
use Rattle.cbor.specs.Decode.{text_strings, arrays, maps, tags, others, major_of, next, heading, decode}
use Rattle.cbor.specs.declared.value.Label.{Label}
use Rattle.cbor.specs.declared.value.Label.TheVariants as lv
use Rattle.cbor.specs.declared.value.Value.{Value}
use Rattle.cbor.specs.declared.value.Value.TheVariants as vv

-- a member of an array
pub data Scalar : Type 0 where
  number : ℕ → Scalar
  -- the number -1 - n
  minus : ℕ → Scalar
  string : List ℕ → Scalar
  other : Scalar

-- its number, or how many bytes it has, fits the 64 bits that a head can hold
abbrev pub ScalarValid : Scalar → Type 0
ScalarValid (number n) = n < 2 ^ 64
ScalarValid (minus n) = n < 2 ^ 64
ScalarValid (string s) = length s < 2 ^ 64
ScalarValid other = Unit {0}

-- a value
pub data View : Type 0 where
  scalar : Scalar → View
  list : List Scalar → View

-- ---- of the tree
abbrev pub scalar_of : Item → Scalar
scalar_of (unsigned n) = number n
scalar_of (negative n) = minus n
scalar_of (bytes s) = string s
scalar_of (text s) = other
scalar_of (array is) = other
scalar_of (map_item ps) = other
scalar_of (tag n i) = other
scalar_of (simple n) = other
scalar_of (float w n) = other

abbrev pub scalars_of : Items → List Scalar
scalars_of no_items = []
scalars_of (more i is) = scalar_of i ∷ scalars_of is

abbrev pub view_of : Item → View
view_of (unsigned n) = scalar (number n)
view_of (negative n) = scalar (minus n)
view_of (bytes s) = scalar (string s)
view_of (text s) = scalar other
view_of (array is) = list (scalars_of is)
view_of (map_item ps) = scalar other
view_of (tag n i) = scalar other
view_of (simple n) = scalar other
view_of (float w n) = scalar other

-- an integer is major type 0 or 1: a tagged bignum is none
abbrev pub label_of : Item → Label
label_of (unsigned n) = lv.Number n
label_of (negative n) = lv.Negative
label_of (bytes s) = lv.NoInteger
label_of (text s) = lv.NoInteger
label_of (array is) = lv.NoInteger
label_of (map_item ps) = lv.NoInteger
label_of (tag n i) = lv.NoInteger
label_of (simple n) = lv.NoInteger
label_of (float w n) = lv.NoInteger

-- what is read of an outermost item that is a map, and what of any other
abbrev pub if_map : {R : Type 0} → (Pairs → R) → R → Item → R
if_map f x (unsigned n) = x
if_map f x (negative n) = x
if_map f x (bytes s) = x
if_map f x (text s) = x
if_map f x (array is) = x
if_map f x (map_item ps) = f ps
if_map f x (tag n i) = x
if_map f x (simple n) = x
if_map f x (float w n) = x

-- ---- of bytes: the same where an item can be read there, and anything where it cannot
abbrev pub string_of : Outcome (List ℕ) → Scalar
string_of (refused k) = other
string_of (got s t) = string s

abbrev pub scalar_by : Major → ℕ → List ℕ → Scalar
scalar_by unsigneds n t = number n
scalar_by negatives n t = minus n
scalar_by byte_strings n t = string_of (next n t)
scalar_by text_strings n t = other
scalar_by arrays n t = other
scalar_by maps n t = other
scalar_by tags n t = other
scalar_by others n t = other

abbrev pub scalar_head : Outcome Heading → Scalar
scalar_head (refused k) = other
scalar_head (got h t) = scalar_by (major_of h.major) h.argument t

unfoldable pub scalar_at : List ℕ → Scalar
scalar_at l = scalar_head (heading l)

abbrev pub and_on : Scalar → Outcome Item → (List ℕ → List Scalar) → List Scalar
and_on p (refused k) f = other ∷ []
and_on p (got i t) f = p ∷ f t

-- the next n members, each with d levels left
abbrev pub scalars_at : ℕ → ℕ → List ℕ → List Scalar
scalars_at d zero l = []
scalars_at d (suc n) l = and_on (scalar_at l) (decode d l) (λ t. scalars_at d n t)

abbrev pub view_by : ℕ → Major → ℕ → List ℕ → View
view_by d unsigneds n t = scalar (number n)
view_by d negatives n t = scalar (minus n)
view_by d byte_strings n t = scalar (string_of (next n t))
view_by d text_strings n t = scalar other
view_by d arrays n t = list (scalars_at d n t)
view_by d maps n t = scalar other
view_by d tags n t = scalar other
view_by d others n t = scalar other

abbrev pub view_head : ℕ → Outcome Heading → View
view_head d (refused k) = scalar other
view_head d (got h t) = view_by d (major_of h.major) h.argument t

-- what is left after an item with d levels left, and after n of them: nothing where none can be read
abbrev pub rest_of : {A : Type 0} → Outcome A → List ℕ
rest_of (refused k) = []
rest_of (got a t) = t

abbrev pub after_item : ℕ → List ℕ → List ℕ
after_item d l = rest_of (decode d l)

abbrev pub after_items : ℕ → ℕ → List ℕ → List ℕ
after_items d zero l = l
after_items d (suc n) l = after_items d n (after_item d l)

-- a value whose members have d levels left
unfoldable pub view_at : ℕ → List ℕ → View
view_at d l = view_head d (heading l)

abbrev pub label_by : Major → ℕ → Label
label_by unsigneds n = lv.Number n
label_by negatives n = lv.Negative
label_by byte_strings n = lv.NoInteger
label_by text_strings n = lv.NoInteger
label_by arrays n = lv.NoInteger
label_by maps n = lv.NoInteger
label_by tags n = lv.NoInteger
label_by others n = lv.NoInteger

abbrev pub label_head : Outcome Heading → Label
label_head (refused k) = lv.NoInteger
label_head (got h t) = label_by (major_of h.major) h.argument

unfoldable pub label_at : List ℕ → Label
label_at l = label_head (heading l)

-- ---- what `value_at` answers: the places in a slice of length n where a value's bytes or members begin, t being what follows its head
abbrev pub value_by : ℕ → Major → ℕ → List ℕ → Value
value_by n unsigneds a t = vv.Number a (n - length t)
value_by n negatives a t = vv.Minus a (n - length t)
value_by n byte_strings a t = cond (leb a (length t)) (vv.Bytes (n - length t) a) vv.Other
value_by n text_strings a t = vv.Other
value_by n arrays a t = vv.Array (n - length t) a
value_by n maps a t = vv.Other
value_by n tags a t = vv.Other
value_by n others a t = vv.Other

abbrev pub value_answer : ℕ → Outcome Heading → Value
value_answer n (refused k) = vv.Other
value_answer n (got h t) = value_by n (major_of h.major) h.argument t

-- ---- what that answer says of the bytes, members having suc d levels left: what the value is, and where the bytes go on
module _ (d : ℕ) (s : List ℕ) where
  abbrev pub says_view : Value → View
  says_view (vv.Number n p) = scalar (number n)
  says_view (vv.Bytes p a) = scalar (string (take a (drop p s)))
  says_view (vv.Array p n) = list (scalars_at (suc d) n (drop p s))
  says_view vv.Other = scalar other
  says_view (vv.Minus n p) = scalar (minus n)

  abbrev pub says_rest : ℕ → Value → Type 0
  says_rest at (vv.Number n p) = (p ≤ length s) × (decode (suc d) (drop at s) ≡ got (unsigned n) (drop p s))
  says_rest at (vv.Bytes p a) =
      (p + a ≤ length s) × (decode (suc d) (drop at s) ≡ got (bytes (take a (drop p s))) (drop (p + a) s))
  says_rest at (vv.Array p n) = (p ≤ length s) × (after_item (suc d) (drop at s) ≡ after_items d n (drop p s))
  says_rest at vv.Other = Unit {0}
  says_rest at (vv.Minus n p) = (p ≤ length s) × (decode (suc d) (drop at s) ≡ got (negative n) (drop p s))

-- a value as a member: an array is neither a number nor a byte string
abbrev pub flat : View → Scalar
flat (scalar p) = p
flat (list ps) = other

pub record ValueAt (d : ℕ) (s : List ℕ) (at : ℕ) (r : Value) : Type 0 where
  pub view : view_at (suc d) (drop at s) ≡ says_view d s r
  pub member : scalar_at (drop at s) ≡ flat (says_view d s r)
  pub rest : says_rest d s at r

-- the answer r at a place of s, and what it says, however many levels are left
pub record ValueSpec (s : List ℕ) (at : ℕ) (r : Value) : Type 0 where
  pub is : r ≡ value_answer (length s) (heading (drop at s))
  pub says : (d : ℕ) → ValueAt d s at r
