-- For the contracts of functions that read at a place: what Address and KeySet say of the tree, said of the bytes that it is read from.
-- Where no item can be read these definitions go on with anything; a payload that passed the item scan has no such place.
use Rattle.std.specs.Prelude.{ℕ, ◌+◌, ◌-◌, ◌≤◌, ◌<◌, cond, ◌≡◌, List, [], ◌∷◌, eqb, length, take, drop, Result, Ok, Err}
use Rattle.refusal.specs.declared.Refusal.{Refusal}
use Rattle.cbor.specs.Decode.{heading}
use Rattle.cbor.specs.View.{Scalar, number, minus, string, other, View, view_at, scalars_at, after_item, after_items, value_answer}
use Rattle.cbor.specs.declared.value.Value.{Value}
use Rattle.cbor.specs.declared.value.Value.TheVariants as vv
use Rattle.cojp.specs.declared.members.Member.{Member}
use Rattle.cojp.specs.declared.members.Member.TheVariants as mv

-- a value, whose members stand at level 3
abbrev pub value_view : List ℕ → View
value_view l = view_at 6 l

-- ---- the members of an array
abbrev pub members_at : ℕ → List ℕ → List Scalar
members_at n l = scalars_at 6 n l

-- what is left after a value, and after n members of an array
abbrev pub after_value : List ℕ → List ℕ
after_value l = after_item 7 l

abbrev pub after_members : ℕ → List ℕ → List ℕ
after_members n l = after_items 6 n l

-- at which place s goes on with what is left: in s, or its end
pub record EndsAt (s : List ℕ) (next : ℕ) (left : List ℕ) : Type 0 where
  pub rest : drop next s ≡ left
  pub inside : next ≤ length s

-- the place beside what a reader read
abbrev pub Continues : {A : Type 0} → List ℕ → Result (A × ℕ) Refusal → List ℕ → Type 0
Continues s (Err k) left = Unit {0}
Continues s (Ok r) left = EndsAt s r.1 left

-- there is no other such place, also where nothing is left
abbrev pub EndUnique : Type 0
EndUnique = (s left : List ℕ) (m n : ℕ) → EndsAt s m left → EndsAt s n left → m ≡ n

-- the bytes of a string, and the n members that follow it
abbrev pub string_and : List ℕ → ℕ → ℕ → ℕ → List Scalar
string_and s start len n = string (take len (drop start s)) ∷ members_at n (drop (start + len) s)

-- a value as a member: an array is neither a number nor a byte string
abbrev pub member_of : Value → Member
member_of (vv.Number x p) = mv.Number x p
member_of (vv.Bytes p a) = mv.Bytes p a
member_of (vv.Array p m) = mv.Neither
member_of vv.Other = mv.Neither
member_of (vv.Minus x p) = mv.Neither

-- the member at a place, n members being left
abbrev pub member_answer : List ℕ → ℕ → ℕ → Member
member_answer s at n = cond (eqb n 0) mv.Neither (member_of (value_answer (length s) (heading (drop at s))))

-- ---- what that answer says of the members and of the bytes after them
-- neither an unsigned number nor a byte string comes next
abbrev pub Neither : List Scalar → Type 0
Neither [] = Unit {0}
Neither (number n ∷ ps) = ⊥
Neither (string s ∷ ps) = ⊥
Neither (minus n ∷ ps) = Unit {0}
Neither (other ∷ ps) = Unit {0}

abbrev pub MemberAt : List ℕ → ℕ → ℕ → Member → Type 0
MemberAt s at n (mv.Number x p) = (0 < n) × (members_at n (drop at s) ≡ number x ∷ members_at (n - 1) (drop p s))
MemberAt s at n (mv.Bytes p a) =
    (0 < n) × (p + a ≤ length s) × (members_at n (drop at s) ≡ string (take a (drop p s)) ∷ members_at (n - 1) (drop (p + a) s))
MemberAt s at n mv.Neither = Neither (members_at n (drop at s))

abbrev pub MemberRest : List ℕ → ℕ → ℕ → Member → Type 0
MemberRest s at n (mv.Number x p) = (p ≤ length s) × (after_members n (drop at s) ≡ after_members (n - 1) (drop p s))
MemberRest s at n (mv.Bytes p a) = after_members n (drop at s) ≡ after_members (n - 1) (drop (p + a) s)
MemberRest s at n mv.Neither = Unit {0}

pub record MemberSpec (s : List ℕ) (at n : ℕ) (r : Member) : Type 0 where
  pub is : r ≡ member_answer s at n
  pub here : MemberAt s at n r
  pub rest : MemberRest s at n r
