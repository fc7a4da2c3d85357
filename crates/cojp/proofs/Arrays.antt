-- A member of an array is what stands at its place, and the other members are what stands behind it.
use Prim.Native.Nat.{ℕ, ◌+◌, ◌-◌, ◌≤◌, ◌<◌, suc}
use mathlib.Core.Path.{◌≡◌, refl, ap, sym, ◌∙◌}
use mathlib.Core.List.{List, [], ◌∷◌}
use native.Mathlib.Omega.{arith}
use lib.ListN.{length, take, drop}
use borrow.Author.Tests.{eq-eqb, ne_eqb}
use Rattle.cbor.specs.Decode.{Outcome, refused, got, decode}
use Rattle.cbor.specs.Item.{Item}
use Rattle.cbor.specs.View.{Scalar, number, minus, string, other, scalar, list, scalar_at, and_on, rest_of, ValueAt, ValueSpec}
use Rattle.cbor.specs.declared.value.Value.{Value}
use Rattle.cbor.specs.declared.value.Value.TheVariants as vv
use Rattle.cojp.specs.Bytes.{value_view, members_at, after_value, after_members, EndsAt}
use Rattle.cojp.specs.Bytes.{member_of, Neither, MemberAt, MemberRest, MemberSpec}
use Rattle.cojp.specs.declared.members.Member.{Member}
use Rattle.cojp.specs.declared.members.Member.TheVariants as mv

pub members-none : (n : ℕ) (l : List ℕ) → n ≡ 0 → members_at n l ≡ []
members-none n l e = rw e

pub members_step : (n : ℕ) (l : List ℕ) → 0 < n → members_at n l ≡ and_on (scalar_at l) (decode 6 l) (λ t. members_at (n - 1) t)
members_step n l h = let e : n ≡ suc (n - 1) = omega arith in ap (λ (k : ℕ). members_at k l) e

-- there is one where one is left
pub members-some : (n : ℕ) (l : List ℕ) → 0 < n → (p : Scalar) × (ps : List Scalar) × (members_at n l ≡ p ∷ ps)
members-some n l h = go (decode 6 l) (members_step n l h)
  where
    go : (o : Outcome Item) → members_at n l ≡ and_on (scalar_at l) o (λ t. members_at (n - 1) t)
        → (p : Scalar) × (ps : List Scalar) × (members_at n l ≡ p ∷ ps)
    go (refused k) e = (other, [], e)
    go (got i t) e = (scalar_at l, members_at (n - 1) t, e)

-- ---- what a value says as a member, n being left
module _ (s : List ℕ) (at n : ℕ) where
  nothing : 0 < n → (p : Scalar) → scalar_at (drop at s) ≡ p → ((ps : List Scalar) → Neither (p ∷ ps)) → Neither (members_at n (drop at s))
  nothing h p m z = rw (members_step n (drop at s) h) (go (decode 6 (drop at s)))
    where
      go : (o : Outcome Item) → Neither (and_on (scalar_at (drop at s)) o (λ t. members_at (n - 1) t))
      go (refused k) = tt
      go (got i t) = rw m (z (members_at (n - 1) t))

  value-member : 0 < n → (v : Value) → ValueAt 5 s at v → MemberAt s at n (member_of v)
  value-member h (vv.Number x p) w = (h, members_step n (drop at s) h ∙ rw (w.rest.1, w.member))
  value-member h (vv.Bytes p a) w = (h, w.rest.0, members_step n (drop at s) h ∙ rw (w.rest.1, w.member))
  value-member h (vv.Array p m) w = nothing h other w.member (λ ps. tt)
  value-member h vv.Other w = nothing h other w.member (λ ps. tt)
  value-member h (vv.Minus x p) w = nothing h (minus x) w.member (λ ps. tt)

-- ---- and where the bytes go on
pub nothing_left : (n : ℕ) (l : List ℕ) → n ≡ 0 → after_members n l ≡ l
nothing_left n l e = rw e

after-step : (n : ℕ) (l : List ℕ) (i : Item) (t : List ℕ) → 0 < n → decode 6 l ≡ got i t → after_members n l ≡ after_members (n - 1) t
after-step n l i t h e =
    let z : n ≡ suc (n - 1) = omega arith in
    ap (λ (k : ℕ). after_members k l) z ∙ ap (λ (o : Outcome Item). after_members (n - 1) (rest_of o)) e

module _ (s : List ℕ) (at n : ℕ) where
  value-rest : 0 < n → (v : Value) → ValueAt 5 s at v → MemberRest s at n (member_of v)
  value-rest h (vv.Number x p) w = (w.rest.0, after-step n (drop at s) _ (drop p s) h w.rest.1)
  value-rest h (vv.Bytes p a) w = after-step n (drop at s) _ (drop (p + a) s) h w.rest.1
  value-rest h (vv.Array p m) w = tt
  value-rest h vv.Other w = tt
  value-rest h (vv.Minus x p) w = tt

-- ---- the returns of `member_at`
module _ (s : List ℕ) (at n : ℕ) where
  pub none_told : n ≡ 0 → MemberSpec s at n mv.Neither
  none_told h = record { is = rw (eq-eqb n 0 h); here = rw (members-none n (drop at s) h) tt; rest = tt }

  module _ (h : ¬ (n ≡ 0)) (v : Value) (e : ValueSpec s at v) where
    pub value-told : (m : Member) → member_of v ≡ m → MemberSpec s at n m
    value-told m f =
        let l : 0 < n = omega arith in
        rw (← f) (record {
          is = rw (ne_eqb n 0 h) (ap member_of e.is);
          here = value-member s at n l v (e.says 5);
          rest = value-rest s at n l v (e.says 5);
        })

    pub neither-told : ((x p : ℕ) → ¬ (v ≡ vv.Number x p)) → ((p a : ℕ) → ¬ (v ≡ vv.Bytes p a)) → MemberSpec s at n mv.Neither
    neither-told no_number no-string = value-told mv.Neither (go v no_number no-string)
      where
        go : (v : Value) → ((x p : ℕ) → ¬ (v ≡ vv.Number x p)) → ((p a : ℕ) → ¬ (v ≡ vv.Bytes p a)) → member_of v ≡ mv.Neither
        go (vv.Number x p) no_number no-string = absurd (no_number x p refl)
        go (vv.Bytes p a) no_number no-string = absurd (no-string p a refl)
        go (vv.Array p a) no_number no-string = refl
        go vv.Other no_number no-string = refl
        go (vv.Minus x p) no_number no-string = refl

-- ---- what an answer of `member_at` says
module _ (s : List ℕ) (at n : ℕ) (v : Member) (e : MemberSpec s at n v) where
  pub number-left : (x p : ℕ) → v ≡ mv.Number x p → 1 ≤ n
  number-left x p g = let w : MemberAt s at n (mv.Number x p) = rw g at e.here in w.0

  module _ (p a : ℕ) (g : v ≡ mv.Bytes p a) where
    bytes-here : MemberAt s at n (mv.Bytes p a)
    bytes-here = rw g at e.here

    pub bytes_left : 1 ≤ n
    bytes_left = bytes-here.0

    pub bytes_inside : p + a ≤ length s
    bytes_inside = bytes-here.1

module _ (s : List ℕ) (at n : ℕ) (v : Member) (e : MemberSpec s at n v) where
  pub number-after : (x p : ℕ) → v ≡ mv.Number x p → after_members n (drop at s) ≡ after_members (n - 1) (drop p s)
  number-after x p g = let w : MemberRest s at n (mv.Number x p) = rw g at e.rest in w.1

  pub number-inside : (x p : ℕ) → v ≡ mv.Number x p → p ≤ length s
  number-inside x p g = let w : MemberRest s at n (mv.Number x p) = rw g at e.rest in w.0

  pub bytes_after : (p a : ℕ) → v ≡ mv.Bytes p a → after_members n (drop at s) ≡ after_members (n - 1) (drop (p + a) s)
  bytes_after p a g = let w : MemberRest s at n (mv.Bytes p a) = rw g at e.rest in w

-- ---- an array, and anything else
module _ (s : List ℕ) (at : ℕ) (v : Value) (e : ValueSpec s at v) where
  pub array-here : (p n : ℕ) → v ≡ vv.Array p n → (p ≤ length s) × (value_view (drop at s) ≡ list (members_at n (drop p s)))
  array-here p n g = let w : ValueAt 5 s at (vv.Array p n) = rw g at (e.says 5) in (w.rest.0, w.view)

  pub array-after : (p n : ℕ) → v ≡ vv.Array p n → after_value (drop at s) ≡ after_members n (drop p s)
  array-after p n g =
      let w : ValueAt 6 s at (vv.Array p n) = rw g at (e.says 6) in
      w.rest.1

  pub string-after : (p a : ℕ) → v ≡ vv.Bytes p a → EndsAt s (p + a) (after_value (drop at s))
  string-after p a g =
      let w : ValueAt 6 s at (vv.Bytes p a) = rw g at (e.says 6) in
      record { rest = sym (ap rest_of w.rest.1); inside = omega (arith, w.rest.0) }

  pub scalar-here : ((p n : ℕ) → ¬ (v ≡ vv.Array p n)) → (p : Scalar) × (value_view (drop at s) ≡ scalar p)
  scalar-here no-array = go v (e.says 5) no-array
    where
      go : (v : Value) → ValueAt 5 s at v → ((p n : ℕ) → ¬ (v ≡ vv.Array p n)) → (p : Scalar) × (value_view (drop at s) ≡ scalar p)
      go (vv.Number x p) w no-array = (number x, w.view)
      go (vv.Bytes p a) w no-array = (string (take a (drop p s)), w.view)
      go (vv.Array p n) w no-array = absurd (no-array p n refl)
      go vv.Other w no-array = (other, w.view)
      go (vv.Minus x p) w no-array = (minus x, w.view)
