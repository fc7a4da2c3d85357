-- A short address is its bytes, and after them nothing or a lease.
use Prim.Native.Nat.{ℕ, suc, ◌+◌, ◌-◌, ◌≤◌, ◌<◌}
use mathlib.Core.Path.{◌≡◌, refl, sym, ◌∙◌}
use mathlib.Core.Bool.{Bool, true, false}
use mathlib.Core.List.{List, [], ◌∷◌}
use native.Mathlib.Omega.{arith}
use native.Mathlib.Numerals.{add-one}
use lib.ListN.{length, take, drop, get_or, length-drop}
use lib.Seq.{drop-cons, length-take-le}
use Rattle.short_address.specs.Address.{is_address, AddressLaws}
use Rattle.cbor.specs.View.{Scalar, number, minus, string, other, ValueSpec}
use Rattle.cbor.specs.declared.value.Value.{Value}
use Rattle.cbor.specs.declared.value.Value.TheVariants as vv
use Rattle.cojp.specs.Address.{address_of, address_parameter, address_by, address_in, address_concluded, address_read}
use Rattle.cojp.specs.Bytes.{value_view, members_at, Neither, MemberAt, MemberSpec}
use Rattle.cojp.specs.Reading.{Reading, read, broken, unfit}
use Rattle.cojp.specs.declared.address.AddressParameter.{AddressParameter}
use Rattle.cojp.specs.declared.members.Member.{Member}
use Rattle.cojp.specs.declared.members.Member.TheVariants as mv
use Rattle.cojp.specs.declared.disposition.Disposition.TheVariants.{Taken}
use Rattle.cojp.proofs.Arrays.{members-none, members-some, array-here, scalar-here}

-- ---- its bytes
module _ (s : List ℕ) (p a : ℕ) (i : p + a ≤ length s) (b : Bool) (n : ℕ) where
  whole : length (take a (drop p s)) ≡ a
  whole = length-take-le a (drop p s) (omega (arith, length-drop p s))

  pub address-short : AddressLaws → ¬ (a ≡ 2) → address_concluded unfit ≡ address_concluded (address_by (take a (drop p s)) b n)
  address-short laws h = let none = laws.two_bytes (take a (drop p s)) (λ e. h (sym whole ∙ e)) in rw none

  two : a ≡ 2 → take a (drop p s) ≡ get_or s p 0 ∷ get_or s (p + 1) 0 ∷ []
  two e =
      let h : p < length s = omega arith in
      let k : suc p < length s = omega arith in
      rw (e, add-one, drop-cons s p 0 h, drop-cons s (suc p) 0 k)

  abbrev pair : List ℕ
  pair = get_or s p 0 ∷ get_or s (p + 1) 0 ∷ []

  pub address-reserved : a ≡ 2 → is_address pair ≡ false → address_concluded unfit ≡ address_concluded (address_by (take a (drop p s)) b n)
  address-reserved e h = rw (two e, h)

  pub address-good : a ≡ 2 → is_address pair ≡ true
      → read (address_parameter Taken (address_of pair b n)) ≡ address_concluded (address_by (take a (drop p s)) b n)
  address-good e h = rw (two e, h)

-- ---- after its bytes b
module _ (s b : List ℕ) (at n : ℕ) (r : Reading AddressParameter) where
  pub lease-none : n ≡ 0 → r ≡ address_concluded (address_by b false 0)
      → r ≡ address_concluded (address_in (string b ∷ members_at n (drop at s)))
  unfolding address_in
  lease-none h e = e ∙ rw (members-none n (drop at s) h)

  module _ (v : Member) (a : MemberSpec s at n v) where
    module _ (x p : ℕ) (g : v ≡ mv.Number x p) where
      number-here : members_at n (drop at s) ≡ number x ∷ members_at (n - 1) (drop p s)
      number-here = let w : MemberAt s at n (mv.Number x p) = rw g at a.here in w.1

      pub lease-one : n ≡ 1 → r ≡ address_concluded (address_by b true x)
          → r ≡ address_concluded (address_in (string b ∷ members_at n (drop at s)))
      unfolding address_in
      lease-one h e = let z : n - 1 ≡ 0 = omega arith in e ∙ rw (number-here, members-none (n - 1) (drop p s) z)

      pub lease-many : ¬ (n ≡ 0) → ¬ (n ≡ 1) → r ≡ address_concluded broken
          → r ≡ address_concluded (address_in (string b ∷ members_at n (drop at s)))
      unfolding address_in
      lease-many h k e = let (q, qs, f) = members-some (n - 1) (drop p s) (omega arith) in e ∙ rw (number-here, f)

    pub lease-other : ¬ (n ≡ 0) → ((x p : ℕ) → ¬ (v ≡ mv.Number x p)) → r ≡ address_concluded broken
        → r ≡ address_concluded (address_in (string b ∷ members_at n (drop at s)))
    unfolding address_in
    lease-other h no_number e =
        let (q, qs, f) = members-some n (drop at s) (omega arith) in
        e ∙ rw f (last q qs (go v a.here no_number q qs f))
      where
        -- a byte string or something else
        Wrong : Scalar → Type 0
        Wrong (number x) = ⊥
        Wrong (string t) = Unit {0}
        Wrong (minus x) = Unit {0}
        Wrong other = Unit {0}

        wrong : (q : Scalar) (qs : List Scalar) → Neither (q ∷ qs) → Wrong q
        wrong (number x) qs w = w
        wrong (string t) qs w = tt
        wrong (minus x) qs w = tt
        wrong other qs w = tt

        strings : (t : List ℕ) (q : Scalar) → string t ≡ q → Wrong q
        strings t (number x) f = absurd (let z : ◌≡◌ {A = ℕ} 0 1 = cc in omega arith)
        strings t (string u) f = tt
        strings t (minus x) f = tt
        strings t other f = tt

        go : (v : Member) → MemberAt s at n v → ((x p : ℕ) → ¬ (v ≡ mv.Number x p))
            → (q : Scalar) (qs : List Scalar) → members_at n (drop at s) ≡ q ∷ qs → Wrong q
        go (mv.Number x p) w no_number q qs f = absurd (no_number x p refl)
        go (mv.Bytes p a) (_, _, e) no_number q qs f = strings (take a (drop p s)) q (let g : string (take a (drop p s)) ≡ q = cc in g)
        go mv.Neither w no_number q qs f = wrong q qs (rw f at w)

        last : (q : Scalar) (qs : List Scalar) → Wrong q → address_concluded broken ≡ address_concluded (address_in (string b ∷ q ∷ qs))
        last (number x) qs w = absurd w
        last (string t) qs w = refl
        last (minus x) qs w = refl
        last other qs w = refl

-- ---- its members
module _ (s : List ℕ) (at n : ℕ) (v : Member) (m : MemberSpec s at n v) (r : Reading AddressParameter) where
  pub address-begun : (p a : ℕ) → v ≡ mv.Bytes p a
      → r ≡ address_concluded (address_in (string (take a (drop p s)) ∷ members_at (n - 1) (drop (p + a) s)))
      → r ≡ address_concluded (address_in (members_at n (drop at s)))
  address-begun p a g e = let w : MemberAt s at n (mv.Bytes p a) = rw g at m.here in e ∙ rw w.2

  pub address-headless : ((p a : ℕ) → ¬ (v ≡ mv.Bytes p a)) → r ≡ address_concluded broken
      → r ≡ address_concluded (address_in (members_at n (drop at s)))
  unfolding address_in
  address-headless no-string e = e ∙ go v m.here no-string
    where
      none : (ps : List Scalar) → Neither ps → address_concluded broken ≡ address_concluded (address_in ps)
      none [] w = refl
      none (number x ∷ ps) w = refl
      none (string t ∷ ps) w = absurd w
      none (minus x ∷ ps) w = refl
      none (other ∷ ps) w = refl

      go : (v : Member) → MemberAt s at n v → ((p a : ℕ) → ¬ (v ≡ mv.Bytes p a))
          → address_concluded broken ≡ address_concluded (address_in (members_at n (drop at s)))
      go (mv.Number x p) w no-string = rw w.1
      go (mv.Bytes p a) w no-string = absurd (no-string p a refl)
      go mv.Neither w no-string = none (members_at n (drop at s)) w

-- ---- the value
module _ (s : List ℕ) (at : ℕ) (v : Value) (e : ValueSpec s at v) (r : Reading AddressParameter) where
  pub address-array : (p n : ℕ) → v ≡ vv.Array p n → r ≡ address_concluded (address_in (members_at n (drop p s)))
      → r ≡ address_read (value_view (drop at s))
  address-array p n g f = f ∙ rw (array-here s at v e p n g).1

  pub address-broken : ((p n : ℕ) → ¬ (v ≡ vv.Array p n)) → r ≡ address_concluded broken
      → r ≡ address_read (value_view (drop at s))
  address-broken no-array f = f ∙ rw (scalar-here s at v e no-array).1
