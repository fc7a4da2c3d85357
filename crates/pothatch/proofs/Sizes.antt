-- The sizes by their kind.
use Prim.Native.Nat.{ℕ}
use mathlib.Core.Path.{◌≡◌, refl, ◌∙◌}
use mathlib.Core.Bool.{Bool, true, false}
use borrow.Author.Tests.{ne_eqb, eqb-true}
use lib.Dec.{eqb}
use Rattle.pothatch.specs.Library.{size_of, size_number}

module _ (k : ℕ) where
  pub size-known : (kind : ℕ) → k ≡ kind → size_of kind ≡ size_of k
  size-known kind e = rw e

  pub size_none : ¬ (k ≡ 0x51) → ¬ (k ≡ 0x43) → ¬ (k ≡ 0x4e) → ¬ (k ≡ 0x52) → ¬ (k ≡ 0x4b) → ¬ (k ≡ 0x4c) → ¬ (k ≡ 0x50) → ¬ (k ≡ 0x47)
      → ¬ (k ≡ 0x53)
      → ¬ (k ≡ 0x54) → 0 ≡ size_of k
  size_none q c n r f l p g s t =
      rw (
        ne_eqb k 0x51 q,
        ne_eqb k 0x43 c,
        ne_eqb k 0x4e n,
        ne_eqb k 0x52 r,
        ne_eqb k 0x4b f,
        ne_eqb k 0x4c l,
        ne_eqb k 0x50 p,
        ne_eqb k 0x47 g,
        ne_eqb k 0x53 s,
        ne_eqb k 0x54 t,
      )
      refl

-- refused, the size is 0
pub no_size : (kind r v : ℕ) → r ≡ size_number kind → v ≡ size_of kind → (r ≡ 0 → ⊥) → v ≡ 0
no_size kind r v e f h = by-test (eqb (size_of kind) 0) refl
  where
    by-test : (b : Bool) → eqb (size_of kind) 0 ≡ b → v ≡ 0
    by-test true g = f ∙ eqb-true (size_of kind) 0 g
    by-test false g = absurd (h (e ∙ rw g refl))

-- the answer by the size that was found
pub size-refused : (kind n : ℕ) → n ≡ size_of kind → n ≡ 0 → (13 ≡ size_number kind) × (n ≡ size_of kind)
size-refused kind n e h = (rw (← e, h) refl, e)

pub size-told : (kind n : ℕ) → n ≡ size_of kind → (n ≡ 0 → ⊥) → (0 ≡ size_number kind) × (n ≡ size_of kind)
size-told kind n e h = (rw (← e, ne_eqb n 0 h) refl, e)
