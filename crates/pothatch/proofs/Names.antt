-- Refusals have the numbers 1 to 22 and no other, so a number outside has no name, and one inside has that of the refusal with it.
use Prim.Native.Nat.{ℕ, ◌<◌}
use mathlib.Core.Path.{◌≡◌, refl, ap, ◌∙◌}
use mathlib.Core.Bool.{Bool, true, false}
use mathlib.Core.List.{List}
use native.Mathlib.Omega.{arith}
use borrow.Author.Tests.{eqb-true, eqb-false}
use lib.Dec.{eqb}
use lib.ListN.{length, replicate}
use Rattle.byte_io.specs.Write.{Wrote}
use Rattle.image.specs.Fields.{whole-struct}
use Rattle.image.specs.Effects.{zeroed}
use Rattle.refusal.specs.Refusal.{number_of, name_of, Numbered}
use Rattle.refusal.specs.declared.Refusal.{Refusal}
use Rattle.pothatch.specs.Library.{Names}

module _ (n : ℕ) (s : List ℕ) where
  pub name-unfit : ¬ (length s ≡ 8) → Names n s 13 s
  name-unfit h =
      record { unfit = λ u. (refl, refl); named = λ k e l. absurd (h l); nobody = λ none l. absurd (h l) }

  none_named : {s' : List ℕ} → ((k : Refusal) → number_of k ≡ n → ⊥) → length s ≡ 8 → s' ≡ replicate (length s) 0 → Names n s 13 s'
  none_named f l e =
      record {
        unfit = λ u. absurd (u l);
        named = λ k q m. absurd (f k q);
        nobody = λ none m. (refl, e ∙ ap (λ (i : ℕ). replicate i 0) l);
      }

  pub below_all : {s' : List ℕ} → Numbered → n < 1 → length s ≡ 8 → s' ≡ replicate (length s) 0 → Names n s 13 s'
  below_all t h l e = none_named (λ k q. omega (arith, t.least k)) l e

  pub above-all : {s' : List ℕ} → Numbered → 22 < n → length s ≡ 8 → s' ≡ replicate (length s) 0 → Names n s 13 s'
  above-all t h l e = none_named (λ k q. omega (arith, t.most k)) l e

  pub name-told : (k : Refusal) {x s' : List ℕ} → number_of k ≡ n → length s ≡ 8 → x ≡ name_of k → Wrote x s 8 s' → Names n s 0 s'
  name-told k e l f w =
      record {
        unfit = λ u. absurd (u l);
        named = λ j q m. (refl, record { refusal = k; its-number = e; its-name = whole-struct l w ∙ f });
        nobody = λ none m. absurd (none k e);
      }

-- refused, a name of eight bytes is all zero, and another is not touched
pub no_name : (n : ℕ) (s : List ℕ) (r : ℕ) (s' : List ℕ) → Names n s r s' → (r ≡ 0 → ⊥) → s' ≡ zeroed 8 s
no_name n s r s' d h = by-test (eqb (length s) 8) refl
  where
    by-test : (b : Bool) → eqb (length s) 8 ≡ b → s' ≡ zeroed 8 s
    by-test true g =
        let l = eqb-true (length s) 8 g in
        rw g (d.nobody (λ k e. h (d.named k e l).0) l).1
    by-test false g = rw g (d.unfit (eqb-false (length s) 8 g)).1
