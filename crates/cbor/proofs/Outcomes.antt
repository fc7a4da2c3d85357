-- What an outcome that was got says of the outcomes that it came from.
use Prim.Native.Nat.{ℕ}
use mathlib.Core.Path.{◌≡◌, refl}
use mathlib.Core.List.{List}
use native.Mathlib.Omega.{arith}
use Rattle.refusal.specs.declared.Refusal.{Refusal}
use Rattle.cbor.specs.Decode.{Outcome, refused, got, and_then}

pub never : {A : Type 0} {k : Refusal} {a : A} {t : List ℕ} → refused k ≡ got a t → ⊥
never e = let z : ◌≡◌ {A = ℕ} 0 1 = cc in omega arith

pub then-got : {A B : Type 0} (o : Outcome A) (f : A → List ℕ → Outcome B) (b : B) (u : List ℕ) → and_then o f ≡ got b u
    → (a : A) × (t : List ℕ) × (o ≡ got a t) × (f a t ≡ got b u)
then-got (refused k) f b u e = absurd (never e)
then-got (got a t) f b u e = (a, t, refl, e)

pub same-value : {A : Type 0} {a b : A} {t u : List ℕ} → got a t ≡ got b u → a ≡ b
same-value e = cc

pub same_rest : {A : Type 0} {a b : A} {t u : List ℕ} → got a t ≡ got b u → t ≡ u
same_rest e = cc
