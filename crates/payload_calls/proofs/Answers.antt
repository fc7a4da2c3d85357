-- What a call tells by the answer of the function behind it, one law to a kind of answer.
use Rattle.std.specs.Prelude.{Result}
use Rattle.refusal.specs.declared.Refusal.{Refusal}
use Prim.Native.Nat.{ℕ}
use mathlib.Core.Path.{◌≡◌, ap, ◌∙◌}
use mathlib.Core.Bool.{Bool, true, false, ◌&&◌, and-false}
use mathlib.Core.List.{List}
use lib.ListN.{length, replicate}
use Rattle.refusal.specs.Verdict.{verdict_number}
use Rattle.refusal.specs.Verdict.{Verdict}
use Rattle.byte_io.specs.Write.{Plan, Did, written_says}
use Rattle.image.specs.Effects.{on_accept, ResultSpec}
use Rattle.image.proofs.Lent.{hands-told}
use Rattle.payload_calls.specs.Write.{Writes, range_first}

-- the answer a is the one, b, that the definition names
module _ {A : Type 0} (n : ℕ) (right : Bool) (verdict : A → Verdict) (image : A → List ℕ) (s : List ℕ) where
  pub hands-as : (a b : A) {r : ℕ} {s' : List ℕ} → length s ≡ n → right ≡ true → a ≡ b → r ≡ verdict_number (verdict a)
      → s' ≡ on_accept (verdict a) (replicate n 0) (image a) → ResultSpec n right (verdict b) (image b) s r s'
  hands-as a b h k e f g =
      hands-told n right (verdict b) (image b) s h k
      (f ∙ ap (λ (x : A). verdict_number (verdict x)) e)
      (g ∙ ap (λ (x : A). on_accept (verdict x) (replicate n 0) (image x)) e)

module _ {A B : Type 0} (right : Bool) (plan : A → B → Plan) (d d' : List ℕ) (w : Result ℕ Refusal) where
  -- the plan for x and y is the one for a and b
  pub wrote_as : {x a : A} {y b : B} {r n : ℕ} → right ≡ true → x ≡ a → y ≡ b → Did (plan x y) d w d' → r ≡ (written_says w).0
      → n ≡ (written_says w).1
      → Writes (range_first right (plan a b)) d r d' n
  wrote_as {x} {a} {y} {b} e f g did h i =
      let own : Did (plan a b) d w d' = rw (f, g) at did in
      record {
        number = rw e (h ∙ ap (λ (v : Result ℕ Refusal). (written_says v).0) own.says);
        dst = rw e own.holds;
        long = rw e (i ∙ ap (λ (v : Result ℕ Refusal). (written_says v).1) own.says);
      }

-- two tests, one after the other
module _ (a b : Bool) where
  pub not_first : a ≡ false → (a && b) ≡ false
  not_first e = rw e

  pub not-second : b ≡ false → (a && b) ≡ false
  not-second e = rw e (and-false a)
