-- What every call from C has in common: arguments of fixed length, and what stays where a verdict refuses.
-- Assumes nothing.
use Rattle.std.specs.Prelude.{ℕ, ◌≡◌, refl, Bool, true, false, ◌&&◌, List, eqb, length, take, drop, replicate, Ok, Err}
use Rattle.std.proofs.Common.{ap, ◌∙◌, arith, eq-eqb, ne_eqb, eqb-true, take_all}
use Rattle.lemmas.specs.logic.Tests.{both_left}
use Rattle.refusal.specs.Refusal.{number_of}
use Rattle.refusal.specs.Verdict.{verdict_number}
use Rattle.refusal.specs.declared.Refusal.{Refusal}
use Rattle.refusal.specs.Verdict.{Verdict}
use Rattle.image.specs.Effects.{on_accept, result_bytes, zeroed, hand_verdict, ResultSpec}
use Rattle.image.specs.Part.{Part, is_image}

-- all n bytes of an argument of n, as an array
pub whole : (n : ℕ) (b : List ℕ) {x : List ℕ} → length b ≡ n → x ≡ take n (drop 0 b) → x ≡ b
whole n b h e = e ∙ take_all n b (omega arith)

-- an image has its size
pub long : {A : Type 0} (p : Part A) (s : List ℕ) → is_image p s ≡ true → length s ≡ p.size
long p s e = eqb-true (length s) p.size (both_left (eqb (length s) p.size) (p.good s) e)

-- a length, and then another test
module _ (a : List ℕ) (n : ℕ) (b : Bool) where
  pub other_length : ¬ (length a ≡ n) → (eqb (length a) n && b) ≡ false
  other_length h = rw (ne_eqb (length a) n h)

  pub then-not : length a ≡ n → b ≡ false → (eqb (length a) n && b) ≡ false
  then-not h e = rw (eq-eqb (length a) n h) e

  pub then-so : length a ≡ n → b ≡ true → (eqb (length a) n && b) ≡ true
  then-so h e = rw (eq-eqb (length a) n h) e

-- ---- what a verdict leaves
module _ (v : Verdict) (before after : List ℕ) {x : List ℕ} where
  pub accepted : v ≡ Ok tt → x ≡ after → (0 ≡ verdict_number v) × (x ≡ on_accept v before after)
  accepted e h = rw e (refl, h)

  pub refused : (k : Refusal) {r : ℕ} → v ≡ Err k → r ≡ number_of k → x ≡ before → (r ≡ verdict_number v) × (x ≡ on_accept v before after)
  refused k e g h = rw e (g, h)

-- the same in either case
pub same-either : {A : Type 0} (v : Verdict) (x : A) → on_accept v x x ≡ x
same-either (Ok tt) x = refl
same-either (Err k) x = refl

-- a call whose number is not 0 was refused, and leaves what stood before
pub kept : {A : Type 0} (v : Verdict) (before after : A) {r : ℕ} {x : A} → r ≡ verdict_number v → (r ≡ 0 → ⊥) → x ≡ on_accept v before after
    → x ≡ before
kept (Ok tt) before after e h f = absurd (h e)
kept (Err k) before after e h f = f

-- its result is all zero
pub emptied : (n : ℕ) (v : Verdict) (image s : List ℕ) {r : ℕ} {x : List ℕ} → r ≡ verdict_number v → (r ≡ 0 → ⊥)
    → x ≡ result_bytes n v image s
    → x ≡ zeroed n s
emptied n (Ok tt) image s e h f = absurd (h e)
emptied n (Err k) image s e h f = f

-- ---- a call that hands back a struct
module _ (n : ℕ) (right : Bool) (w : Verdict) (image s : List ℕ) where
  pub hands-unfit : ¬ (length s ≡ n) → ResultSpec n right w image s 13 s
  hands-unfit h = record { number = rw (ne_eqb (length s) n h); result = rw (ne_eqb (length s) n h) }

  pub hands_none : {s' : List ℕ} → length s ≡ n → right ≡ false → s' ≡ replicate (length s) 0 → ResultSpec n right w image s 13 s'
  hands_none h k e =
      record { number = rw (eq-eqb (length s) n h, k); result = rw (eq-eqb (length s) n h, k) (e ∙ ap (λ (m : ℕ). replicate m 0) h) }

  pub hands-told : {r : ℕ} {s' : List ℕ} → length s ≡ n → right ≡ true → r ≡ verdict_number w → s' ≡ on_accept w (replicate n 0) image
      → ResultSpec n right w image s r s'
  hands-told h k e f = record { number = rw (eq-eqb (length s) n h, k) e; result = rw (eq-eqb (length s) n h, k) f }

  pub hands-emptied : (r : ℕ) (s' : List ℕ) → ResultSpec n right w image s r s' → (r ≡ 0 → ⊥) → s' ≡ zeroed n s
  hands-emptied r s' d h = emptied n (hand_verdict n right w s) image s d.number h d.result
