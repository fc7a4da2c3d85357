-- A call that is lent a struct of the right size hands back what its verdict says: the result, or zeros.
use Prim.Native.Nat.{ℕ}
use mathlib.Core.Path.{◌≡◌}
use mathlib.Core.Bool.{Bool, true, false}
use mathlib.Core.List.{List}
use borrow.Author.Tests.{eq-eqb}
use lib.ListN.{length, replicate}
use Rattle.refusal.specs.Verdict.{verdict_number}
use Rattle.refusal.specs.Verdict.{Verdict}
use Rattle.image.specs.Effects.{on_accept, ResultSpec}

module _ {n : ℕ} {right : Bool} {v : Verdict} {image s : List ℕ} {r : ℕ} {s' : List ℕ} (d : ResultSpec n right v image s r s')
    (l : length s ≡ n) where
  pub right-number : right ≡ true → r ≡ verdict_number v
  right-number e = rw (eq-eqb (length s) n l, e) at d.number

  pub right-result : right ≡ true → s' ≡ on_accept v (replicate n 0) image
  right-result e = rw (eq-eqb (length s) n l, e) at d.result

  -- RANGE, and zeros
  pub wrong-number : right ≡ false → r ≡ 13
  wrong-number e = rw (eq-eqb (length s) n l, e) at d.number

  pub wrong_result : right ≡ false → s' ≡ replicate n 0
  wrong_result e = rw (eq-eqb (length s) n l, e) at d.result
