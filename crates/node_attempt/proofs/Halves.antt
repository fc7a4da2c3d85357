-- A timeout is judged by halving it once for each count.
use Prim.Native.Nat.{ℕ, zero, suc, ◌-◌, ◌/◌, ◌%◌, ◌<◌}
use native.Mathlib.Omega.{arith}
use mathlib.Core.Path.{◌≡◌}
use borrow.Author.Tests.{eq-eqb}
use Rattle.node_attempt.specs.Attempt.{timeout_after}

pub halved-even :
    (count timeout : ℕ) → 0 < count → timeout % 2 ≡ 0 → timeout_after count timeout ≡ timeout_after (count - 1) (timeout / 2)
halved-even zero timeout h e = absurd (omega arith)
halved-even (suc count) timeout h e =
    let less : suc count - 1 ≡ count = omega arith in rw (eq-eqb (timeout % 2) 0 e, less)
