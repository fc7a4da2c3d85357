-- std's saturating sum and maximum are the definitions' tests.
use Rattle.std.proofs.Common.{ℕ, ◌+◌, ◌-◌, ◌^◌, ◌<◌, ◌≡◌, refl, Bool, true, false, min, max, arith}
use Rattle.std.proofs.lemmas.Bool.{ltb-true, ltb-false}
use Rattle.std.specs.Prelude.{cond, ltb}
use Rattle.trace.specs.Statistics.{greater}
use Rattle.trace.specs.Step.{more}

more_by : (n : ℕ) (b : Bool) → n < 2 ^ 64 → ltb n (2 ^ 64 - 1) ≡ b → min (n + 1) (2 ^ 64 - 1) ≡ cond b (n + 1) n
more_by n true h e = omega (arith, ltb-true n (2 ^ 64 - 1) e)
more_by n false h e = omega (arith, ltb-false n (2 ^ 64 - 1) e)

pub saturated : (n : ℕ) → n < 2 ^ 64 → min (n + 1) (2 ^ 64 - 1) ≡ more n
unfolding more
saturated n h = more_by n _ h refl

greater_by : (a b : ℕ) (t : Bool) → ltb b a ≡ t → max a b ≡ cond t a b
greater_by a b true e = omega (arith, ltb-true b a e)
greater_by a b false e = omega (arith, ltb-false b a e)

pub max_greater : (a b : ℕ) → max a b ≡ greater a b
max_greater a b = greater_by a b _ refl
