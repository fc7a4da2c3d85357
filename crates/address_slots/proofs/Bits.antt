-- The marks as bits: a machine's `or` and shifts do what the definitions do bit by bit.
use Prim.Native.Nat.{ℕ, zero, suc, ◌+◌, ◌-◌, ◌*◌, ◌/◌, ◌%◌, ◌^◌, ◌<◌}
use mathlib.Core.Path.{◌≡◌, ◌∙◌}
use mathlib.Core.Bool.{true, false}
use native.Mathlib.Omega.{arith}
use lib.Bits.{bit_and, bit_or, or_step, or_zero_r, or_add_and}
use Rattle.std.proofs.lemmas.Nat.{and_comm, and-not}
use lib.Pow.{shl_exact}
use Rattle.address_slots.specs.Marks.{with_mark}

-- 1 shifted to a group's bit
pub one_shifted : (g : ℕ) → g < 64 → (1 * 2 ^ g) % 2 ^ 64 ≡ 2 ^ g
one_shifted g h = shl_exact {a = 1} 1 g 64 (omega arith) (omega arith) ∙ omega arith

-- the bit set
pub or-marks : (g x : ℕ) → bit_or x (2 ^ g) ≡ with_mark g true x
unfolding with_mark
or-marks zero x =
    let e : bit_or (x / 2) (1 / 2) ≡ x / 2 = or_zero_r (x / 2) in
    or_step x 1 ∙ rw e (omega arith)
or-marks (suc g) x =
    let e : 2 ^ suc g / 2 ≡ 2 ^ g = omega arith in
    let f : 2 ^ suc g % 2 ≡ 0 = omega arith in
    or_step x (2 ^ suc g) ∙ rw (e, f, or-marks g (x / 2)) (omega arith)

-- the bit cleared: it was set and is taken away
pub less-bit : (g x : ℕ) → with_mark g true x ≡ with_mark g false x + 2 ^ g
unfolding with_mark
less-bit zero x = omega arith
less-bit (suc g) x = rw (less-bit g (x / 2)) (omega arith)

module _ (g x : ℕ) (h : g < 64) where
  pub set_is : bit_or x ((1 * 2 ^ g) % 2 ^ 64) ≡ with_mark g true x
  set_is = rw (one_shifted g h) (or-marks g x)

  -- a mark is cleared by `and` with all other bits
  pub cleared-is : x < 2 ^ 64 → bit_and x (18446744073709551615 - (1 * 2 ^ g) % 2 ^ 64) ≡ with_mark g false x
  cleared-is r =
      let p : (1 * 2 ^ g) % 2 ^ 64 < 2 ^ 64 = omega arith in
      omega (
        arith,
        one_shifted g h,
        and-not 64 ((1 * 2 ^ g) % 2 ^ 64) x p r,
        and_comm x (18446744073709551615 - (1 * 2 ^ g) % 2 ^ 64),
        and_comm x ((1 * 2 ^ g) % 2 ^ 64),
        or_add_and x ((1 * 2 ^ g) % 2 ^ 64),
        set_is,
        less-bit g x,
      )
