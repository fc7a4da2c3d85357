-- Numbers of several bytes, byte by byte.
use Prim.Native.Nat.{ℕ, ◌+◌, ◌*◌, ◌-◌, ◌≤◌, ◌<◌}
use mathlib.Core.Path.{◌≡◌}
use mathlib.Core.List.{List, []}
use native.Mathlib.Omega.{arith}
use native.Mathlib.Numerals.{add-one}
use lib.ListN.{length, take, drop, get_or, drop_of_length-le, length-take}
use Rattle.std.proofs.Common.{drop-cons, get_or-take, get_or-drop}
use Rattle.trace_record.specs.Layout.{big_endian_on, number}

-- one byte further
pub number_step : (v i : ℕ) (b : List ℕ) → i < length b
    → big_endian_on v (drop i b) ≡ big_endian_on (v * 256 + get_or b i 0) (drop (i + 1) b)
number_step v i b h = rw (add-one i, drop-cons b i 0)

-- no byte is left
pub number-end : (v i n : ℕ) (s : List ℕ) (at : ℕ) → length (take (at + n - at) (drop at s)) ≤ i
    → big_endian_on v (drop i (take (at + n - at) (drop at s))) ≡ big_endian_on 0 (take (at + n - at) (drop at s))
    → v ≡ number n (drop at s)
unfolding number
number-end v i n s at h e =
    let f : at + n - at ≡ n = omega arith in
    let g : drop i (take (at + n - at) (drop at s)) ≡ [] = drop_of_length-le _ h in
    rw (g, f) at e

pub below-eight : (n at : ℕ) (s : List ℕ) (i : ℕ) → n ≤ 8 → i < length (take (at + n - at) (drop at s)) → i < 8
below-eight n at s i h k = omega (arith, length-take (at + n - at) (drop at s))

pub part-byte : (n at : ℕ) (s : List ℕ) (i : ℕ) → ((k : ℕ) → get_or s k 0 < 256) → i < length (take (at + n - at) (drop at s))
    → get_or (take (at + n - at) (drop at s)) i 0 < 256
part-byte n at s i f k =
    let h : i < at + n - at = omega (arith, length-take (at + n - at) (drop at s)) in
    rw (get_or-take, get_or-drop) (f (at + i))
