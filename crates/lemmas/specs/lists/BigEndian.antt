-- Lemmas: nothing here has to be believed.
-- A number of several bytes, written from its last byte on and read from its first: one byte more.
use Rattle.std.specs.Prelude.{ℕ, suc, ◌+◌, ◌*◌, ◌-◌, ◌^◌, ◌≤◌, ◌<◌, ◌≡◌, List, ◌∷◌, length, take, drop, set, get_or}
use Rattle.std.proofs.Common.{◌∙◌, arith, add-one, pow-suc, length-set, drop-cons, drop-set-lt, get_or-set_same}
use Rattle.std.proofs.Math.Nat.{pow-le-pow_right}

-- one byte further
pub part-cons : (s : List ℕ) (i end : ℕ) → i < end → end ≤ length s
    → take (end - i) (drop i s) ≡ get_or s i 0 ∷ take (end - (i + 1)) (drop (i + 1) s)
part-cons s i end h l =
    let e : end - i ≡ suc (end - (i + 1)) = omega arith in
    let g : i < length s = omega arith in
    rw (e, add-one i, drop-cons s i 0)

-- the byte that was stored, and what follows it
pub drop-set : (l : List ℕ) (i b : ℕ) → i < length l → drop i (set l i b) ≡ b ∷ drop (suc i) l
drop-set l i b h =
    drop-cons (set l i b) i 0 (omega (arith, length-set l i b))
    ∙ rw (get_or-set_same l i b 0 h, drop-set-lt (suc i) l i b (omega arith))

-- below 256 ^ i, and one byte more, is below 256 ^ (i + 1)
pub grows : (v b i : ℕ) → v < 256 ^ i → b < 256 → v * 256 + b < 256 ^ (i + 1)
grows v b i h k = rw (add-one, pow-suc 256 i) (omega arith)

-- and fits 64 bits, for up to eight bytes
pub grown-fits : (v b i : ℕ) → v < 256 ^ i → b < 256 → i < 8 → v * 256 + b < 2 ^ 64
grown-fits v b i h k l =
    let m : 256 ^ (i + 1) ≤ 256 ^ 8 = pow-le-pow_right {n = 256} (omega arith) {i = i + 1} {j = 8} (omega arith) in
    omega (arith, grows v b i h k)
