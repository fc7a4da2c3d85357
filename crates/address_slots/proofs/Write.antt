-- A place is held by two stores: the mark, then a copy of the board.
use Prim.Native.Nat.{ℕ, suc, ◌+◌, ◌-◌, ◌*◌, ◌≤◌}
use mathlib.Core.Path.{◌≡◌, refl, ◌∙◌}
use mathlib.Core.List.{List}
use native.Mathlib.Omega.{arith}
use lib.ListN.{length, set}
use lib.Seq.{paste, take-suc-set, drop-set-lt, append_snoc}
use borrow.Rule.Slice.PartMut.{put_mid}
use Rattle.std.proofs.lemmas.Slice.{put_mid-paste}
use Rattle.address_slots.specs.Slot.{hold}

board-all : (m : List ℕ) (k : ℕ) (b : List ℕ) (i : ℕ) → 9 * k + 9 ≤ length m → i ≡ 8
    → paste (set m (9 * k) 1) (9 * k + 1) b i ≡ hold m k b
unfolding hold
board-all m k b i h e =
    let f : 9 * k + 1 + 8 ≡ 9 * k + 9 = omega arith in
    let g : 9 * k + 1 ≡ suc (9 * k) = omega arith in
    rw (e, f, g, take-suc-set m (9 * k) 1 (omega arith), drop-set-lt (9 * k + 9) m (9 * k) 1 (omega arith), append_snoc)

pub board-put : (m : List ℕ) (k : ℕ) (b ys : List ℕ) → 9 * k + 9 ≤ length m → length b ≡ 8 → ys ≡ b
    → put_mid (9 * k + 1) (9 * k + 9 - (9 * k + 1)) (set m (9 * k) 1) ys ≡ hold m k b
board-put m k b ys h l e =
    put_mid-paste (9 * k + 1) (9 * k + 9 - (9 * k + 1)) (set m (9 * k) 1) ys b (9 * k + 9 - (9 * k + 1)) e refl (omega arith)
    ∙ board-all m k b (9 * k + 9 - (9 * k + 1)) h (omega arith)
