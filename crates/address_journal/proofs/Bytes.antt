-- Eight bytes one by one are the board; twelve bytes of fields and the check behind them.
use Prim.Native.Nat.{ℕ, ◌+◌, ◌/◌, ◌%◌, ◌≤◌, ◌<◌}
use mathlib.Core.Path.{◌≡◌, refl, sym, ap, ◌∙◌}
use mathlib.Core.List.{List, [], ◌∷◌, ◌++◌}
use native.Mathlib.Omega.{arith}
use lib.ListN.{length, get_or, take, drop, length-drop}
use lib.Seq.{get_or-take, get_or-drop, length-take-le}
use lib.ListN.{drop_of_length-le, length-append}
use lib.Seq.{take-append_seam}
use mathlib.Core.List.{append-nil}
use borrow.Rule.Slice.PartMut.{put_mid}
use Rattle.std.proofs.lemmas.Slice.{put_mid-paste}
use Rattle.std.proofs.lemmas.List.Edits.{paste_all}
use Rattle.lemmas.specs.lists.Table.{table}
use Rattle.lemmas.specs.lists.TableLemmas.{table-self}
use Rattle.address_journal.specs.Format.{four_bytes, board_in}

pub eight : (b : List ℕ) → length b ≡ 8
    → (get_or b 0 0 ∷ get_or b 1 0 ∷ get_or b 2 0 ∷ get_or b 3 0 ∷ get_or b 4 0 ∷ get_or b 5 0 ∷ get_or b 6 0 ∷ get_or b 7 0 ∷ []) ≡ b
unfolding table
eight b e = table-self b 0 8 (λ i. get_or b i 0) e (λ i h. refl)

-- the eight bytes after an offset
pub part-is : (s : List ℕ) (at : ℕ) → at + 9 ≤ length s
    → (get_or s (at + 1) 0 ∷ get_or s (at + 2) 0 ∷ get_or s (at + 3) 0 ∷ get_or s (at + 4) 0 ∷ get_or s (at + 5) 0 ∷ get_or s (at + 6) 0
    ∷ get_or s (at + 7) 0 ∷ get_or s (at + 8) 0 ∷ [])
    ≡ take 8 (drop (at + 1) s)
unfolding table
part-is s at h =
    table-self (take 8 (drop (at + 1) s)) 0 8 (λ i. get_or s (at + (1 + i)) 0)
    (length-take-le 8 (drop (at + 1) s) (rw (length-drop (at + 1) s) (omega arith)))
    (λ i k. let e : at + (1 + i) ≡ at + 1 + i = omega arith in
    rw e (sym (get_or-take 8 (drop (at + 1) s) i 0 k ∙ get_or-drop (at + 1) s i 0)))

pub board-is : (s : List ℕ) → 16 ≤ length s
    → (get_or s 1 0 ∷ get_or s 2 0 ∷ get_or s 3 0 ∷ get_or s 4 0 ∷ get_or s 5 0 ∷ get_or s 6 0 ∷ get_or s 7 0 ∷ get_or s 8 0 ∷ [])
    ≡ board_in s
board-is s h = part-is s 0 (omega arith)

pub length-board : (s : List ℕ) → 16 ≤ length s → length (board_in s) ≡ 8
length-board s h = length-take-le 8 (drop 1 s) (rw (length-drop 1 s) (omega arith))

-- the fields, and the check behind them
with-is : (f b : List ℕ) → length f ≡ 12 → length b ≡ 4 → put_mid 12 4 (f ++ (0 ∷ 0 ∷ 0 ∷ 0 ∷ [])) b ≡ f ++ b
with-is f b h l =
    let zeros : List ℕ = 0 ∷ 0 ∷ 0 ∷ 0 ∷ [] in
    let q : 4 ≡ length b = omega arith in
    let t : take 12 (f ++ zeros) ≡ f = rw h at (take-append_seam f zeros) in
    let d : drop 16 (f ++ zeros) ≡ [] = drop_of_length-le (f ++ zeros) {i = 16} (omega (arith, length-append f zeros)) in
    put_mid-paste 12 4 (f ++ zeros) b b 4 refl refl q ∙ paste_all (f ++ zeros) 12 b 4 q ∙ rw (t, d, append-nil)

pub with_check-is : (f g b : List ℕ) (n : ℕ) → length g ≡ 12 → g ≡ f → n < 0x100000000
    → b ≡ n / 0x1000000 % 256 ∷ n / 0x10000 % 256 ∷ n / 0x100 % 256 ∷ n % 256 ∷ []
    → put_mid 12 4 (g ++ (0 ∷ 0 ∷ 0 ∷ 0 ∷ [])) b ≡ f ++ four_bytes n
with_check-is f g b n h e k q =
    let t : n / 0x1000000 % 256 ≡ n / 0x1000000 = omega arith in
    let c : b ≡ four_bytes n = rw t at q in
    with-is g b h (ap (λ (l : List ℕ). length l) c) ∙ rw (e, c)
