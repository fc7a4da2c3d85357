-- What a fixture holds lies in its range, so ranges that do not meet have no address in common.
use Prim.Native.Nat.{ℕ, suc, ◌+◌, ◌-◌, ◌*◌, ◌/◌, ◌≤◌, ◌<◌}
use mathlib.Core.Path.{◌≡◌, refl}
use mathlib.Core.Bool.{Bool, true, false, ◌&&◌}
use mathlib.Core.Logic.{inl, inr, ⊎_elim}
use mathlib.Core.List.{List, Memᴰ}
use native.Mathlib.Omega.{arith}
use native.Mathlib.Nat.{mul-suc, mul-le-mul_left}
use borrow.Author.Tests.{leb-true}
use lib.Dec.{leb}
use Rattle.lemmas.specs.logic.Tests.{both_right, both_left}
use Rattle.address_ledger.specs.range.RangeLemmas.{counted-most}
use Rattle.address_ledger_laws.specs.History.{Holding}
use Rattle.address_ledger_laws.specs.Laws.{OneHolder}
use Rattle.address_journal.specs.Share.{is_share, part_of}
use Rattle.address_journal_laws.specs.Journal.{Event, calls_of, lasting, changes}
use Rattle.address_journal_laws.specs.Laws.{Starts, holdings, Apart, ApartFixtures, SharesApart}
use Rattle.address_journal_laws.proofs.Cuts.{lasting-begins}

module _ (holder : OneHolder) (first size : ℕ) (m : List ℕ) (es : List Event) (w : Starts first size m (changes es)) (h : Holding)
    (i : Memᴰ h (holdings first size m es)) where
  inside : (first ≤ h.address) × (h.address < first + size)
  inside =
      let s = holder.stands first size m (calls_of (lasting es)) (lasting-begins first size m es w) h i in
      (s.above, omega (arith, s.below, counted-most first size))

pub apart-fixtures : OneHolder → ApartFixtures
unfolding ApartFixtures
apart-fixtures holder first size m es w first' size' m' es' w' apart g h i j e =
    let p = inside holder first size m es w g i in
    let q = inside holder first' size' m' es' w' h j in
    ⊎_elim (λ k. omega (arith, p.1, q.0, e, k)) (λ k. omega (arith, p.0, q.1, e, k)) apart

-- ---- equal parts one after the other
next-part : (q j k : ℕ) → 1 ≤ j → j < k → q * (j - 1) + q ≤ q * (k - 1)
next-part q j k h l = omega (arith, mul-suc q (j - 1), mul-le-mul_left {m = suc (j - 1)} {n = k - 1} q (omega arith))

from_one : (first size k n : ℕ) → is_share first size k n ≡ true → 1 ≤ k
unfolding is_share
from_one first size k n e =
    leb-true 1 k
    (both_left (leb 1 k) (leb k n)
    (both_right (leb size 4096) (leb 1 k && leb k n) (both_right (leb first 0x10000) (leb size 4096 && (leb 1 k && leb k n)) e)))

shares-by : (first size n j k : ℕ) → j < k → (x y : Bool) → is_share first size j n ≡ x → is_share first size k n ≡ y
    → Apart (part_of first size j n).first (part_of first size j n).size (part_of first size k n).first (part_of first size k n).size
unfolding part_of
shares-by first size n j k l true true p q = rw (p, q) (inl (omega (arith, next-part (size / n) j k (from_one first size j n p) l)))
shares-by first size n j k l true false p q = rw (p, q) (inr (omega arith))
shares-by first size n j k l false y p q = rw p (inl (omega arith))

pub shares-apart : SharesApart
unfolding SharesApart
shares-apart first size n j k l = shares-by first size n j k l _ _ refl refl
