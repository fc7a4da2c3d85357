-- A holding that the places show stands in the memory: at its place are mark 1 and the board.
use Prim.Native.Nat.{ℕ, zero, suc, ◌+◌, ◌-◌, ◌*◌}
use mathlib.Core.Path.{◌≡◌, refl, sym, ap}
use mathlib.Core.Bool.{Bool, true, false}
use mathlib.Core.Logic.{⊎_elim}
use mathlib.Core.List.{List, ◌∷◌, Memᴰ}
use native.Mathlib.Omega.{arith}
use borrow.Author.Tests.{eqb-true}
use lib.Dec.{eqb}
use lib.ListN.{get_or, drop}
use lib.Seq.{get_or-drop, drop-drop}
use Rattle.address_slots.specs.Slot.{slot_at, slots}
use Rattle.address_ledger_laws.specs.History.{Holding}
use Rattle.address_ledger_laws.specs.Laws.{Stands}
use Rattle.address_ledger_laws.proofs.Holders.{holding, held_from}

further : (a n : ℕ) (m : List ℕ) (h : Holding) → Stands (suc a) n (drop 9 m) h → Stands a (suc n) m h
further a n m h s =
    let x = h.address - suc a in
    let e : 9 * (h.address - a) ≡ 9 + 9 * (h.address - suc a) = omega (arith, s.above) in
    let f : 9 + 9 * (h.address - suc a) + 1 ≡ 9 + (9 * (h.address - suc a) + 1) = omega arith in
    record {
      above = omega (arith, s.above);
      below = omega (arith, s.below);
      mark = rw (e, ← get_or-drop 9 m (9 * (h.address - suc a)) 0) s.mark;
      board = rw (e, f, ← drop-drop (9 * (h.address - suc a) + 1) 9 m) s.board;
    }

here : (a n : ℕ) (m : List ℕ) (h : Holding) → eqb (slot_at m).mark 1 ≡ true → h ≡ holding (slot_at m).board a → Stands a (suc n) m h
unfolding slot_at
here a n m h t q =
    let z : h.address ≡ a = ap (λ (k : Holding). k.address) q in
    let e : 9 * (h.address - a) ≡ 0 = omega arith in
    record {
      above = omega arith;
      below = omega arith;
      mark = rw e (eqb-true (get_or m 0 0) 1 t);
      board = rw e (sym (ap (λ (k : Holding). k.board) q));
    }

stands-cons : (a n : ℕ) (m : List ℕ) (x : Bool) → eqb (slot_at m).mark 1 ≡ x
    → ((h : Holding) → Memᴰ h (held_from (suc a) (slots n (drop 9 m))) → Stands (suc a) n (drop 9 m) h)
    → (h : Holding) → Memᴰ h (held_from a (slot_at m ∷ slots n (drop 9 m))) → Stands a (suc n) m h
unfolding held_from
stands-cons a n m true e ih h i =
    let j : Memᴰ h (holding (slot_at m).board a ∷ held_from (suc a) (slots n (drop 9 m))) = rw e at i in
    ⊎_elim (λ q. here a n m h e q) (λ r. further a n m h (ih h r)) (mathlib.Core.List.Memᴰ.cases_cons j)
stands-cons a n m false e ih h i = further a n m h (ih h (rw e at i))

pub stands : (a n : ℕ) (m : List ℕ) (h : Holding) → Memᴰ h (held_from a (slots n m)) → Stands a n m h
unfolding slots held_from
stands a zero m h i = absurd (mathlib.Core.List.Memᴰ.not-nil i)
stands a (suc n) m h i = stands-cons a n m _ refl (stands (suc a) n (drop 9 m)) h i
