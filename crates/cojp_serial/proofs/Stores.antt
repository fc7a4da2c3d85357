-- What a part does to the store: the bytes that arrived are those before and the part's; the length stays.
use Prim.Native.Nat.{ℕ, ◌+◌, ◌-◌, ◌≤◌}
use mathlib.Core.Path.{◌≡◌, refl}
use mathlib.Core.List.{List, [], ◌++◌, append_assoc, append-nil}
use native.Mathlib.Omega.{arith}
use lib.ListN.{length, take, drop, length-append, length-take, length-drop, drop_of_length-le}
use lib.Seq.{take_all, take_at, drop_at, take-length, drop-drop, length-take-le}
use Rattle.cojp_serial.specs.State.{placed, decision_of, part_answer, part_store, Parted}
use Rattle.cojp_serial.specs.Laws.{OwnBytes}
use Rattle.cojp_serial.specs.declared.state.SerialState.{SerialState}
use Rattle.cojp_serial.specs.declared.state.PartDecision.{PartDecision}
use Rattle.cojp_serial.specs.declared.parts.PartResult.{PartResult}

module _ (n : ℕ) (p s : List ℕ) (fits : n + length p ≤ length s) where
  head-length : length (take n s ++ p) ≡ n + length p
  head-length = simp (length-append, length-take) (omega arith)

  pub placed-length : length (placed n p s) ≡ length s
  placed-length = simp (length-append, length-take, length-drop) (omega arith)

  pub placed-take : take (n + length p) (placed n p s) ≡ take n s ++ p
  placed-take =
      rw (← append_assoc (take n s) p (drop (n + length p) s)) (take_at (take n s ++ p) (drop (n + length p) s) (n + length p) head-length)

  pub placed-own : OwnBytes n p s (placed n p s)
  placed-own =
      let ahead : length (take n s) ≡ n = length-take-le n s (omega arith) in
      record {
        size = placed-length;
        ahead = take_at (take n s) (p ++ drop (n + length p) s) n ahead;
        own = rw (drop_at (take n s) (p ++ drop (n + length p) s) n ahead) (take_at p (drop (n + length p) s) (length p) refl);
        behind =
            rw (← append_assoc (take n s) p (drop (n + length p) s))
            (drop_at (take n s ++ p) (drop (n + length p) s) (n + length p) head-length);
      }

  -- as the copy leaves it: the part of the store from place n on holds q now
  pub placed-by-copy :
      (q : List ℕ) → q ≡ take (length p) p ++ drop (length p) (take (length s - n) (drop n s)) →
      take n s ++ (q ++ drop (length s - n) (drop n s)) ≡ placed n p s
  placed-by-copy q e =
      let whole : take (length s - n) (drop n s) ≡ drop n s = take_all (length s - n) (drop n s) (simp length-drop (omega arith)) in
      let none : drop (length s - n) (drop n s) ≡ [] = drop_of_length-le (drop n s) {i = length s - n} (simp length-drop (omega arith)) in
      let copied : q ≡ p ++ drop (n + length p) s = rw (take-length p, whole, drop-drop (length p) n s) at e in
      rw (none, copied, append-nil)

-- a part's promise, where its course is known
pub parted : (a : SerialState) (s p : List ℕ) (x : PartDecision) → decision_of a (length s) (length p) ≡ x → (r : PartResult)
    → r ≡ part_answer x a (length p)
    → (t : List ℕ) → t ≡ part_store x a.arrived p s → Parted a s p r t
parted a s p x e r says t holds = record { says = rw e says; holds = rw e holds }
