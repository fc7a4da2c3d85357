-- Lemmas: nothing here has to be believed.
-- An array that `array::from_fn` makes is the table of what its closure returns, where no call changes the closure.
use Rattle.std.specs.Prelude.{◌≡◌, List, ℕ, zero, suc, ◌+◌, ◌<◌, ◌≤◌, get_or}
use Rattle.std.proofs.Common.{sym, ◌∙◌, subst, ⊎_elim, eq-or-lt_of_le, arith}
use Rattle.std.specs.Array.{IsFromFnResult, IsFromFnResultFrom}
use Rattle.std.specs.Fn.{Called}
use denote.Param.Members.{Mut}
use Rattle.lemmas.specs.lists.Table.{table}
use Rattle.lemmas.specs.lists.TableLemmas.{table-self}

module _ {F B : Type 0} {g : Mut F (ℕ × Unit {0}) B} (h : ℕ → B) {f : F}
    (call : (i : ℕ) (y : B) (q : F) → Called g f (i, tt) y q → (y ≡ h i) × (q ≡ f)) where
  made-at : (ys : List B) (i n : ℕ) → IsFromFnResultFrom g f ys i n → (k : ℕ) (d : B) → i ≤ k → k < i + n → get_or ys k d ≡ h k
  made-at ys i zero made k d low high = absurd (omega arith)
  made-at ys i (suc n) made k d low high =
      let y = made.1 in
      let here = call i y made.0 made.3 in
      ⊎_elim
      (λ (e : i ≡ k). subst (λ (j : ℕ). get_or ys j d ≡ h j) e (made.2.1 d ∙ here.0))
      (λ (l : i < k).
      let rest = subst (λ (p : F). IsFromFnResultFrom g p ys (i + 1) n) here.1 made.4 in
      made-at ys (i + 1) n rest k d (omega arith) (omega arith))
      (eq-or-lt_of_le low)

  pub made-table : {ys : List B} {n : ℕ} → IsFromFnResult g f ys n → ys ≡ table n h
  made-table {ys} {n} made =
      sym (table-self ys (h 0) n h made.long (λ i l. sym (made-at ys 0 n made.each i (h 0) (omega arith) (omega arith))))
