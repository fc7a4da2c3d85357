-- The bytes of any memory, read as places: what stands at place k in bytes is what the list of places has there.
use Rattle.std.specs.Prelude.{Ok, Err}
use Prim.Native.Nat.{ℕ, zero, suc, ◌+◌, ◌*◌, ◌≤◌, ◌<◌}
use mathlib.Core.Path.{◌≡◌, refl, sym, ap, ◌∙◌}
use mathlib.Core.Bool.{Bool, true, false}
use mathlib.Core.List.{List, [], ◌∷◌}
use native.Mathlib.Omega.{arith}
use borrow.Author.Tests.{eq-eqb, ne_eqb, eqb-true, eqb-false, lt-ltb, le-ltb}
use lib.Dec.{eqb}
use lib.ListN.{length, get_or, take, drop, length-drop}
use lib.Seq.{drop-drop}
use Rattle.address_slots.specs.SlotLemmas.{length-slots}
use Rattle.lemmas.specs.logic.Tests.{both_true}
use Rattle.refusal.specs.declared.Refusal.TheVariants.{Unknown}
use Rattle.address_slots.specs.Slot.{Slot, slot_at, slots, same, lowest, has, held_by, is_free, slot_found}
use Rattle.address_ledger.specs.range.Range.{judged, counted}
use Rattle.address_ledger.specs.Ledger.{outcome, granting, giving_back, given_back}
use Rattle.address_ledger.specs.declared.ledger.Ledger.{Ledger}
use Rattle.address_slots.specs.declared.slot.SlotFound.{SlotFound}
use Rattle.address_slots.specs.declared.slot.SlotFound.TheVariants.{Held, Free, Nothing}
use Rattle.address_ledger.proofs.range.Judged.{usable}
use Rattle.address_slots.proofs.Scan.{mark-here, held_not, held_same}
use Rattle.address_slots.proofs.Found.{held-is}
use Rattle.address_slots.proofs.Passing.{sought-held}
use Rattle.address_ledger.proofs.Calls.{grant-accepted, back-accepted}
use Rattle.address_ledger_laws.proofs.Marks.{walk-accepted}
use Rattle.address_ledger_laws.specs.AnyMemory.{HeldAt, FreeAt, LowestAt, NoneAt, AnyMemory}

-- ---- bytes that agree are equal
self-none : (n : ℕ) → same n [] [] ≡ true
unfolding same
self-none zero = refl
self-none (suc n) = self-none n

same_self : (n : ℕ) (s : List ℕ) → same n s (take n s) ≡ true
unfolding same
same_self zero s = refl
same_self (suc n) [] = self-none n
same_self (suc n) (x ∷ s) = rw (eq-eqb x x refl) (same_self n s)

same-equal : (n : ℕ) (s t : List ℕ) → n ≤ length s → length t ≡ n → same n s t ≡ true → take n s ≡ t
unfolding same
same-equal zero s [] h l e = refl
same-equal zero s (y ∷ t) h l e = absurd (omega arith)
same-equal (suc n) [] t h l e = absurd (omega arith)
same-equal (suc n) (x ∷ s) [] h l e = absurd (omega arith)
same-equal (suc n) (x ∷ s) (y ∷ t) h l e =
    let u = both_true (eqb x y) (same n s t) e in
    rw (eqb-true x y u.0, same-equal n s t (omega arith) (omega arith) u.1)

-- ---- the lowest place, by the bytes
module _ (q : Slot → Bool) where
  pub lowest-at : (n k : ℕ) (m : List ℕ) → k < n → q (slot_at (drop (9 * k) m)) ≡ true
      → ((j : ℕ) → j < k → q (slot_at (drop (9 * j) m)) ≡ false) → lowest q (slots n m) ≡ k
  unfolding lowest slots
  lowest-at zero k m h t f = absurd (omega arith)
  lowest-at (suc n) zero m h t f = rw t
  lowest-at (suc n) (suc k) m h t f =
      let e : 9 * suc k ≡ 9 + 9 * k = omega arith in
      rw (f 0 (omega arith))
      (ap suc
      (lowest-at n k (drop 9 m) (omega arith) (rw (drop-drop (9 * k) 9 m, ← e) t)
      (λ j l. let d : 9 * suc j ≡ 9 + 9 * j = omega arith in rw (drop-drop (9 * j) 9 m, ← d) (f (suc j) (omega arith)))))

  pub lowest-none : (n : ℕ) (m : List ℕ) → ((j : ℕ) → j < n → q (slot_at (drop (9 * j) m)) ≡ false) → lowest q (slots n m) ≡ n
  unfolding lowest slots
  lowest-none zero m f = refl
  lowest-none (suc n) m f =
      rw (f 0 (omega arith))
      (ap suc
      (lowest-none n (drop 9 m)
      (λ j l. let d : 9 * suc j ≡ 9 + 9 * j = omega arith in rw (drop-drop (9 * j) 9 m, ← d) (f (suc j) (omega arith)))))

-- ---- one place, by its bytes
module _ (m b : List ℕ) (k : ℕ) where
  held-here : HeldAt m b k → held_by b (slot_at (drop (9 * k) m)) ≡ true
  held-here h =
      sym (held_same (9 * k) m b h.mark) ∙ ap (λ (t : List ℕ). same 8 (drop (9 * k + 1) m) t) (sym h.board)
      ∙ same_self 8 (drop (9 * k + 1) m)

  not-held-by : length b ≡ 8 → 9 * k + 9 ≤ length m → (HeldAt m b k → ⊥) → (x y : Bool) → eqb (get_or m (9 * k) 0) 1 ≡ x
      → same 8 (drop (9 * k + 1) m) b ≡ y
      → held_by b (slot_at (drop (9 * k) m)) ≡ false
  not-held-by l r n false y p q = sym (held_not (9 * k) m b (eqb-false (get_or m (9 * k) 0) 1 p))
  not-held-by l r n true false p q = sym (held_same (9 * k) m b (eqb-true (get_or m (9 * k) 0) 1 p)) ∙ q
  not-held-by l r n true true p q =
      absurd
      (n
      (record {
        mark = eqb-true (get_or m (9 * k) 0) 1 p;
        board = same-equal 8 (drop (9 * k + 1) m) b (simp length-drop (omega arith)) l q;
      }))

  not-held : length b ≡ 8 → 9 * k + 9 ≤ length m → (HeldAt m b k → ⊥) → held_by b (slot_at (drop (9 * k) m)) ≡ false
  not-held l r n = not-held-by l r n _ _ refl refl

  free-here : FreeAt m k → is_free (slot_at (drop (9 * k) m)) ≡ true
  unfolding is_free
  free-here f = rw (mark-here (9 * k) m b, ne_eqb _ _ f)

  not-free-by : (x : Bool) → eqb (get_or m (9 * k) 0) 1 ≡ x → (FreeAt m k → ⊥) → is_free (slot_at (drop (9 * k) m)) ≡ false
  unfolding is_free
  not-free-by true e n = rw (mark-here (9 * k) m b, e)
  not-free-by false e n = absurd (n (eqb-false (get_or m (9 * k) 0) 1 e))

-- ---- what is found, by the bytes
module _ (m b : List ℕ) (n : ℕ) (l : length b ≡ 8) (r : 9 * n ≤ length m) where
  lowest-held : (k : ℕ) → LowestAt (HeldAt m b) n k → lowest (held_by b) (slots n m) ≡ k
  lowest-held k h =
      let w = h.within in
      lowest-at (held_by b) n k m h.within (held-here m b k h.here)
      (λ j i. not-held m b j l (omega arith) (h.lower j i))

  none-held : NoneAt (HeldAt m b) n → lowest (held_by b) (slots n m) ≡ n
  none-held h = lowest-none (held_by b) n m (λ j i. not-held m b j l (omega arith) (h j i))

  lowest-free : (k : ℕ) → LowestAt (FreeAt m) n k → lowest is_free (slots n m) ≡ k
  lowest-free k h = lowest-at is_free n k m h.within (free-here m b k h.here) (λ j i. not-free-by m b j _ refl (h.lower j i))

  none_free : NoneAt (FreeAt m) n → lowest is_free (slots n m) ≡ n
  none_free h = lowest-none is_free n m (λ j i. not-free-by m b j _ refl (h j i))

  found-held : (k : ℕ) → LowestAt (HeldAt m b) n k → Held k ≡ slot_found b (slots n m)
  unfolding slot_found has
  found-held k h = rw (lowest-held k h, length-slots n m, lt-ltb k n h.within)

  found-free : NoneAt (HeldAt m b) n → (k : ℕ) → LowestAt (FreeAt m) n k → Free k ≡ slot_found b (slots n m)
  unfolding slot_found has
  found-free o k h = rw (none-held o, lowest-free k h, length-slots n m, le-ltb n n (omega arith), lt-ltb k n h.within)

  found_nothing : NoneAt (HeldAt m b) n → NoneAt (FreeAt m) n → Nothing ≡ slot_found b (slots n m)
  unfolding slot_found has
  found_nothing o h = rw (none-held o, none_free h, length-slots n m, le-ltb n n (omega arith))

unknown-by : (l : Ledger) (m b : List ℕ) → Ok tt ≡ judged l.first l.size (length m) → (n : ℕ) → n ≡ counted l.first l.size
    → length b ≡ 8 → 9 * n ≤ length m → NoneAt (HeldAt m b) n → (s : SlotFound) → s ≡ slot_found b (slots n m)
    → given_back l m b ≡ outcome (Err Unknown) l m
unfolding giving_back
unknown-by l m b f n q e r o (Held k) s =
    let i = held-is b (slots n m) k s in
    absurd (omega (arith, i.0, i.1, none-held m b n e r o, length-slots n m))
unknown-by l m b f n q e r o (Free k) s = sym (back-accepted l m b f n q _ (ap (λ (s : SlotFound). giving_back n l m s) s))
unknown-by l m b f n q e r o Nothing s = sym (back-accepted l m b f n q _ (ap (λ (s : SlotFound). giving_back n l m s) s))

pub any_memory : AnyMemory
unfolding AnyMemory granting giving_back
any_memory l m b e f =
    let n = counted l.first l.size in
    let r = (usable l.first l.size (length m) f (counted l.first l.size) refl).room in
    record {
      same-again = λ k h. sym (grant-accepted l m b f n refl _
          (ap (λ (s : SlotFound). granting n l m b s) (sought-held l.summary b n m k (sym (lowest-held m b n e r k h)) h.within)));
      lowest-free =
          λ w o k h. sym (walk-accepted l m f b w) ∙ ap (λ (s : SlotFound). granting n l m b s) (sym (found-free m b n e r o k h));
      full = λ w o h. sym (walk-accepted l m f b w) ∙ ap (λ (s : SlotFound). granting n l m b s) (sym (found_nothing m b n e r o h));
      given_back_lem = λ k h. sym (back-accepted l m b f n refl _ (ap (λ (s : SlotFound). giving_back n l m s) (found-held m b n e r k h)));
      unknown = λ o. unknown-by l m b f n refl e r o _ refl;
    }
