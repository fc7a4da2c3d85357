-- Of a lent length a call looks only at whether it is under 256, and no call reaches beyond the first 256 bytes: so a longer loan changes
-- nothing, and a shorter one is refused before anything changes.
use Rattle.std.specs.Prelude.{Err}
use Prim.Native.Nat.{ℕ, ◌+◌, ◌≤◌, ◌<◌}
use mathlib.Core.Path.{◌≡◌, refl, ap, sym, ◌∙◌}
use mathlib.Core.Bool.{Bool, true, false}
use mathlib.Core.List.{List, [], ◌∷◌, ◌++◌, append_assoc}
use native.Mathlib.Omega.{arith}
use borrow.Author.Tests.{leb-true, leb-false, le-leb}
use lib.Dec.{leb}
use lib.ListN.{length, take, drop, length-take, take-append-drop}
use lib.Seq.{take-take, drop-append-le}
use Rattle.refusal.specs.declared.Refusal.{Refusal}
use Rattle.refusal.specs.declared.Refusal.TheVariants.{Range}
use Rattle.cbor.specs.Strict.{head_by}
use Rattle.cojp.specs.Configuration.{refuse_configuration, read_configuration_by}
use Rattle.cojp.specs.Request.{refuse_request, read_request_by}
use Rattle.cojp_serial.specs.State.{placed, part_answer, part_store, end_read}
use Rattle.cojp_serial.specs.Calls.{Reader, request, configuration, SerialCall, resetting, sending, ending, join_request, update}
use Rattle.cojp_serial.specs.Calls.{Held, decision_on, told, left, verdict_in}
use Rattle.cojp_serial.specs.Laws.{AsServed, LentLengthsMayChange}
use Rattle.cojp_serial.specs.Loans.{Loan, loan, lent_of, loan_told, loan_left, suffices, none_lent, lent-enough, lent-short}
use Rattle.cojp_serial.specs.declared.state.PartDecision.{PartDecision}
use Rattle.cojp_serial.specs.declared.state.PartDecision.TheVariants.{Outside, Overrun, Ended, Open}
use Rattle.cojp_serial.proofs.Courses.{open-fits}
use Rattle.cojp_serial.proofs.Short.{part-range, end-range, part-leaves, end_leaves}
use Rattle.cojp_serial.proofs.Stores.{placed-length}
use Rattle.cojp_serial.proofs.Unread.{hold, course-alike}

-- ---- what is written in the part that is lent is written in the store
module _ (n a : ℕ) (p s : List ℕ) (fits : a + length p ≤ length (take n s)) (within : a + length p ≤ n) where
  behind : drop (a + length p) (take n s) ++ drop n s ≡ drop (a + length p) s
  behind =
      sym (drop-append-le (a + length p) (take n s) (drop n s) fits)
      ∙ ap (λ (l : List ℕ). drop (a + length p) l) (take-append-drop n s)

  placed-lent : placed a p (take n s) ++ drop n s ≡ placed a p s
  placed-lent =
      let front : take a (take n s) ≡ take a s = take-take a n s (omega (arith, within)) in
      let rest = drop (a + length p) (take n s) in
      rw (append_assoc (take a (take n s)) (p ++ rest) (drop n s), append_assoc p rest (drop n s), behind, front)

-- ---- a call that is lent enough
module _ (h : Held) (n : ℕ) (l : 256 ≤ n) (s : 256 ≤ length h.store) where
  lent-whole : 256 ≤ length (take n h.store)
  lent-whole = simp length-take (omega arith)

  same-course : (m : ℕ) → decision_on (lent_of n h) m ≡ decision_on h m
  same-course m =
      course-alike h.state m (length (take n h.store)) (length h.store)
      (le-leb 256 (length (take n h.store)) lent-whole ∙ sym (le-leb 256 (length h.store) s))

  part-store : (p : List ℕ) (x : PartDecision) → decision_on (lent_of n h) (length p) ≡ x
      → part_store x h.state.arrived p (take n h.store) ++ drop n h.store ≡ part_store x h.state.arrived p h.store
  part-store p Outside e = take-append-drop n h.store
  part-store p Overrun e = take-append-drop n h.store
  part-store p Ended e = take-append-drop n h.store
  part-store p Open e =
      let f = open-fits h.state (length (take n h.store)) (length p) e in
      placed-lent n h.state.arrived p h.store (omega (arith, f.room, f.store)) (omega (arith, f.room, l))

  end_read_lem : {A : Type 0} (refuse : Refusal → A) (reader : List ℕ → A) (x : PartDecision) → decision_on (lent_of n h) 0 ≡ x
      → end_read refuse reader x (take h.state.arrived (take n h.store))
      ≡ end_read refuse reader x (take h.state.arrived h.store)
  end_read_lem refuse reader Outside e = refl
  end_read_lem refuse reader Overrun e = refl
  end_read_lem refuse reader Ended e = refl
  end_read_lem refuse reader Open e =
      let f = open-fits h.state (length (take n h.store)) 0 e in
      ap reader (take-take h.state.arrived n h.store (omega (arith, f.room, l)))

  end-told : (r : Reader) → told (ending r) (lent_of n h) ≡ told (ending r) h
  end-told (request v strict) =
      rw (same-course 0) (ap join_request (end_read_lem refuse_request (read_request_by v (head_by strict)) (decision_on h 0)
      (same-course 0)))
  end-told (configuration v strict) =
      rw (same-course 0) (ap update (end_read_lem refuse_configuration (read_configuration_by v (head_by strict)) (decision_on h 0)
      (same-course 0)))

  part-told : (p : List ℕ) → told (sending p) (lent_of n h) ≡ told (sending p) h
  part-told p = rw (same-course (length p))

  part_left : (p : List ℕ) → loan_left (loan (sending p) n) h ≡ left (sending p) h
  part_left p =
      let after = (part_answer (decision_on h (length p)) h.state (length p)).state in
      rw (same-course (length p)) (ap (hold after) (part-store p (decision_on h (length p)) (same-course (length p))))

  end-left : (r : Reader) → loan_left (loan (ending r) n) h ≡ left (ending r) h
  end-left r = rw (same-course 0, take-append-drop n h.store)

reset-left : (h : Held) (n : ℕ) → loan_left (loan resetting n) h ≡ left resetting h
reset-left h n = rw (take-append-drop n h.store)

-- ---- a call that is lent too little
lent-less : (h : Held) (n : ℕ) → n < 256 → length (take n h.store) < 256
lent-less h n l = simp length-take (omega arith)

unchanged : (h : Held) (n : ℕ) (c : SerialCall) → left c (lent_of n h) ≡ lent_of n h → loan_left (loan c n) h ≡ h
unchanged h n c e =
    ap (λ (g : Held). hold g.state (g.store ++ drop n h.store)) e ∙ ap (hold h.state) (take-append-drop n h.store)

-- ---- many calls
store_kept : (c : SerialCall) (h : Held) → 256 ≤ length h.store → 256 ≤ length (left c h).store
store_kept resetting h s = s
store_kept (ending r) h s = s
store_kept (sending p) h s = by-course (decision_on h (length p)) refl
  where
    by-course : (x : PartDecision) → decision_on h (length p) ≡ x → 256 ≤ length (part_store x h.state.arrived p h.store)
    by-course Outside e = s
    by-course Overrun e = s
    by-course Ended e = s
    by-course Open e =
        let f = open-fits h.state (length h.store) (length p) e in
        rw (placed-length h.state.arrived p h.store (omega (arith, f.room, s))) s

module _ (l : Loan) (ls : List Loan) (h : Held) where
  serve : suffices l ≡ true → loan_told l h ≡ told l.call h → loan_left l h ≡ left l.call h → AsServed ls (left l.call h)
      → AsServed (l ∷ ls) h
  serve e t f w = record {
    says = rw (e, t, f) (lent-enough e w.says);
    leaves = rw (e, f) w.leaves;
  }

  pass : suffices l ≡ false → verdict_in (loan_told l h) ≡ Err Range → loan_left l h ≡ h → AsServed ls h → AsServed (l ∷ ls) h
  pass e t f w = record {
    says = rw (e, f) (lent-short e t w.says);
    leaves = rw (e, f) w.leaves;
  }

-- the first call and the rest
part-served : (p : List ℕ) (n : ℕ) (ls : List Loan) (h : Held) (y : Bool) → leb 256 n ≡ y → 256 ≤ length h.store
    → AsServed ls (left (sending p) h) → AsServed ls h → AsServed (loan (sending p) n ∷ ls) h
part-served p n ls h true e s after same =
    let l = leb-true 256 n e in
    serve (loan (sending p) n) ls h e (part-told h n l s p) (part_left h n l s p) after
part-served p n ls h false e s after same =
    let less = lent-less h n (leb-false 256 n e) in
    pass (loan (sending p) n) ls h e (part-range (lent_of n h) p less) (unchanged h n (sending p) (part-leaves (lent_of n h) p less)) same

end-served : (r : Reader) (n : ℕ) (ls : List Loan) (h : Held) (y : Bool) → leb 256 n ≡ y → 256 ≤ length h.store
    → AsServed ls (left (ending r) h) → AsServed ls h → AsServed (loan (ending r) n ∷ ls) h
end-served r n ls h true e s after same =
    let l = leb-true 256 n e in
    serve (loan (ending r) n) ls h e (end-told h n l s r) (end-left h n l s r) after
end-served r n ls h false e s after same =
    let less = lent-less h n (leb-false 256 n e) in
    pass (loan (ending r) n) ls h e (end-range (lent_of n h) r less) (unchanged h n (ending r) (end_leaves (lent_of n h) r less)) same

call-served : (c : SerialCall) (n : ℕ) (ls : List Loan) (h : Held) → 256 ≤ length h.store
    → AsServed ls (left c h) → AsServed ls h → AsServed (loan c n ∷ ls) h
call-served resetting n ls h s after same = serve (loan resetting n) ls h refl refl (reset-left h n) after
call-served (sending p) n ls h s after same = part-served p n ls h (leb 256 n) refl s after same
call-served (ending r) n ls h s after same = end-served r n ls h (leb 256 n) refl s after same

as-served : (ls : List Loan) (h : Held) → 256 ≤ length h.store → AsServed ls h
as-served [] h s = record { says = none_lent; leaves = refl }
as-served (l ∷ ls) h s =
    call-served l.call l.lent ls h s (as-served ls (left l.call h) (store_kept l.call h s)) (as-served ls h s)

pub lent-lengths-may-change : LentLengthsMayChange
lent-lengths-may-change h ls s = as-served ls h s
