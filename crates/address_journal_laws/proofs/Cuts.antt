-- After each event the program and its file are as the calls that last leave them.
use Prim.Native.Nat.{ℕ, ◌≤◌, ◌<◌}
use mathlib.Core.Path.{◌≡◌, refl, sym, ap, ◌∙◌}
use mathlib.Core.Bool.{Bool, true, false, cond}
use mathlib.Core.List.{List, [], ◌∷◌, ◌++◌, append_assoc}
use native.Mathlib.Omega.{arith}
use borrow.Author.Tests.{leb-true, leb-false}
use lib.Dec.{eqb, leb}
use lib.ListN.{length, take, length-take}
use lib.Seq.{take_all, take-append_seam}
use Rattle.lemmas.specs.logic.Tests.{both_true}
use Rattle.address_ledger_laws.specs.History.{Moment, step, run, after, whole_boards}
use Rattle.address_ledger_laws.specs.Laws.{OneHolder, SameAgain}
use Rattle.address_journal.specs.Format.{header_of, header_check, zero_record}
use Rattle.address_journal.specs.Entry.{Entry}
use Rattle.address_journal.specs.Resume.{Restart, resume}
use Rattle.address_journal_laws.specs.Journal.{Change, grants, backs, call_of, calls_of, after_changes, entry, records_from, check_from}
use Rattle.address_journal_laws.specs.Journal.{journal_of, check_after, Event, answers, cuts, zeros, Program, moment_of, starts_again}
use Rattle.address_journal_laws.specs.Journal.{after_event, after_events, new_program, program_after, lasting, changes}
use Rattle.address_journal_laws.specs.Laws.{Starts, restarted, IsAfter, PowerCuts}
use Rattle.address_journal_laws.proofs.Entries.{CallLaws}
use Rattle.address_journal_laws.proofs.Walk.{End, end_short, end-zeros, first-whole}
use Rattle.address_journal_laws.proofs.Prefixes.{whole-resumes, few_bytes}

-- ---- one call more
append-nil : (xs : List ℕ) → xs ++ [] ≡ xs
append-nil [] = refl
append-nil (x ∷ xs) = ap (λ (l : List ℕ). x ∷ l) (append-nil xs)

append-none : (xs : List Change) → xs ++ [] ≡ xs
append-none [] = refl
append-none (x ∷ xs) = ap (λ (l : List Change). x ∷ l) (append-none xs)

run-snoc : (first size : ℕ) (s : Moment) (cs : List Change) (k : Change) → run first size s (calls_of (cs ++ (k ∷ [])))
    ≡ step first size (run first size s (calls_of cs)) (call_of k)
unfolding calls_of run
run-snoc first size s [] k = refl
run-snoc first size s (c ∷ cs) k = run-snoc first size (step first size s (call_of c)) cs k

records-snoc : (first size : ℕ) (cs : List Change) (s : Moment) (c : ℕ) (k : Change)
    → records_from first size s c (cs ++ (k ∷ [])) ≡ records_from first size s c cs ++ (entry (run first size s (calls_of cs))
    (check_from first size s c cs) k).bytes
unfolding records_from check_from calls_of run
records-snoc first size [] s c k = append-nil (entry s c k).bytes
records-snoc first size (q ∷ cs) s c k =
    ap (λ (l : List ℕ). (entry s c q).bytes ++ l) (records-snoc first size cs (step first size s (call_of q)) (entry s c q).check k)
    ∙ sym (append_assoc (entry s c q).bytes (records_from first size (step first size s (call_of q)) (entry s c q).check cs) _)

check-snoc : (first size : ℕ) (cs : List Change) (s : Moment) (c : ℕ) (k : Change)
    → check_from first size s c (cs ++ (k ∷ [])) ≡ (entry (run first size s (calls_of cs)) (check_from first size s c cs) k).check
unfolding check_from calls_of run
check-snoc first size [] s c k = refl
check-snoc first size (q ∷ cs) s c k = check-snoc first size cs (step first size s (call_of q)) (entry s c q).check k

-- ---- only the ledger and the memory matter
entry-alike : (s t : Moment) → s.ledger ≡ t.ledger → s.memory ≡ t.memory → (c d : ℕ) → c ≡ d → (k : Change) → entry s c k
    ≡ entry t d k
unfolding entry
entry-alike s t p q c d e (grants b) = rw (p, q, e)
entry-alike s t p q c d e (backs b) = rw (p, q, e)

ledger-alike : (first size : ℕ) (s t : Moment) → s.ledger ≡ t.ledger → s.memory ≡ t.memory → (k : Change)
    → (step first size s (call_of k)).ledger ≡ (step first size t (call_of k)).ledger
unfolding step
ledger-alike first size s t p q (grants b) = rw (p, q)
ledger-alike first size s t p q (backs b) = rw (p, q)

memory-alike : (first size : ℕ) (s t : Moment) → s.ledger ≡ t.ledger → s.memory ≡ t.memory → (k : Change)
    → (step first size s (call_of k)).memory ≡ (step first size t (call_of k)).memory
unfolding step
memory-alike first size s t p q (grants b) = rw (p, q)
memory-alike first size s t p q (backs b) = rw (p, q)

whole_append : (cs ds : List Change) → whole_boards (calls_of cs) ≡ true → whole_boards (calls_of ds) ≡ true
    → whole_boards (calls_of (cs ++ ds)) ≡ true
unfolding calls_of whole_boards
whole_append [] ds w v = v
whole_append (grants b ∷ cs) ds w v =
    let u = both_true (eqb (length b) 8) (whole_boards (calls_of cs)) w in
    rw (u.0, whole_append cs ds u.1 v)
whole_append (backs b ∷ cs) ds w v =
    let u = both_true (eqb (length b) 8) (whole_boards (calls_of cs)) w in
    rw (u.0, whole_append cs ds u.1 v)

short-take : (n : ℕ) (l : List ℕ) → n < 16 → length (take n l) < 16
short-take n l h = simp length-take (omega arith)

module _ (laws : CallLaws) (first size : ℕ) (m : List ℕ) (cs : List Change) (w : Starts first size m cs) where
  -- ---- the program starts again
  restarts : (t file : List ℕ) → End t → file ≡ journal_of first size m cs ++ t → IsAfter first size m cs (starts_again m file)
  restarts t file e q =
      let g : resume m file ≡ restarted first size m cs = ap (λ (b : List ℕ). resume m b) q ∙ whole-resumes laws first size m cs w t e in
      record {
        ledger = ap (λ (r : Restart). r.end.ledger) g;
        memory = ap (λ (r : Restart). r.end.memory) g;
        check = ap (λ (r : Restart). r.end.check) g;
        file =
            ap (λ (r : Restart). take r.whole file) g
            ∙ ap (λ (b : List ℕ). take (length (journal_of first size m cs)) b) q
            ∙ take-append_seam (journal_of first size m cs) t;
      }

  module _ (d : Program) (s : IsAfter first size m cs d) (k : Change) where
    same-entry : entry (moment_of d) d.check k ≡ entry (after_changes first size m cs) (check_after first size m cs) k
    same-entry = entry-alike (moment_of d) (after_changes first size m cs) s.ledger s.memory d.check (check_after first size m cs)
        s.check k

    longer : journal_of first size m cs ++ (entry (after_changes first size m cs) (check_after first size m cs) k).bytes
        ≡ journal_of first size m (cs ++ (k ∷ []))
    unfolding after calls_of run
    longer =
        append_assoc (header_of first size) (records_from first size (after first size m []) (header_check first size) cs) _
        ∙ ap (λ (l : List ℕ). header_of first size ++ l) (sym (records-snoc first size cs (after first size m [])
        (header_check first size) k))

    file-longer : d.file ++ (entry (moment_of d) d.check k).bytes ≡ journal_of first size m (cs ++ (k ∷ []))
    file-longer =
        ap (λ (e : Entry). d.file ++ e.bytes) same-entry
        ∙ ap (λ (f : List ℕ). f ++ (entry (after_changes first size m cs) (check_after first size m cs) k).bytes) s.file
        ∙ longer

    answered : IsAfter first size m (cs ++ (k ∷ [])) (after_event first size m d (answers k))
    unfolding after_event after calls_of run
    answered =
        let g = run-snoc first size (after first size m []) cs k in
        record {
          ledger =
              ledger-alike first size (moment_of d) (after_changes first size m cs) s.ledger s.memory k
              ∙ ap (λ (x : Moment). x.ledger) (sym g);
          memory =
              memory-alike first size (moment_of d) (after_changes first size m cs) s.ledger s.memory k
              ∙ ap (λ (x : Moment). x.memory) (sym g);
          check = ap (λ (e : Entry). e.check) same-entry ∙ sym (check-snoc first size cs (after first size m [])
              (header_check first size) k);
          file = file-longer;
        }

    module _ (u : whole_boards (calls_of (k ∷ [])) ≡ true) (n : ℕ) where
      few : length (entry (moment_of d) d.check k).bytes ≤ 16
      few =
          let f = few_bytes laws first size (after_changes first size m cs) (check_after first size m cs) k u in
          omega (arith, f, ap (λ (e : Entry). length e.bytes) same-entry)

      lost : n < 16 → IsAfter first size m cs (after_event first size m d (cuts k n))
      unfolding after_event
      lost h =
          let t = take n (entry (moment_of d) d.check k).bytes in
          restarts t (d.file ++ t) (end_short t (short-take n (entry (moment_of d) d.check k).bytes h))
          (ap (λ (f : List ℕ). f ++ t) s.file)

    zeroed : IsAfter first size m cs (after_event first size m d (zeros k))
    unfolding after_event
    zeroed = restarts zero_record (d.file ++ zero_record) end-zeros (ap (λ (f : List ℕ). f ++ zero_record) s.file)

-- a call whose record is whole in the file was made, though it was not answered
kept : CallLaws → (first size : ℕ) (m : List ℕ) (cs : List Change) (w : Starts first size m cs) (d : Program)
    (s : IsAfter first size m cs d) (k : Change)
    (u : whole_boards (calls_of (k ∷ [])) ≡ true) (n : ℕ) → 16 ≤ n → Starts first size m (cs ++ (k ∷ []))
    → IsAfter first size m (cs ++ (k ∷ [])) (after_event first size m d (cuts k n))
unfolding after_event
kept laws first size m cs w d s k u n h v =
    let b = (entry (moment_of d) d.check k).bytes in
    restarts laws first size m (cs ++ (k ∷ [])) v [] (d.file ++ take n b) (end_short [] (omega arith))
    (ap (λ (l : List ℕ). d.file ++ l) (take_all n b (omega (arith, h, few laws first size m cs w d s k u n)))
    ∙ file-longer laws first size m cs w d s k ∙ sym (append-nil (journal_of first size m (cs ++ (k ∷ [])))))

-- ---- all events
module _ (laws : CallLaws) (first size : ℕ) (m : List ℕ) (w : Starts first size m []) where
  begins : (cs : List Change) → whole_boards (calls_of cs) ≡ true → Starts first size m cs
  begins cs v = record { accepted = w.accepted; fresh = w.fresh; boards = v }

  snoc : (cs : List Change) (k : Change) → whole_boards (calls_of cs) ≡ true → whole_boards (calls_of (k ∷ [])) ≡ true
      → whole_boards (calls_of (cs ++ (k ∷ []))) ≡ true
  snoc cs k v u = whole_append cs (k ∷ []) v u

  abbrev Further : List Event → Type 0
  Further es =
      (cs : List Change) (d : Program) → IsAfter first size m cs d → whole_boards (calls_of cs) ≡ true
      → IsAfter first size m (cs ++ lasting es) (after_events first size m d es)

  one_more : (es : List Event) (cs : List Change) (k : Change) (d : Program) → IsAfter first size m ((cs ++ (k ∷ [])) ++ lasting es) d
      → IsAfter first size m (cs ++ (k ∷ lasting es)) d
  one_more es cs k d s = rw (← append_assoc cs (k ∷ []) (lasting es)) s

  cut_by : (es : List Event) → Further es → (cs : List Change) (d : Program) → IsAfter first size m cs d → whole_boards (calls_of cs) ≡ true
      → (k : Change) → whole_boards (calls_of (k ∷ [])) ≡ true → (n : ℕ) (v : Bool) → leb 16 n ≡ v
      → IsAfter first size m (cs ++ cond v (k ∷ lasting es) (lasting es)) (after_events first size m (after_event first size m d
      (cuts k n)) es)
  cut_by es ih cs d s a k u n true e =
      one_more es cs k _
      (ih (cs ++ (k ∷ [])) _ (kept laws first size m cs (begins cs a) d s k u n (leb-true 16 n e) (begins (cs ++ (k ∷ []))
      (snoc cs k a u))) (snoc cs k a u))
  cut_by es ih cs d s a k u n false e = ih cs _ (lost laws first size m cs (begins cs a) d s k u n (leb-false 16 n e)) a

  further : (es : List Event) → whole_boards (calls_of (changes es)) ≡ true → Further es
  unfolding lasting changes calls_of after_events
  further [] v cs d s a = rw (append-none cs) s
  further (answers k ∷ es) v cs d s a =
      let u = first-whole k (changes es) v in
      one_more es cs k _
      (further es u.1 (cs ++ (k ∷ [])) _ (answered laws first size m cs (begins cs a) d s k) (snoc cs k a u.0))
  further (cuts k n ∷ es) v cs d s a =
      let u = first-whole k (changes es) v in
      cut_by es (further es u.1) cs d s a k u.0 n _ refl
  further (zeros k ∷ es) v cs d s a =
      let u = first-whole k (changes es) v in
      further es u.1 cs _ (zeroed laws first size m cs (begins cs a) d s k) a

  new : IsAfter first size m [] (new_program first size m)
  unfolding after calls_of run records_from check_from
  new = record { ledger = refl; memory = refl; check = refl; file = sym (append-nil (header_of first size)) }

either-counts : (v : Bool) (k : Change) (es : List Event) → whole_boards (calls_of (k ∷ [])) ≡ true → whole_boards (calls_of (lasting es))
    ≡ true
    → whole_boards (calls_of (cond v (k ∷ lasting es) (lasting es))) ≡ true
either-counts true k es u w = whole_append (k ∷ []) (lasting es) u w
either-counts false k es u w = w

lasting-whole : (es : List Event) → whole_boards (calls_of (changes es)) ≡ true → whole_boards (calls_of (lasting es)) ≡ true
unfolding lasting changes
lasting-whole [] w = w
lasting-whole (answers k ∷ es) w = let u = first-whole k (changes es) w in whole_append (k ∷ []) (lasting es) u.0 (lasting-whole es
    u.1)
lasting-whole (cuts k n ∷ es) w = let u = first-whole k (changes es) w in either-counts (leb 16 n) k es u.0 (lasting-whole es u.1)
lasting-whole (zeros k ∷ es) w = lasting-whole es (first-whole k (changes es) w).1

module _ (first size : ℕ) (m : List ℕ) (es : List Event) (w : Starts first size m (changes es)) where
  fresh : Starts first size m []
  unfolding calls_of whole_boards
  fresh = record { accepted = w.accepted; fresh = w.fresh; boards = refl }

  pub lasting-begins : Starts first size m (lasting es)
  lasting-begins = record { accepted = w.accepted; fresh = w.fresh; boards = lasting-whole es w.boards }

  is-after : CallLaws → IsAfter first size m (lasting es) (program_after first size m es)
  unfolding calls_of whole_boards
  is-after laws = further laws first size m fresh es w.boards [] (new_program first size m) (new laws first size m fresh) refl

pub power-cuts : CallLaws → OneHolder → SameAgain → PowerCuts
unfolding SameAgain
power-cuts laws holder same =
    record {
      is-after = λ first size m es w. is-after first size m es w laws;
      one = λ first size m es w. holder.one first size m (calls_of (lasting es)) (lasting-begins first size m es w);
      again = λ first size m es w b l.
          let s = is-after first size m es w laws in
          rw (s.ledger, s.memory) (same first size m (calls_of (lasting es)) (lasting-begins first size m es w) b l);
    }
