-- A whole journal is resumed; a prefix of one is a whole one and a few bytes more.
use Rattle.std.specs.Prelude.{Ok}
use Prim.Native.Nat.{ℕ, suc, ◌+◌, ◌-◌, ◌≤◌, ◌<◌}
use mathlib.Core.Path.{◌≡◌, refl, sym, ap, ◌∙◌}
use mathlib.Core.Bool.{Bool, true, false, cond}
use mathlib.Core.Logic.{⊎_elim}
use mathlib.Core.List.{List, [], ◌∷◌, ◌++◌, append_assoc}
use native.Mathlib.Nat.{div-add-mod'}
use native.Mathlib.Omega.{arith}
use borrow.Author.Tests.{leb-true, leb-false, le-leb, le-ltb, lt-ltb}
use lib.Dec.{eqb, leb}
use lib.ListN.{length, take, drop, length-append}
use lib.Seq.{take_at, drop_at, take-append-le, take-append-add, length-take-le, take_all}
use Rattle.lemmas.specs.logic.Tests.{both_true}
use Rattle.lemmas.specs.lists.Same.{same}
use Rattle.lemmas.specs.lists.SameLemmas.{same_refl}
use Rattle.address_ledger.specs.range.Range.{judged}
use Rattle.address_ledger.specs.Ledger.{empty_ledger, opened_by, opened}
use Rattle.address_ledger.specs.declared.ledger.Ledger.{Ledger}
use Rattle.address_ledger_laws.specs.History.{Moment, step, run, after, whole_boards}
use Rattle.address_journal.specs.Format.{header_of, header_check, zero_record, two_at}
use Rattle.address_journal.specs.Resume.{resumed, Restart, restart, begun, resume_header, resume_records, go_on, resume}
use Rattle.address_journal.specs.declared.resume.ResumeStep.TheVariants.{Taken, Cut}
use Rattle.address_journal_laws.specs.Journal.{Change, grants, backs, call_of, calls_of, after_changes, entry, records_from}
use Rattle.address_journal_laws.specs.Journal.{journal_of, check_after, whole_from, whole_in}
use Rattle.address_journal_laws.specs.Laws.{Starts, restarted, PrefixResumes}
use Rattle.address_journal_laws.proofs.Entries.{CallLaws, Quiet, Loud, entries}
use Rattle.address_journal_laws.proofs.Walk.{End, end_short, walks, first-whole}

-- ---- the header
pub header-long : (first size : ℕ) → length (header_of first size) ≡ 16
unfolding header_of
header-long first size = refl

header-not-zeros : (first size : ℕ) → same (header_of first size) zero_record ≡ false
unfolding header_of same
header-not-zeros first size = refl

header-first : (first size : ℕ) → two_at (header_of first size) 6 ≡ first
unfolding header_of
header-first first size = div-add-mod' first 256

header-size : (first size : ℕ) → two_at (header_of first size) 8 ≡ size
unfolding header_of
header-size first size = div-add-mod' size 256

header-opens : (first size : ℕ) (m : List ℕ) → Ok tt ≡ judged first size (length m)
    → resume_header m (header_of first size) ≡ resumed (Ok Taken) (opened first size m).ledger (header_check first size) m
unfolding resume_header opened opened_by begun
header-opens first size m a =
    rw (
      le-ltb (length (header_of first size)) 16 (omega (arith, header-long first size)),
      header-not-zeros first size,
      header-first first size,
      header-size first size,
      same_refl (header_of first size),
      ← a,
    )

-- ---- a whole journal and an end
opens-then : (m bytes : List ℕ) (l : Ledger) (c : ℕ) → resume_header m (take 16 bytes) ≡ resumed (Ok Taken) l c m
    → resume m bytes ≡ resume_records (suc (length bytes)) (resumed (Ok Taken) l c m) 16 (drop 16 bytes)
unfolding resume go_on
opens-then m bytes l c e = rw e

module _ (m h r t : List ℕ) (l : Ledger) (c : ℕ) (e : length h ≡ 16) (g : resume_header m h ≡ resumed (Ok Taken) l c m) where
  all-bytes : (z : Restart) → resume_records (suc (length ((h ++ r) ++ t))) (resumed (Ok Taken) l c m) 16 (r ++ t) ≡ z
      → resume m ((h ++ r) ++ t) ≡ z
  all-bytes z w =
      opens-then m ((h ++ r) ++ t) l c (rw (append_assoc h r t, take_at h (r ++ t) 16 e) g)
      ∙ (let d : drop 16 ((h ++ r) ++ t) ≡ r ++ t = rw (append_assoc h r t) (drop_at h (r ++ t) 16 e) in
      ap (λ (x : List ℕ). resume_records (suc (length ((h ++ r) ++ t))) (resumed (Ok Taken) l c m) 16 x) d)
      ∙ w

pub whole-resumes : CallLaws → (first size : ℕ) (m : List ℕ) (cs : List Change) → Starts first size m cs → (t : List ℕ) → End t
    → resume m (journal_of first size m cs ++ t) ≡ restarted first size m cs
unfolding after calls_of run
whole-resumes laws first size m cs w t e =
    let s = after first size m [] in
    let c = header_check first size in
    let r = records_from first size (after first size m []) (header_check first size) cs in
    let n : 16 + length r ≡ length (header_of first size ++ r) = omega (
      arith,
      length-append
          (header_of first size) r,
      header-long first size,
    ) in
    all-bytes m (header_of first size) r t (opened first size m).ledger c (header-long first size) (header-opens first size m
    w.accepted) _
    (walks laws first size t e cs s c w.boards (suc (length ((header_of first size ++ r) ++ t))) 16 (Ok Taken)
    (omega (arith, length-append (header_of first size ++ r) t, length-append (header_of first size) r, length-append r t))
    ∙ ap (λ (j : ℕ). restart (resumed (Ok Cut) (after_changes first size m cs).ledger (check_after first size m cs)
    (after_changes first size m cs).memory) j) n)

-- ---- a part of the records
pub few_bytes : CallLaws → (first size : ℕ) (s : Moment) (c : ℕ) (k : Change) → whole_boards (calls_of (k ∷ [])) ≡ true
    → length (entry s c k).bytes ≤ 16
few_bytes laws first size s c k w =
    ⊎_elim (λ (y : Quiet first size s c k). let e = ap length y.bytes in omega (arith, e)) (λ (y : Loud first size s c k). omega
    (arith, y.long))
    (entries laws first size s c k w)

abbrev Split : ℕ → ℕ → Moment → ℕ → ℕ → List Change → Type 0
Split first size s c n cs =
    (t : List ℕ) × ((take n (records_from first size s c cs) ≡ records_from first size s c (whole_from first size s c n cs) ++ t) ×
    (length t < 16))

module _ (first size : ℕ) (s : Moment) (c : ℕ) (n : ℕ) (k : Change) (cs : List Change) (few : length (entry s c k).bytes ≤ 16) where
  split-whole : leb (length (entry s c k).bytes) n ≡ true
      → Split first size (step first size s (call_of k)) (entry s c k).check (n - length (entry s c k).bytes) cs
      → Split first size s c n (k ∷ cs)
  unfolding records_from whole_from
  split-whole e (t, (p, q)) =
      let b = (entry s c k).bytes in
      let r = records_from first size (step first size s (call_of k)) (entry s c k).check cs in
      let r' = records_from first size (step first size s (call_of k)) (entry s c k).check (whole_from first size (step first size s
      (call_of k)) (entry s c k).check (n - length b) cs) in
      let h = leb-true (length b) n e in
      let d : n ≡ length (entry s c k).bytes + (n - length (entry s c k).bytes) = omega (arith, h) in
      let g : take n (b ++ r) ≡ (b ++ r') ++ t =
      ap (λ (j : ℕ). take j (b ++ r)) d ∙ take-append-add b r (n - length b) ∙ ap (λ (x : List ℕ). b ++ x) p
      ∙ sym (append_assoc b r' t) in
      (t, (rw e g, q))

  split-cut : leb (length (entry s c k).bytes) n ≡ false → Split first size s c n (k ∷ cs)
  unfolding records_from whole_from
  split-cut e =
      let b = (entry s c k).bytes in
      let r = records_from first size (step first size s (call_of k)) (entry s c k).check cs in
      let h = leb-false (length b) n e in
      (take n b, (rw e (take-append-le n b r (omega (arith, h))), omega (arith, length-take-le n b (omega (arith, h)), h)))

  split_by : (v : Bool) → leb (length (entry s c k).bytes) n ≡ v
      → Split first size (step first size s (call_of k)) (entry s c k).check (n - length (entry s c k).bytes) cs
      → Split first size s c n (k ∷ cs)
  split_by true e ih = split-whole e ih
  split_by false e ih = split-cut e

pub split : CallLaws → (first size : ℕ) (cs : List Change) (s : Moment) (c n : ℕ) → whole_boards (calls_of cs) ≡ true
    → Split first size s c n cs
unfolding records_from whole_from
split laws first size [] s c n w = ([], (take_all n [] (omega arith), omega arith))
split laws first size (k ∷ cs) s c n w =
    let u = first-whole k cs w in
    split_by first size s c n k cs (few_bytes laws first size s c k u.0) _ refl
    (split laws first size cs (step first size s (call_of k)) (entry s c k).check (n - length (entry s c k).bytes) u.1)

-- ---- the calls that last have whole boards too
more-whole : (k : Change) (cs ds : List Change) → whole_boards (calls_of (k ∷ cs)) ≡ true → whole_boards (calls_of ds) ≡ true
    → whole_boards (calls_of (k ∷ ds)) ≡ true
unfolding calls_of whole_boards
more-whole (grants b) cs ds w v = let u = both_true (eqb (length b) 8) (whole_boards (calls_of cs)) w in rw (u.0, v)
more-whole (backs b) cs ds w v = let u = both_true (eqb (length b) 8) (whole_boards (calls_of cs)) w in rw (u.0, v)

either-whole : (v : Bool) (xs : List Change) → whole_boards (calls_of xs) ≡ true → whole_boards (calls_of (cond v xs [])) ≡ true
unfolding calls_of whole_boards
either-whole true xs w = w
either-whole false xs w = refl

lasting-whole : (first size : ℕ) (cs : List Change) (s : Moment) (c n : ℕ) → whole_boards (calls_of cs) ≡ true
    → whole_boards (calls_of (whole_from first size s c n cs)) ≡ true
unfolding whole_from
lasting-whole first size [] s c n w = w
lasting-whole first size (k ∷ cs) s c n w =
    either-whole (leb (length (entry s c k).bytes) n) _
    (more-whole k cs _ w
    (lasting-whole first size cs (step first size s (call_of k)) (entry s c k).check (n - length (entry s c k).bytes)
    (first-whole k cs w).1))

module _ (laws : CallLaws) (first size : ℕ) (m : List ℕ) (cs : List Change) (w : Starts first size m cs) (n : ℕ) where
  lasting-begins : Starts first size m (whole_in first size m n cs)
  lasting-begins =
      record {
        accepted = w.accepted;
        fresh = w.fresh;
        boards = lasting-whole first size cs (after first size m [])
            (header_check first size) n w.boards;
      }

  part : (t : List ℕ) × ((take (16 + n) (journal_of first size m cs) ≡ journal_of first size m (whole_in first size m n cs) ++ t) ×
      (length t < 16))
  part =
      let x = split laws first size cs (after first size m []) (header_check first size) n w.boards in
      let h = header_of first size in
      let r = records_from first size (after first size m []) (header_check first size) cs in
      let r' = records_from first size (after first size m []) (header_check first size) (whole_in first size m n cs) in
      let d : 16 + n ≡ length (header_of first size) + n = omega (arith, header-long first size) in (
        x.0,
        (
          ap (λ (j : ℕ). take j (h ++ r)) d ∙ take-append-add h r n ∙ ap (λ (y : List ℕ). h ++ y) x.1.0
              ∙ sym (append_assoc h r' x.0),
          x.1.1,
        ),
      )

  part-resumes : resume m (take (16 + n) (journal_of first size m cs)) ≡ restarted first size m (whole_in first size m n cs)
  part-resumes =
      let x = part in
      ap (λ (b : List ℕ). resume m b) x.1.0
      ∙ whole-resumes laws first size m (whole_in first size m n cs) lasting-begins x.0 (end_short x.0 x.1.1)

cut-header : (m bytes : List ℕ) → length bytes < 16 → resume_header m (take 16 bytes) ≡ resumed (Ok Cut) empty_ledger 0 m
    → resume m bytes ≡ restart (resumed (Ok Cut) empty_ledger 0 m) 0
unfolding resume go_on
cut-header m bytes h e = rw (e, le-leb (length bytes) 16 (omega arith))

pub prefixes : CallLaws → PrefixResumes
unfolding resume_header
prefixes laws =
    record {
      resumes = λ first size m cs w n. part-resumes laws first size m cs w n;
      whole = λ first size m cs w n. part laws first size m cs w n;
      unopened = λ first size m cs n h.
          let b = take n (journal_of first size m cs) in
          let l : length (take n (journal_of first size m cs)) < 16 =
          omega (
            arith,
            length-take-le n (journal_of first size m cs)
                (omega (
                  arith,
                  h,
                  header-long first size,
                  length-append (header_of first size) (records_from first size
                      (after first size m []) (header_check first size) cs),
                )),
          ) in
          cut-header m b l (rw (take_all 16 (take n (journal_of first size m cs)) (omega arith), lt-ltb (length b) 16 l));
    }
