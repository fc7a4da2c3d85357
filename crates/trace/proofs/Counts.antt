-- Every count of the report is exact: a record adds one where the count's test holds of it and its answer,
-- and the records are too few to fill a count.
use Rattle.std.specs.Prelude.{Ok, Err}
use Prim.Native.Nat.{ℕ, zero, suc, ◌+◌, ◌-◌, ◌^◌, ◌≤◌, ◌<◌}
use mathlib.Core.Path.{◌≡◌, refl, sym, ◌∙◌, ap}
use mathlib.Core.Bool.{Bool, true, false, cond}
use mathlib.Core.List.{List}
use native.Mathlib.Omega.{arith}
use lib.Dec.{eqb}
use lib.ListN.{length, get_or, replicate, length-set}
use lib.Seq.{get_or-set_same, get_or-set_other, ext_get_or}
use borrow.Author.Tests.{lt-ltb, eqb-true, eqb-false, ne_eqb}
use Rattle.refusal.specs.Refusal.{number_of, Numbered}
use Rattle.refusal.specs.Verdict.{Verdict}
use Rattle.trace.specs.Trace.{Record, new_node, start, join_answer, update, verified, poll, kind_of, Trace, over, stop, then, records_in}
use Rattle.trace.specs.Calls.{call_of, Answered, answered, answers_of}
use Rattle.trace.specs.Statistics.{count, of_kind, refusal_number, refused_with, did_switch, each_from}
use Rattle.trace.specs.Step.{more, more_if, raised, refused, afterwards, walked, nothing_yet, play}
use Rattle.trace.specs.declared.state.State.{State}

-- ---- one more
more-is : (n : ℕ) → n + 1 < 2 ^ 64 → more n ≡ n + 1
unfolding more
more-is n h = rw (lt-ltb n (2 ^ 64 - 1) (omega arith))

-- at the place of number k, which is 1 or more, and nothing at another
module _ (l : List ℕ) (k i : ℕ) (a : 1 ≤ k) (j : i < length l) (h : get_or l i 0 + 1 < 2 ^ 64) where
  raised-one : (b : Bool) → eqb k (i + 1) ≡ b → get_or (raised l (k - 1)) i 0 ≡ get_or l i 0 + cond b 1 0
  unfolding raised
  raised-one true e =
      let f : k - 1 ≡ i = omega (arith, eqb-true k (i + 1) e) in
      rw (f, get_or-set_same l i (more (get_or l i 0)) 0 j) (more-is (get_or l i 0) h)
  raised-one false e =
      let f : i ≡ k - 1 → ⊥ = λ g. eqb-false k (i + 1) e (omega arith) in
      let z : get_or l i 0 + 0 ≡ get_or l i 0 = omega arith in
      get_or-set_other l (k - 1) i _ 0 f ∙ sym z

raised-length : (l : List ℕ) (i : ℕ) → length (raised l i) ≡ length l
unfolding raised
raised-length l i = length-set l i (more (get_or l i 0))

refused-length : (v : Verdict) (l : List ℕ) → length (refused v l) ≡ length l
refused-length (Ok tt) l = refl
refused-length (Err k) l = raised-length l (number_of k - 1)

-- a kind is 1 or more
kind-least : (r : Record) → 1 ≤ kind_of r
kind-least (new_node role network) = omega arith
kind-least (start time timeout) = omega arith
kind-least (join_answer time payload) = omega arith
kind-least (update time payload) = omega arith
kind-least (verified type identifier) = omega arith
kind-least (poll time) = omega arith

-- ---- the places stay
pub record Sized (s : State) : Type 0 where
  pub kinds : length s.statistics.kinds ≡ 6
  pub refusals : length s.statistics.refusals ≡ 22

pub sized_walked : (r : Record) (s : State) → Sized s → Sized (walked r s)
unfolding afterwards
sized_walked r s z = record {
  kinds = raised-length s.statistics.kinds (kind_of r - 1) ∙ z.kinds;
  refusals = refused-length (call_of r s.node).verdict s.statistics.refusals ∙ z.refusals;
}

pub sized-none : Sized nothing_yet
sized-none = record { kinds = refl; refusals = refl }

pub sized-play : (n : Trace) (s : State) → Sized s → Sized (play n s).state
unfolding play
sized-play (over at) s z = z
sized-play (stop at) s z = z
sized-play (then at r rest) s z = sized-play rest (walked r s) (sized_walked r s z)

-- ---- a count, seen in the state, and the test of what it counts
abbrev Adds : (State → ℕ) → (Answered → Bool) → Type 0
Adds look is =
    (r : Record) (s : State) → Sized s → look s + 1 < 2 ^ 64 → look (walked r s) ≡ look s + cond (is (answered r (call_of r s.node))) 1 0

one : (b : Bool) → cond b 1 0 ≤ 1
one true = omega arith
one false = omega arith

module _ (look : State → ℕ) (is : Answered → Bool) (adds : Adds look is) where
  counted :
      (n : Trace) (s : State) → Sized s → look s + length (records_in n) < 2 ^ 64 →
      look (play n s).state ≡ look s + count is (answers_of (records_in n) s.node)
  unfolding play afterwards
  counted (over at) s z h = omega arith
  counted (stop at) s z h = omega arith
  counted (then at r rest) s z h =
      let e = adds r s z (omega arith) in
      let o = one (is (answered r (call_of r s.node))) in
      let g = counted rest (walked r s) (sized_walked r s z) (omega arith) in
      omega arith

  pub exactly :
      (n : Trace) → look nothing_yet ≡ 0 → length (records_in n) < 2 ^ 64
      → look (play n nothing_yet).state ≡ count is (answers_of (records_in n) nothing_yet.node)
  exactly n e h = let g = counted n nothing_yet sized-none (omega arith) in omega arith

-- ---- the three counts
pub kinds-add : (i : ℕ) → i < 6 → Adds (λ s. get_or s.statistics.kinds i 0) (of_kind (i + 1))
unfolding afterwards
kinds-add i j r s z h =
    raised-one s.statistics.kinds (kind_of r) i (kind-least r) (omega (arith, z.kinds)) h (eqb (kind_of r) (i + 1)) refl

refused-one :
    (numbers : Numbered) (v : Verdict) (l : List ℕ) (i : ℕ) → i < length l → get_or l i 0 + 1 < 2 ^ 64 →
    get_or (refused v l) i 0 ≡ get_or l i 0 + cond (eqb (refusal_number v) (i + 1)) 1 0
refused-one numbers (Ok tt) l i j h = rw (ne_eqb 0 (i + 1) (λ e. omega arith)) (omega arith)
refused-one numbers (Err k) l i j h = raised-one l (number_of k) i (numbers.least k) j h (eqb (number_of k) (i + 1)) refl

pub refusals-add : Numbered → (i : ℕ) → i < 22 → Adds (λ s. get_or s.statistics.refusals i 0) (refused_with (i + 1))
unfolding afterwards
refusals-add numbers i j r s z h =
    refused-one numbers (call_of r s.node).verdict s.statistics.refusals i (omega (arith, z.refusals)) h

more-one : (b : Bool) (n : ℕ) → n + 1 < 2 ^ 64 → more_if b n ≡ n + cond b 1 0
more-one true n h = more-is n h
more-one false n h = omega arith

pub switches-add : Adds (λ s. s.statistics.switches) did_switch
unfolding afterwards
switches-add r s z h = more-one (call_of r s.node).switched s.statistics.switches h

-- ---- lists of counts
zeros-at : (n i : ℕ) → ◌≡◌ {A = ℕ} (get_or (replicate n 0) i 0) 0
zeros-at zero i = refl
zeros-at (suc n) zero = refl
zeros-at (suc n) (suc i) = zeros-at n i

pub kinds-zero : (i : ℕ) → get_or nothing_yet.statistics.kinds i 0 ≡ 0
kinds-zero i = zeros-at 6 i

pub refusals-zero : (i : ℕ) → get_or nothing_yet.statistics.refusals i 0 ≡ 0
refusals-zero i = zeros-at 22 i

each-length : (n first : ℕ) (f : ℕ → ℕ) → length (each_from n first f) ≡ n
each-length zero first f = refl
each-length (suc n) first f = ap suc (each-length n (suc first) f)

each_at : (n first : ℕ) (f : ℕ → ℕ) (i : ℕ) → i < n → get_or (each_from n first f) i 0 ≡ f (i + first)
each_at zero first f i h = absurd (omega arith)
each_at (suc n) first f zero h = ap f (let e : first ≡ 0 + first = omega arith in e)
each_at (suc n) first f (suc i) h =
    each_at n (suc first) f i (omega arith) ∙ ap f (let e : i + suc first ≡ suc i + first = omega arith in e)

pub each-is : (n : ℕ) (f : ℕ → ℕ) (l : List ℕ) → length l ≡ n → ((i : ℕ) → i < n → get_or l i 0 ≡ f (i + 1)) → l ≡ each_from n 1 f
each-is n f l e h =
    ext_get_or 0 l (each_from n 1 f) (e ∙ sym (each-length n 1 f))
    (λ i j. let k : i < n = omega arith in h i k ∙ sym (each_at n 1 f i k))
