-- The longest wait is exact: a node that does not wait accepts no join answer before an accepted start, and an accepted join answer ends
-- the waiting, so the start that the walk keeps is the one whose wait the join answer ends.
use Rattle.std.specs.Prelude.{Ok, Err}
use Prim.Native.Nat.{ℕ, ◌-◌, ◌≤◌, ◌<◌}
use mathlib.Core.Path.{◌≡◌, refl, sym, ◌∙◌, ap}
use mathlib.Core.Bool.{Bool, true, false, cond}
use mathlib.Core.List.{List, [], ◌∷◌, ◌++◌}
use native.Mathlib.Omega.{arith}
use lib.Dec.{ltb}
use borrow.Author.Tests.{ltb-true, ltb-false, lt-ltb, le-ltb}
use Rattle.refusal.specs.Verdict.{Verdict}
use Rattle.protocol_version.specs.declared.Version.TheVariants.{Draft}
use Rattle.node_attempt.specs.declared.delivery.Delivery.TheVariants as call
use Rattle.node.specs.Timing as timing
use Rattle.node.specs.Delivery as delivery
use Rattle.node.specs.declared.node.Node.{Node}
use Rattle.node_laws.specs.Phases.{waits, PhaseLaws}
use Rattle.trace.specs.Trace.{Record, new_node, start, join_answer, update, verified, poll, Trace, over, stop, then, records_in}
use Rattle.trace.specs.Calls.{room, call_of, Answered, answers_of}
use Rattle.trace.specs.Statistics.{starts_with, joins_with, time_of, wait_from, greater, longest_of}
use Rattle.trace.specs.Statistics as report
use Rattle.trace.specs.Step.{afterwards, walked, nothing_yet, play}
use Rattle.trace.specs.declared.state.State.{State}

-- ---- the greater of two
-- the greatest of three, in either order
greater-three : (w l m : ℕ) → greater (greater w l) m ≡ greater l (greater w m)
greater-three w l m = go (ltb l w) (ltb m w) (ltb m l) refl refl refl
  where
    go :
        (b c d : Bool) → ltb l w ≡ b → ltb m w ≡ c → ltb m l ≡ d →
        greater (cond b w l) m ≡ greater l (cond c w m)
    go true true d e f g = rw (f, le-ltb w l (omega (arith, ltb-true l w e)))
    go true false d e f g = rw (f, le-ltb m l (omega (arith, ltb-true l w e, ltb-false m w f)))
    go false true d e f g =
        let h : m < l = omega (arith, ltb-false l w e, ltb-true m w f) in
        rw (lt-ltb m l h) (same w (ltb w l) refl (omega (arith, ltb-false l w e)))
      where
        same : (w : ℕ) (b : Bool) → ltb w l ≡ b → w ≤ l → l ≡ cond b l w
        same w true e h = refl
        same w false e h = omega (arith, ltb-false w l e)
    go false false d e f g = refl

greater-none : (n : ℕ) → greater n 0 ≡ n
greater-none n = go (ltb 0 n) refl
  where
    go : (b : Bool) → ltb 0 n ≡ b → cond b n 0 ≡ n
    go true e = refl
    go false e = omega (arith, ltb-false 0 n e)

greater-from : (n : ℕ) → greater 0 n ≡ n
greater-from n = go (ltb n 0) refl
  where
    go : (b : Bool) → ltb n 0 ≡ b → cond b 0 n ≡ n
    go true e = absurd (omega (arith, ltb-true n 0 e))
    go false e = refl

-- ---- a record's part in the longest wait, by whether it is an accepted start or an accepted join answer
not-both : (r : Record) (v : Verdict) → starts_with r v ≡ true → joins_with r v ≡ true → ⊥
not-both (new_node role network) v e f = let z : ◌≡◌ {A = ℕ} 0 1 = cc in omega arith
not-both (start time timeout) v e f = let z : ◌≡◌ {A = ℕ} 0 1 = cc in omega arith
not-both (join_answer time payload) v e f = let z : ◌≡◌ {A = ℕ} 0 1 = cc in omega arith
not-both (update time payload) v e f = let z : ◌≡◌ {A = ℕ} 0 1 = cc in omega arith
not-both (verified type identifier) v e f = let z : ◌≡◌ {A = ℕ} 0 1 = cc in omega arith
not-both (poll time) v e f = let z : ◌≡◌ {A = ℕ} 0 1 = cc in omega arith

waited-by :
    (time started longest : ℕ) (rest : List Answered) (starts joins : Bool) (x : ℕ) → (starts ≡ true → joins ≡ true → ⊥) →
    (joins ≡ true → wait_from started rest ≡ []) →
    x ≡ greater (cond joins (greater (time - started) longest) longest)
    (longest_of (wait_from (cond starts time started) rest ++ report.waits rest)) →
    x
    ≡ greater longest
    (longest_of
    (cond starts [] (cond joins ((time - started) ∷ []) (wait_from started rest))
    ++ (cond starts (wait_from time rest) [] ++ report.waits rest)))
waited-by time started longest rest true true x not-two none h = absurd (not-two refl refl)
waited-by time started longest rest true false x not-two none h = h
waited-by time started longest rest false true x not-two none h =
    h
    ∙ ap (λ (w : List ℕ). greater (greater (time - started) longest) (longest_of (w ++ report.waits rest))) (none refl)
    ∙ greater-three (time - started) longest (longest_of (report.waits rest))
waited-by time started longest rest false false x not-two none h = h

-- ---- what the calls do to the waiting
module _ (laws : PhaseLaws) where
  -- an accepted join answer comes to a node that waits, and ends that
  joins-waiting : (r : Record) (n : Node) → joins_with r (call_of r n).verdict ≡ true
      → (waits n ≡ true) × (waits (call_of r n).node ≡ false)
  unfolding call_of
  joins-waiting (new_node role network) n e = absurd (let z : ◌≡◌ {A = ℕ} 0 1 = cc in omega arith)
  joins-waiting (start time timeout) n e = absurd (let z : ◌≡◌ {A = ℕ} 0 1 = cc in omega arith)
  joins-waiting (join_answer time payload) n e =
      let f = accepted (delivery.deliver call.JoinAnswer n time payload).verdict e in
      (laws.answer-waits n time payload f, laws.answer-ends n time payload f)
    where
      accepted : (v : Verdict) → report.is_accepted v ≡ true → v ≡ Ok tt
      accepted (Ok tt) e = refl
      accepted (Err k) e = absurd (let z : ◌≡◌ {A = ℕ} 0 1 = cc in omega arith)
  joins-waiting (update time payload) n e = absurd (let z : ◌≡◌ {A = ℕ} 0 1 = cc in omega arith)
  joins-waiting (verified type identifier) n e = absurd (let z : ◌≡◌ {A = ℕ} 0 1 = cc in omega arith)
  joins-waiting (poll time) n e = absurd (let z : ◌≡◌ {A = ℕ} 0 1 = cc in omega arith)

  -- only an accepted start makes a node wait
  stays-idle : (r : Record) (n : Node) → waits n ≡ false → starts_with r (call_of r n).verdict ≡ false → waits (call_of r n).node ≡ false
  unfolding call_of
  stays-idle (new_node role network) n w e = laws.made-idle Draft role network
  stays-idle (start time timeout) n w e = go (timing.start n time timeout room).verdict refl e
    where
      go : (v : Verdict) → (timing.start n time timeout room).verdict ≡ v → report.is_accepted v ≡ false
          → waits (timing.start n time timeout room).node ≡ false
      go (Ok tt) f e = absurd (let z : ◌≡◌ {A = ℕ} 0 1 = cc in omega arith)
      go (Err k) f e = laws.start-refused n time timeout room k f ∙ w
  stays-idle (join_answer time payload) n w e = laws.deliver-idle call.JoinAnswer n time payload w
  stays-idle (update time payload) n w e = laws.deliver-idle call.Update n time payload w
  stays-idle (verified type identifier) n w e = laws.verified-keeps n type identifier ∙ w
  stays-idle (poll time) n w e = laws.poll-idle n time w

  -- so no start before a node that does not wait has its join answer behind it
  no-wait : (rs : List Record) (n : Node) (from : ℕ) → waits n ≡ false → wait_from from (answers_of rs n) ≡ []
  no-wait [] n from w = refl
  no-wait (r ∷ rs) n from w =
      go (starts_with r (call_of r n).verdict) (joins_with r (call_of r n).verdict) refl refl (no-wait rs (call_of r n).node from)
    where
      go :
          (b c : Bool) → starts_with r (call_of r n).verdict ≡ b → joins_with r (call_of r n).verdict ≡ c →
          (waits (call_of r n).node ≡ false → wait_from from (answers_of rs (call_of r n).node) ≡ []) →
          cond b [] (cond c ((time_of r - from) ∷ []) (wait_from from (answers_of rs (call_of r n).node))) ≡ []
      go true c e f h = refl
      go false true e f h = absurd (let z = (joins-waiting r n f).0 in let y : ◌≡◌ {A = ℕ} 0 1 = cc in omega arith)
      go false false e f h = h (stays-idle r n w e)

  -- ---- the longest wait of what is left to play
  abbrev Waited : Trace → State → Type 0
  Waited n s =
      (play n s).state.statistics.longest
      ≡ greater s.statistics.longest
      (longest_of (wait_from s.started (answers_of (records_in n) s.node) ++ report.waits (answers_of (records_in n) s.node)))

  waited : (n : Trace) (s : State) → Waited n s
  unfolding play afterwards
  waited (over at) s = sym (greater-none s.statistics.longest)
  waited (stop at) s = sym (greater-none s.statistics.longest)
  waited (then at r rest) s =
      let did = call_of r s.node in
      waited-by (time_of r) s.started s.statistics.longest (answers_of (records_in rest) did.node) (starts_with r did.verdict)
      (joins_with r did.verdict) _
      (not-both r did.verdict)
      (λ f. no-wait (records_in rest) did.node s.started (joins-waiting r s.node f).1)
      (waited rest (walked r s))

  pub longest-is : (n : Trace)
      → (play n nothing_yet).state.statistics.longest ≡ longest_of (report.waits (answers_of (records_in n) nothing_yet.node))
  longest-is n =
      let none = no-wait (records_in n) nothing_yet.node 0 refl in
      let h = rw none at (waited n nothing_yet) in
      h ∙ greater-from (longest_of (report.waits (answers_of (records_in n) nothing_yet.node)))
