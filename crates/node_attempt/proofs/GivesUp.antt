-- Each step that is taken when due falls one timeout after the last and doubles it,
-- so the fifth comes t + 2t + 4t + 8t + 16t after the start.
use Rattle.std.specs.Prelude.{Ok}
use Prim.Native.Nat.{ℕ, ◌+◌, ◌-◌, ◌*◌, ◌<◌}
use native.Mathlib.Omega.{arith}
use mathlib.Core.Path.{◌≡◌, refl, ◌∙◌}
use mathlib.Core.Bool.{true}
use borrow.Author.Tests.{le-leb, lt-ltb, le-ltb, leb-true}
use lib.Dec.{leb}
use Rattle.lemmas.specs.logic.Tests.{both_left, both_right}
use Rattle.node_attempt.specs.Attempt.{attempt, valid, waiting_from}
use Rattle.node_attempt.specs.Poll.{step, stepped, poll, due_at, after_due, AttemptGivesUp}
use Rattle.node_attempt.specs.declared.attempt.Attempt.{Attempt}
use Rattle.node_attempt.specs.declared.attempt.Phase.TheVariants as phase
use Rattle.node_attempt.specs.declared.poll.Due.TheVariants.{SendAgain, GaveUp}
use Rattle.node_attempt.proofs.Attempts.{waiting-valid, poll-valid}

-- a valid attempt, its request sent at the time s, with so long to wait, after so many retransmissions
record Waits (a : Attempt) (s t count : ℕ) : Type 0 where
  is-valid : valid a ≡ true
  waiting : a.phase ≡ phase.Waiting
  clock : a.clock ≡ s
  sent : a.sent ≡ s
  timeout : a.timeout ≡ t
  counted : a.count ≡ count

module _ (a : Attempt) (s t count : ℕ) (h : Waits a s t count) where
  on-time : leb a.clock (due_at a) ≡ true
  on-time = le-leb a.clock (due_at a) (omega (arith, h.clock, h.sent))

  reached : leb a.timeout (due_at a - a.sent) ≡ true
  reached = le-leb a.timeout (due_at a - a.sent) (omega arith)

  -- what is due is done
  poll-due : poll a (due_at a) ≡ stepped a (due_at a)
  unfolding poll
  poll-due = rw (h.is-valid, on-time, h.waiting, reached)

  again-is : count < 4 → stepped a (due_at a) ≡ step (Ok SendAgain) (attempt a.phase (due_at a) (due_at a) (2 * a.timeout) (a.count + 1))
  unfolding stepped
  again-is c = rw (lt-ltb a.count 4 (omega (arith, h.counted)))

  over-is : count ≡ 4 → stepped a (due_at a) ≡ step (Ok GaveUp) (attempt phase.GaveUp (due_at a) a.sent a.timeout a.count)
  unfolding stepped
  over-is c = rw (le-ltb a.count 4 (omega (arith, h.counted)))

  due-again : count < 4 → ((poll a (due_at a)).due ≡ Ok SendAgain) × Waits (poll a (due_at a)).attempt (s + t) (t + t) (count + 1)
  due-again c =
      let e = poll-due ∙ again-is c in
      let at : due_at a ≡ s + t = omega (arith, h.sent, h.timeout) in (
        rw e,
        record {
          is-valid = poll-valid a (due_at a) h.is-valid;
          waiting = rw e h.waiting;
          clock = rw e at;
          sent = rw e at;
          timeout = rw e (omega (arith, h.timeout));
          counted = rw e (omega (arith, h.counted));
        },
      )

  due-over :
      count ≡ 4
      → ((poll a (due_at a)).due ≡ Ok GaveUp) × ((poll a (due_at a)).attempt.phase ≡ phase.GaveUp)
      × ((poll a (due_at a)).attempt.clock ≡ s + t)
  due-over c =
      let e = poll-due ∙ over-is c in
      (rw e, rw e, rw e (omega (arith, h.sent, h.timeout)))

abbrev next : Attempt → Attempt
next a = (poll a (due_at a)).attempt

pub attempt-gives-up : AttemptGivesUp
attempt-gives-up time t f =
    let a = waiting_from time t in
    let s0 : Waits a time t 0 = record {
      is-valid = waiting-valid time t f;
      waiting = refl;
      clock = refl;
      sent = refl;
      timeout = refl;
      counted = refl;
    } in
    let s1 = due-again a time t 0 s0 (omega arith) in
    let s2 = due-again (next a) _ _ _ s1.1 (omega arith) in
    let s3 = due-again (next (next a)) _ _ _ s2.1 (omega arith) in
    let s4 = due-again (next (next (next a))) _ _ _ s3.1 (omega arith) in
    let s5 = due-over (next (next (next (next a)))) _ _ _ s4.1 refl in
    let at : (after_due 5 a).clock ≡ time + 31 * t = s5.2 ∙ (omega arith) in
    let least = leb-true 10000 t (both_left (leb 10000 t) (leb t 15000) f) in
    let most = leb-true t 15000 (both_right (leb 10000 t) (leb t 15000) f) in
    record {
      answers = rw (s1.0, s2.0, s3.0, s4.0, s5.0);
      end = s5.1;
      at = at;
      earliest = rw at (omega (arith, least));
      latest = rw at (omega (arith, most));
    }
