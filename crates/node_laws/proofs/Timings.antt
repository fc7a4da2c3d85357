-- Starts and polls leave keys and role, and a valid node valid.
use Rattle.std.specs.Prelude.{Result, Ok, Err}
use Rattle.refusal.specs.declared.Refusal.{Refusal}
use Prim.Native.Nat.{ℕ}
use mathlib.Core.Path.{◌≡◌, refl}
use mathlib.Core.Bool.{Bool, true, false, cond}
use mathlib.Core.List.{List}
use borrow.Author.Tests.{leb-true}
use Rattle.refusal.specs.RefusalLemmas.{refused-not}
use Rattle.refusal.specs.declared.Refusal.TheVariants as refusal
use Rattle.refusal.specs.Verdict.{Verdict}
use Rattle.byte_io.specs.Write.{Plan, answer}
use Rattle.cojp.specs.Writing.{request_plan}
use Rattle.node_attempt.specs.Attempt.{may_start, waiting_from}
use Rattle.node_attempt.specs.Poll as attempt
use Rattle.node_attempt.specs.declared.poll.AttemptResult.{AttemptResult}
use Rattle.node_attempt.proofs.Attempts.{waiting-valid, may-start, poll-valid, poll-later}
use Rattle.node.specs.Node.{attempting}
use Rattle.node.specs.Range.{valid, Valid}
use Rattle.node.specs.Timing.{request_of, start_verdict, plan_by, start_plan, started_from, started_by, start, polled, polled_by, poll}
use Rattle.node_laws.specs.Laws.{KeysStay}
use Rattle.node.specs.declared.node.Node.{Node}
use Rattle.node_laws.proofs.Valid.{attempt-valid}
use Rattle.node_laws.proofs.KeysStay.{stay-self, stay-attempt}

-- ---- starting
module _ (n : Node) (time timeout : ℕ) where
  -- it may start: the node is valid, and its attempt may
  pub start-passed : start_verdict n time timeout ≡ Ok tt → Valid n × (may_start n.attempt time timeout ≡ Ok tt)
  unfolding start_verdict
  start-passed e = go (valid n) refl e
    where
      go :
          (b : Bool) → valid n ≡ b → cond b (may_start n.attempt time timeout) (Err refusal.Range) ≡ Ok tt →
          Valid n × (may_start n.attempt time timeout ≡ Ok tt)
      go true v a = (v, a)
      go false v a = refused-not refusal.Range a

  waiting_stays : start_verdict n time timeout ≡ Ok tt → KeysStay n (started_from n time timeout)
  waiting_stays e =
      let m = may-start n.attempt time timeout (start-passed e).1 in
      stay-attempt n (waiting_from time timeout) (λ v. waiting-valid time timeout m.2) (leb-true _ _ m.0)

  start-cases :
      (d : List ℕ) (v : Verdict) (p : Plan) → (v ≡ Ok tt → KeysStay n (started_from n time timeout)) →
      KeysStay n (started_by (answer (plan_by v p) d) n (started_from n time timeout)).node
  start-cases d (Err k) p f = stay-self n
  start-cases d (Ok tt) p f = go (answer p d)
    where
      go : (w : Result ℕ Refusal) → KeysStay n (started_by w n (started_from n time timeout)).node
      go (Err k) = stay-self n
      go (Ok l) = f refl

  pub start-stays : (d : List ℕ) → KeysStay n (start n time timeout d).node
  unfolding start start_plan
  start-stays d = start-cases d (start_verdict n time timeout) (request_plan n.version (request_of n)) waiting_stays

-- ---- polling
module _ (n : Node) (time : ℕ) where
  pub poll-is : Valid n → poll n time ≡ polled_by n (attempt.poll n.attempt time)
  unfolding poll
  poll-is v = rw v

  poll-cases : (b : Bool) (s : AttemptResult) → KeysStay n (attempting n s.attempt)
      → KeysStay n (cond b (polled_by n s) (polled (Err refusal.Range) n)).node
  poll-cases true s k = k
  poll-cases false s k = stay-self n

  pub poll-stays : KeysStay n (poll n time).node
  unfolding poll
  poll-stays =
      poll-cases (valid n) (attempt.poll n.attempt time)
      (stay-attempt n (attempt.poll n.attempt time).attempt (λ v. poll-valid n.attempt time (attempt-valid n v))
      (poll-later n.attempt time))
