-- Polled when due, a valid node answers as its join attempt does, which gives up 31t after its start.
use Rattle.std.specs.Prelude.{Result, Ok, Err}
use Rattle.refusal.specs.declared.Refusal.{Refusal}
use Prim.Native.Nat.{ℕ, zero, suc, ◌+◌, ◌≤◌}
use mathlib.Core.Path.{◌≡◌, refl, sym, ◌∙◌, ap, subst}
use mathlib.Core.List.{List}
use Rattle.refusal.specs.RefusalLemmas.{refused-not}
use Rattle.refusal.specs.Verdict.{Verdict}
use Rattle.byte_io.specs.Write.{Plan, answer}
use Rattle.cojp.specs.Writing.{request_plan}
use Rattle.node_attempt.specs.Attempt.{waiting_from}
use Rattle.node_attempt.specs.Poll as attempt
use Rattle.node_attempt.specs.declared.attempt.Attempt.{Attempt}
use Rattle.node_attempt.proofs.Attempts.{may-start}
use Rattle.node_attempt.proofs.GivesUp.{attempt-gives-up}
use Rattle.node.specs.Range.{Valid}
use Rattle.node.specs.Timing.{request_of, start_verdict, plan_by, start_plan, started_from, started_by, start, poll}
use Rattle.node_laws.specs.Laws.{due_at, after_due, answers_due, GivesUp}
use Rattle.node.specs.declared.node.Node.{Node}
use Rattle.node_laws.proofs.Timings.{start-passed, start-stays, poll-is, poll-stays}

-- ---- an accepted start
begun-by :
    (n m : Node) (d : List ℕ) (v : Verdict) (p : Plan) → (started_by (answer (plan_by v p) d) n m).verdict ≡ Ok tt →
    (v ≡ Ok tt) × ((started_by (answer (plan_by v p) d) n m).node ≡ m)
begun-by n m d (Err k) p e = refused-not k e
begun-by n m d (Ok tt) p e = (refl, go (answer p d) e)
  where
    go : (w : Result ℕ Refusal) → (started_by w n m).verdict ≡ Ok tt → (started_by w n m).node ≡ m
    go (Err k) f = refused-not k f
    go (Ok l) f = refl

started :
    (n : Node) (time timeout : ℕ) (d : List ℕ) → (start n time timeout d).verdict ≡ Ok tt →
    (start_verdict n time timeout ≡ Ok tt) × ((start n time timeout d).node ≡ started_from n time timeout)
unfolding start start_plan
started n time timeout d e =
    begun-by n (started_from n time timeout) d (start_verdict n time timeout) (request_plan n.version (request_of n)) e

-- ---- polling when due
abbrev after : Attempt → Attempt
after a = (attempt.poll a (attempt.due_at a)).attempt

next-is : (n : Node) → Valid n → (poll n (due_at n)).node.attempt ≡ after n.attempt
next-is n v = rw (poll-is n (due_at n) v)

due-is : (n : Node) → Valid n → (poll n (due_at n)).due ≡ (attempt.poll n.attempt (attempt.due_at n.attempt)).due
due-is n v = rw (poll-is n (due_at n) v)

answers-same : (polls : ℕ) (n : Node) → Valid n → answers_due polls n ≡ attempt.answers_due polls n.attempt
answers-same zero n v = refl
answers-same (suc polls) n v =
    let rest : answers_due polls (poll n (due_at n)).node ≡ attempt.answers_due polls (after n.attempt) =
    answers-same polls (poll n (due_at n)).node ((poll-stays n (due_at n)).valid v) ∙ ap (attempt.answers_due polls) (next-is n v) in
    rw (due-is n v, rest)

after_same : (polls : ℕ) (n : Node) → Valid n → (after_due polls n).attempt ≡ attempt.after_due polls n.attempt
after_same zero n v = refl
after_same (suc polls) n v =
    after_same polls (poll n (due_at n)).node ((poll-stays n (due_at n)).valid v) ∙ ap (attempt.after_due polls) (next-is n v)

pub gives_up_lem : GivesUp
gives_up_lem n time timeout d e =
    let s = started n time timeout d e in
    let p = start-passed n time timeout s.0 in
    let g = attempt-gives-up time timeout (may-start n.attempt time timeout p.1).2 in
    let v : Valid (start n time timeout d).node = (start-stays n time timeout d).valid p.0 in
    let a : (start n time timeout d).node.attempt ≡ waiting_from time timeout = ap (λ (x : Node). x.attempt) s.1 in
    let end = after_same 5 (start n time timeout d).node v ∙ ap (attempt.after_due 5) a in
    record {
      answers = answers-same 5 (start n time timeout d).node v ∙ ap (attempt.answers_due 5) a ∙ g.answers;
      end = ap (λ (x : Attempt). x.phase) end ∙ g.end;
      at = ap (λ (x : Attempt). x.clock) end ∙ g.at;
      earliest = subst (λ (x : Attempt). time + 310000 ≤ x.clock) (sym end) g.earliest;
      latest = subst (λ (x : Attempt). x.clock ≤ time + 465000) (sym end) g.latest;
    }
