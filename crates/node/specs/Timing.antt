-- The join attempt of a node: a start writes the join request, and polls say when to send it again and when to give up.
use Rattle.std.specs.Prelude.{ℕ, ◌≡◌, cond, List, Result, Ok, Err}
use Rattle.refusal.specs.declared.Refusal.{Refusal}
use Rattle.refusal.specs.declared.Refusal.TheVariants as refusal
use Rattle.refusal.specs.Verdict.{Verdict}
use Rattle.byte_io.specs.Write.{Plan, refuse, answer, after}
use Rattle.cojp.specs.ErrorReports.{no_error_reports}
use Rattle.cojp.specs.Writing.{request_plan}
use Rattle.cojp.specs.declared.request.JoinRequest.{JoinRequest}
use Rattle.cojp_list.specs.Listed.{listed_in}
use Rattle.node_attempt.specs.Attempt.{may_start, waiting_from}
use Rattle.node_attempt.specs.Poll as attempt
use Rattle.node_attempt.specs.declared.poll.Due.{Due}
use Rattle.node_attempt.specs.declared.poll.AttemptResult.{AttemptResult}
use Rattle.node_parameters.specs.Octets.{identifier_in}
use Rattle.node.specs.Node.{attempting}
use Rattle.node.specs.Range.{valid}
use Rattle.node.specs.declared.node.Node.{Node}
use Rattle.node.specs.declared.timing.PollResult.{PollResult}
use Rattle.node.specs.declared.timing.StartResult.{StartResult}

-- ---- starting
-- the request carries the node's role, its network identifier where it holds one, and its reports where it has any
unfoldable pub request_of : Node → JoinRequest
request_of n = record {
  role = n.role;
  network = identifier_in n.network;
  unsupported = listed_in n.errors;
  errors = no_error_reports;
  unknown = 0;
}

-- whether it may start: RANGE: the node; CLOCK, PHASE, RANGE: the timeout
unfoldable pub start_verdict : Node → ℕ → ℕ → Verdict
start_verdict n time timeout = cond (valid n) (may_start n.attempt time timeout) (Err refusal.Range)

-- what a start writes: the request, which may be OWED or have no ROOM
abbrev pub plan_by : Verdict → Plan → Plan
plan_by (Err k) p = refuse k
plan_by (Ok tt) p = p

unfoldable pub start_plan : Node → ℕ → ℕ → Plan
start_plan n time timeout = plan_by (start_verdict n time timeout) (request_plan n.version (request_of n))

-- the node after it: waiting, the counter 0; keys, address and the rest stay
abbrev pub started_from : Node → ℕ → ℕ → Node
started_from n time timeout = attempting n (waiting_from time timeout)

abbrev pub unstarted : Refusal → Node → StartResult
unstarted k n = record { verdict = Err k; length = 0; node = n }

abbrev pub started_by : Result ℕ Refusal → Node → Node → StartResult
started_by (Err k) n m = unstarted k n
started_by (Ok l) n m = record { verdict = Ok tt; length = l; node = m }

-- the answer, d being what the destination holds
unfoldable pub start : Node → ℕ → ℕ → List ℕ → StartResult
start n time timeout d = started_by (answer (start_plan n time timeout) d) n (started_from n time timeout)

-- the destination's contents afterwards
unfoldable pub start_after : Node → ℕ → ℕ → List ℕ → List ℕ
start_after n time timeout d = after (start_plan n time timeout) d

-- a start: its answer r, and the destination d before and d' afterwards
pub record StartDid (n : Node) (time timeout : ℕ) (d : List ℕ) (r : StartResult) (d' : List ℕ) : Type 0 where
  pub says : r ≡ start n time timeout d
  pub holds : d' ≡ start_after n time timeout d

-- ---- polling: RANGE: the node; then as its join attempt
abbrev pub polled : Result Due Refusal → Node → PollResult
polled due n = record { due = due; node = n }

abbrev pub polled_by : Node → AttemptResult → PollResult
polled_by n s = polled s.due (attempting n s.attempt)

unfoldable pub poll : Node → ℕ → PollResult
poll n time = cond (valid n) (polled_by n (attempt.poll n.attempt time)) (polled (Err refusal.Range) n)
