-- The call that each record makes of the node, and what the calls of a trace answer.
use Rattle.std.specs.Prelude.{ℕ, Bool, false, List, [], ◌∷◌, replicate}
use Rattle.refusal.specs.Verdict.{Verdict}
use Rattle.node_attempt.specs.Poll.{due_verdict}
use Rattle.node_key_sets.specs.Frames.{change_verdict, has_switched}
use Rattle.node_attempt.specs.declared.delivery.Delivery.TheVariants as call
use Rattle.protocol_version.specs.declared.Version.TheVariants.{Draft}
use Rattle.node.specs.Node.{made}
use Rattle.node.specs.Timing as timing
use Rattle.node.specs.Delivery as delivery
use Rattle.node.specs.Frames as frames
use Rattle.node.specs.declared.delivery.DeliveryResult.{DeliveryResult}
use Rattle.node.specs.declared.frames.VerifyResult.{VerifyResult}
use Rattle.node.specs.declared.node.Node.{Node}
use Rattle.trace.specs.Trace.{Record, new_node, start, join_answer, update, verified, poll}
use Rattle.trace.specs.declared.done.CallResult.{CallResult}

-- the verdict, whether the pending set became active, and the node afterwards
abbrev pub done_by : Verdict → Bool → Node → CallResult
done_by v switched n = record { verdict = v; switched = switched; node = n }

abbrev pub done_delivered : DeliveryResult → CallResult
done_delivered d = done_by d.verdict false d.node

abbrev pub done_reported : VerifyResult → CallResult
done_reported h = done_by (change_verdict h.change) (has_switched h.change) h.node

-- a start is lent 32 bytes
abbrev pub room : List ℕ
room = replicate 32 0

-- the nodes of a trace are of the draft's form
unfoldable pub call_of : Record → Node → CallResult
call_of (new_node role network) n = done_by (made Draft role network).verdict false (made Draft role network).node
call_of (start time timeout) n = done_by (timing.start n time timeout room).verdict false (timing.start n time timeout room).node
call_of (join_answer time payload) n = done_delivered (delivery.deliver call.JoinAnswer n time payload)
call_of (update time payload) n = done_delivered (delivery.deliver call.Update n time payload)
call_of (verified type identifier) n = done_reported (frames.verified n type identifier)
call_of (poll time) n = done_by (due_verdict (timing.poll n time).due) false (timing.poll n time).node

-- ---- the calls of a list of records, each on the node as the one before left it
-- the node after them
abbrev pub node_by : List Record → Node → Node
node_by [] n = n
node_by (r ∷ rs) n = node_by rs (call_of r n).node

-- a record and what its call answered
pub record Answered : Type 0 where
  pub asked : Record
  pub verdict : Verdict
  pub switched : Bool

abbrev pub answered : Record → CallResult → Answered
answered r d = record { asked = r; verdict = d.verdict; switched = d.switched }

abbrev pub answers_of : List Record → Node → List Answered
answers_of [] n = []
answers_of (r ∷ rs) n = answered r (call_of r n) ∷ answers_of rs (call_of r n).node
