-- Each call leaves a node that is the former one, or that one with another part.
use Rattle.std.specs.Prelude.{Result, Ok, Err}
use Prim.Native.Nat.{ℕ}
use mathlib.Core.Bool.{Bool, true, false, cond}
use mathlib.Core.List.{List}
use mathlib.Core.Option.{Option, none, some}
use mathlib.Core.Path.{refl}
use Rattle.byte_io.specs.Write.{answer}
use Rattle.link_key_counters.specs.Counters.{Slot, taken_counter_on, take_counter, first_serving}
use Rattle.node.specs.Frames as frames
use Rattle.node.specs.Frames.{sent_by, unsent}
use Rattle.node.specs.Range.{valid}
use Rattle.node.specs.Timing.{start, started_by, started_from, start_plan, poll, polled}
use Rattle.node.specs.declared.node.Node.{Node}
use Rattle.node.specs.declared.timing.PollResult.{PollResult}
use Rattle.node_key_sets.specs.Frames as sets
use Rattle.node_key_sets.specs.declared.frames.SendKeyResult.{SendKeyResult}
use Rattle.link_key.specs.usage.Usage.{known_type}
use Rattle.node_attempt.specs.declared.poll.Due.{Due}
use Rattle.refusal.specs.declared.Refusal.{Refusal}
use Rattle.refusal.specs.declared.Refusal.TheVariants.{Range}
use Rattle.node_image.specs.Change.{Attempted, Recounted, NodeChanges}

by-poll : (n : Node) (b : Bool) (x : PollResult) (k : Result Due Refusal) → Attempted n x.node → Attempted n (cond b x (polled k n)).node
by-poll n true x k e = e
by-poll n false x k e = refl

by-start : (n : Node) (w : Result ℕ Refusal) (m : Node) → Attempted n m → Attempted n (started_by w n m).node
by-start n (Err k) m e = refl
by-start n (Ok l) m e = e

by-spend : (n : Node) (o : Option Slot) → Recounted n (sent_by n (sets.sent_with n.sets (taken_counter_on n.sets.active o))).node
by-spend n none = refl
by-spend n (some x) = refl

by-type : (n : Node) (b : Bool) (x : SendKeyResult) (k : Refusal) → Recounted n (sent_by n x).node
    → Recounted n (sent_by n (cond b x (sets.unsent k n.sets))).node
by-type n true x k e = e
by-type n false x k e = refl

by-send : (n : Node) (b : Bool) (x : SendKeyResult) → Recounted n (sent_by n x).node → Recounted n (cond b (sent_by n x) (unsent n)).node
by-send n true x e = e
by-send n false x e = refl

pub poll-changes : (n : Node) (time : ℕ) → Attempted n (poll n time).node
unfolding poll
poll-changes n time = by-poll n (valid n) _ (Err Range) refl

pub start-changes : (n : Node) (time timeout : ℕ) (d : List ℕ) → Attempted n (start n time timeout d).node
unfolding start
start-changes n time timeout d = by-start n (answer (start_plan n time timeout) d) (started_from n time timeout) refl

pub send-changes : (n : Node) (type : ℕ) → Recounted n (frames.sending n type).node
unfolding frames.sending sets.sending take_counter
send-changes n type =
    by-send n (valid n) (sets.sending n.sets type)
    (by-type n (known_type type) (sets.sent_with n.sets (take_counter type n.sets.active)) Range
    (by-spend n (first_serving type n.sets.active)))

pub node-changes : NodeChanges
node-changes = record { started = start-changes; polled = poll-changes; sent = send-changes }
