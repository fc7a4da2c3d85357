-- Demand 1 for the node: a refused call leaves the node and the lent bytes as they were, and its object is the empty one.
use Rattle.std.specs.Prelude.{ℕ, ◌≡◌, List, [], Result, Ok, Err}
use Rattle.refusal.specs.declared.Refusal.{Refusal}
use Rattle.refusal.specs.Verdict.{Verdict}
use Rattle.link_key.specs.Key.{no_key}
use Rattle.link_key.specs.declared.Key.{Key}
use Rattle.protocol_version.specs.declared.Version.{Version}
use Rattle.node.specs.Node.{empty_node, made}
use Rattle.node_key_sets.specs.Frames.{change_verdict}
use Rattle.node_key_sets.specs.declared.frames.Change.{Change}
use Rattle.node_key_sets.specs.declared.frames.Change.TheVariants as change
use Rattle.node_attempt.specs.Poll.{due_verdict}
use Rattle.node_attempt.specs.declared.poll.Due.{Due}
use Rattle.node_attempt.specs.declared.poll.Due.TheVariants as due
use Rattle.node.specs.Timing.{start, start_after, poll}
use Rattle.node_parameters.specs.Dispositions.{no_dispositions}
use Rattle.node.specs.Delivery.{deliver}
use Rattle.node.specs.Lease.{holds, holding_verdict}
use Rattle.node.specs.Frames.{send, send_counter, after_send, receive, verified}
use Rattle.node_attempt.specs.declared.delivery.Delivery.{Delivery}
use Rattle.node_parameters.specs.declared.dispositions.Dispositions.{Dispositions}
use Rattle.node.specs.declared.lease.LeaseStatus.{LeaseStatus}
use Rattle.node.specs.declared.lease.LeaseStatus.TheVariants as holding
use Rattle.node_parameters.specs.declared.octets.HeldOctets.{HeldOctets}
use Rattle.node.specs.declared.node.Node.{Node}

-- the calls that a node is handed to, with their arguments
pub data NodeCall : Type 0 where
  -- time, first timeout, and what the destination holds
  starting : ℕ → ℕ → List ℕ → NodeCall
  -- time
  polling : ℕ → NodeCall
  -- a join answer or an update: time, payload
  delivering : Delivery → ℕ → List ℕ → NodeCall
  -- the question whether the address holds: time
  asking : ℕ → NodeCall
  -- frame type
  sending : ℕ → NodeCall
  -- frame type, key identifier
  receiving : ℕ → ℕ → NodeCall
  reporting : ℕ → ℕ → NodeCall

-- what a call answers beside its verdict
pub data Object : Type 0 where
  nothing : Object
  written : ℕ → Object
  step : Result Due Refusal → Object
  reports : Dispositions → Object
  state : Result LeaseStatus Refusal → Object
  key : Key → Object
  -- with its counter
  counted : Key → ℕ → Object
  effect : Result Change Refusal → Object

-- an answer that is a refusal is no object
abbrev pub due_object : Result Due Refusal → Object
due_object (Err k) = nothing
due_object (Ok due.NotYet) = step (Ok due.NotYet)
due_object (Ok due.SendAgain) = step (Ok due.SendAgain)
due_object (Ok due.GaveUp) = step (Ok due.GaveUp)

abbrev pub holding_object : Result LeaseStatus Refusal → Object
holding_object (Err k) = nothing
holding_object (Ok holding.Valid) = state (Ok holding.Valid)
holding_object (Ok holding.Expired) = state (Ok holding.Expired)

abbrev pub change_object : Result Change Refusal → Object
change_object (Err k) = nothing
change_object (Ok change.Switched) = effect (Ok change.Switched)
change_object (Ok change.Kept) = effect (Ok change.Kept)

-- the empty object of each call
abbrev pub empty_object : NodeCall → Object
empty_object (starting time timeout d) = written 0
empty_object (polling time) = nothing
empty_object (delivering delivery time payload) = reports no_dispositions
empty_object (asking time) = nothing
empty_object (sending type) = counted no_key 0
empty_object (receiving type identifier) = key no_key
empty_object (reporting type identifier) = nothing

-- the bytes that are lent to it
abbrev pub lent_to : NodeCall → List ℕ
lent_to (starting time timeout d) = d
lent_to (polling time) = []
lent_to (delivering delivery time payload) = payload
lent_to (asking time) = []
lent_to (sending type) = []
lent_to (receiving type identifier) = []
lent_to (reporting type identifier) = []

-- a call that was made: verdict, node afterwards, object, and the lent bytes afterwards
pub record Performed : Type 0 where
  pub verdict : Verdict
  pub node : Node
  pub object : Object
  pub lent : List ℕ

abbrev pub performed : Verdict → Node → Object → List ℕ → Performed
performed verdict node object lent = record { verdict = verdict; node = node; object = object; lent = lent }

unfoldable pub perform : NodeCall → Node → Performed
perform (starting time timeout d) n =
    performed (start n time timeout d).verdict (start n time timeout d).node (written (start n time timeout d).length)
    (start_after n time timeout d)
perform (polling time) n = performed (due_verdict (poll n time).due) (poll n time).node (due_object (poll n time).due) []
perform (delivering delivery time payload) n =
    performed (deliver delivery n time payload).verdict (deliver delivery n time payload).node
    (reports (deliver delivery n time payload).dispositions) payload
perform (asking time) n = performed (holding_verdict (holds n time)) n (holding_object (holds n time)) []
perform (sending type) n = performed (send n type).verdict (after_send n type) (counted (send n type).key (send_counter n type)) []
perform (receiving type identifier) n = performed (receive n type identifier).verdict n (key (receive n type identifier).key) []
perform (reporting type identifier) n =
    performed (change_verdict (verified n type identifier).change) (verified n type identifier).node
    (change_object (verified n type identifier).change) []

-- nothing came of the call
pub record Untouched (c : NodeCall) (n : Node) (p : Performed) : Type 0 where
  pub node : p.node ≡ n
  pub lent : p.lent ≡ lent_to c
  pub object : p.object ≡ empty_object c

pub record Demand1 : Type 0 where
  pub calls : (c : NodeCall) (n : Node) (k : Refusal) → (perform c n).verdict ≡ Err k → Untouched c n (perform c n)
  -- a node that is not made is the empty one
  pub made-empty :
      (version : Version) (role : ℕ) (network : HeldOctets) (k : Refusal) → (made version role network).verdict ≡ Err k →
      (made version role network).node ≡ empty_node
