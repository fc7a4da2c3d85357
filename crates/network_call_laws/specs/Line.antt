-- Demand 3 in C speaks of something: three boards in a line, the nodes of the network's witness, are rekeyed by a program.
use Rattle.std.specs.Prelude.{List, ◌≡◌}
use Rattle.node.specs.Node.{active_of, pending_of}
use Rattle.node_attempt.specs.declared.delivery.Delivery.TheVariants.{Update}
use Rattle.node_image.specs.Node.{node_image}
use Rattle.node_laws.specs.Calls.{delivering}
use Rattle.network.specs.Events.{calling}
use Rattle.network.specs.RekeyExample.{old_keys, new_keys, line, first, payload, worst, twice}
use Rattle.pothatch_laws.specs.Runs.{Runs}
use Rattle.network_call_laws.specs.Network.{Structs, struct_at, Images, loaded, stored, Answer, Did}
use Rattle.network_call_laws.specs.Rekey.{NoneSends, AtEach, Follows}

pub record LineInC : Type 0 where
  -- the boards' structs hold the line's nodes
  pub images : Images (stored line)
  pub nodes : loaded (stored line) ≡ line
  -- the first list was played, and at no moment of it does anybody send under the set
  pub told : List Answer
  pub before : Structs
  pub played : Runs Did first (stored line) told before
  pub none-sends : AtEach (NoneSends new_keys) first (stored line) told before
  -- the border router's board is handed the set; that it took it shows in what follows
  pub answer : Answer
  pub between : Structs
  pub taken : Did (calling 0 (delivering Update 20000 payload)) before answer between
  -- after one round the far board still has it pending
  pub told-once : List Answer
  pub once : Structs
  pub one-round : Runs Did worst between told-once once
  pub waits-active : active_of (node_image.get (struct_at once 2)) ≡ old_keys
  pub waits-pending : pending_of (node_image.get (struct_at once 2)) ≡ new_keys
  -- after two it has followed
  pub told-twice : List Answer
  pub end : Structs
  pub two-rounds : Runs Did twice between told-twice end
  pub follows : Follows new_keys 1 (struct_at end 2)
