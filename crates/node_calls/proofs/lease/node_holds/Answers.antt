-- The question on the image is the node's own, and RANGE where there is no image.
use Rattle.node_calls.proofs.Nodes.{asked}
use Rattle.node_calls.proofs.lease.node_holds.Goals as goal

pub returns : goal.returns
returns c =
    asked c.demand1.ensures c.args.node.now c.args.time c.address_holds_in.result
    c.address_holds_in.ensures c.store_lease_status.ensures.number c.store_lease_status.ensures.holds
