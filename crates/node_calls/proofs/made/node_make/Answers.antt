-- The struct's length, form and flag come first; then the node is made.
use native.Mathlib.Omega.{arith}
use Rattle.node_calls.proofs.Nodes.{node_made}
use Rattle.node_calls.proofs.made.node_make.Goals as goal

pub returns : goal.returns
returns c =
    node_made c.args.form c.args.role c.args.has_network c.args.network.now c.args.node.now
    c.made_of-made.result (omega (arith, c.if-node-ne878.false)) c.if-form-gt1.false c.if-has_network-gt1.false
    c.made_of-made.ensures c.store_result_node.ensures.number c.store_result_node.ensures.out
