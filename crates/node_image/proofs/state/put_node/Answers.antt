-- Each field is written to the part after those before it, and together they fill the struct.
use native.Mathlib.Omega.{arith}
use Rattle.image.specs.Fields.{next_field}
use Rattle.node_image.proofs.Nodes.{node-stored}
use Rattle.node_image.proofs.state.put_node.Goals as goal

pub returns : goal.returns
returns c =
    let w1 = next_field (omega arith) c.put_head.ensures c.put_byte.ensures in
    let w2 = next_field (omega arith) w1 c.put_attempt.ensures in
    let w3 = next_field (omega arith) w2 c.put_sets.ensures in
    let w4 = next_field (omega arith) w3 c.put_holding.ensures in
    node-stored c.args.node c.requires w4
