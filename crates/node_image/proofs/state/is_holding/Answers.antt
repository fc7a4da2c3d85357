-- The bytes of each part are judged where those before it are good.
use Rattle.node_image.proofs.Nodes.{no-jrc, no-network, no-prefix, held-fields}
use Rattle.node_image.proofs.state.is_holding.Goals as goal

pub returns-then-is_bool-3 : goal.returns-then-is_bool-3
returns-then-is_bool-3 c =
    held-fields c.args.s.now c.is_held_address.ensures c.if-is_held_address.true c.is_bool.ensures
    c.if-is_bool.true c.is_bool-then-is_bool.ensures c.if-is_bool-2.true c.is_bool-then-is_bool-2.ensures c.if-is_bool-3.true
    c.is_form.ensures

pub returns-else-is_bool-3 : goal.returns-else-is_bool-3
returns-else-is_bool-3 c =
    no-prefix c.args.s.now c.is_held_address.ensures c.if-is_held_address.true c.is_bool.ensures
    c.if-is_bool.true c.is_bool-then-is_bool.ensures c.if-is_bool-2.true c.is_bool-then-is_bool-2.ensures c.if-is_bool-3.false

pub returns-else-is_bool-2 : goal.returns-else-is_bool-2
returns-else-is_bool-2 c =
    no-network c.args.s.now c.is_held_address.ensures c.if-is_held_address.true c.is_bool.ensures
    c.if-is_bool.true c.is_bool-then-is_bool.ensures c.if-is_bool-2.false

pub returns-else-is_bool : goal.returns-else-is_bool
returns-else-is_bool c =
    no-jrc c.args.s.now c.is_held_address.ensures c.if-is_held_address.true c.is_bool.ensures
    c.if-is_bool.false
