-- The bytes of each part are judged where those before it are good.
use Rattle.node_image.proofs.Nodes.{no-state, node-good}
use Rattle.node_image.proofs.state.is_node.Goals as goal

pub returns-then-is_state : goal.returns-then-is_state
returns-then-is_state c =
    node-good c.args.s.now c.is_headed.ensures c.if-is_headed.true c.is_state.ensures
    c.if-is_state.true c.is_holding.ensures

pub returns-else-is_state : goal.returns-else-is_state
returns-else-is_state c =
    no-state c.args.s.now c.is_headed.ensures c.if-is_headed.true c.is_state.ensures c.if-is_state.false
