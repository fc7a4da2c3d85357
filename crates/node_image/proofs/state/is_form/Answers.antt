-- The bytes of each part are judged where those before it are good.
use Rattle.node_image.proofs.Nodes.{form-not, form-good}
use Rattle.node_image.proofs.state.is_form.Goals as goal

pub returns-then-is_bool : goal.returns-then-is_bool
returns-then-is_bool c =
    form-good c.args.s.now c.is_version.ensures c.if-is_version.true c.is_bool.ensures
    c.if-is_bool.true c.is_bool-then-is_bool.ensures

pub returns-else-is_bool : goal.returns-else-is_bool
returns-else-is_bool c =
    form-not c.args.s.now c.is_version.ensures c.if-is_version.true c.is_bool.ensures c.if-is_bool.false
