-- The record is walked whether there is a node or not.
use mathlib.Core.Path.{refl}
use Rattle.trace.specs.Trace.{new_node}
use Rattle.trace.proofs.Laws.{walks}
use Rattle.trace.proofs.walk.new_at.Goals as goal

pub returns : goal.returns
returns c =
    walks (new_node c.args.role c.args.network) c.args.at c.args.state _ refl _ c.new_node-did.ensures _ c.after.ensures _ refl
    c.reached.ensures
