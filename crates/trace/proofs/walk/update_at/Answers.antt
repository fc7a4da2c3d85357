-- Before the first node the record stops the walk; else its call is made and counted.
use mathlib.Core.Path.{refl}
use borrow.Author.Tests.{not-true, not-false}
use Rattle.trace.specs.Trace.{update}
use Rattle.trace.proofs.Laws.{stops, walks}
use Rattle.trace.proofs.walk.update_at.Goals as goal

pub returns-then-not-state : goal.returns-then-not-state
returns-then-not-state c =
    stops (update c.args.time c.args.payload.now) c.args.at c.args.state _ (not-true _ c.if-not-state.true) c.reached.ensures

pub returns : goal.returns
returns c =
    walks (update c.args.time c.args.payload.now) c.args.at c.args.state _ (not-false _ c.if-not-state.false) _ c.update-did.ensures _
    c.after.ensures _ refl c.reached-2.ensures
