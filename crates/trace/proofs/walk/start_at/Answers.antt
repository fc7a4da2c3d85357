-- Before the first node the record stops the walk; else its call is made and counted.
use mathlib.Core.Path.{refl}
use borrow.Author.Tests.{not-true, not-false}
use Rattle.trace.specs.Trace.{start}
use Rattle.trace.proofs.Laws.{stops, walks}
use Rattle.trace.proofs.walk.start_at.Goals as goal

pub returns-then-not-state : goal.returns-then-not-state
returns-then-not-state c =
    stops (start c.args.time c.args.timeout) c.args.at c.args.state _ (not-true _ c.if-not-state.true) c.reached.ensures

pub returns : goal.returns
returns c =
    walks (start c.args.time c.args.timeout) c.args.at c.args.state _ (not-false _ c.if-not-state.false) _ c.start-did.ensures _
    (rw (← c.started_by-started.ensures) c.after.ensures) _ refl c.reached-2.ensures
