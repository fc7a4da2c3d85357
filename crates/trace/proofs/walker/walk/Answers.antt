-- The invariant: while the walk goes on, what is left to play is the whole; then the last step is.
-- The measure is what is left of the trace.
use Rattle.trace.proofs.Turns.{begins, again, less}
use Rattle.trace.proofs.walker.walk.Goals as goal

pub loop-last-init : goal.loop-last-init
loop-last-init c = rw (c.reached-last.ensures, c.nothing_yet.ensures) (begins c.args.trace.now)

pub loop-last-smaller : goal.loop-last-smaller
loop-last-smaller c =
    less c.args.trace.now c.loop-last.last c.step_from-last.result c.in-Walked.is c.loop-last.invariant c.step_from-last.ensures

pub loop-last-preserved : goal.loop-last-preserved
loop-last-preserved c =
    again c.args.trace.now c.loop-last.last c.step_from-last.result c.in-Walked.is c.loop-last.invariant c.step_from-last.ensures
