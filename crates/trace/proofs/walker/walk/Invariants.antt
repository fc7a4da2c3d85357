-- The invariant: while the walk goes on, what is left to play is the whole; then the last step is.
-- The measure is what is left of the trace.
use Rattle.trace.proofs.Turns.{Held, left}
use Rattle.trace.proofs.walker.walk.Given as goal

abbrev pub invariant-loop-last : goal.invariant-loop-last
invariant-loop-last l = Held l.last.progress l.trace l.last

abbrev pub decreases-loop-last : goal.decreases-loop-last
decreases-loop-last l = left l.last.progress l.trace l.last
