-- Each number of the report is what its function answers.
use Rattle.trace.specs.Step.{afterwards}
use Rattle.trace.proofs.state.State.after.Goals as goal

pub returns : goal.returns
unfolding afterwards
returns c = rw (c.with_kind-kinds.ensures, c.with_refusal-refusals.ensures, c.more_if.ensures)
