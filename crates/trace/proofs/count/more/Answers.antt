-- A sum that saturates is the definition's test.
use Rattle.std.proofs.Common.{◌∙◌}
use Rattle.trace.proofs.Numbers.{saturated}
use Rattle.trace.proofs.count.more.Goals as goal

pub returns : goal.returns
returns c = c.saturating_add.ensures ∙ saturated c.args.n c.ranges.n.fits
