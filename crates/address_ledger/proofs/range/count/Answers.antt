-- Within the limits they are counted; outside none is.
use mathlib.Core.Path.{sym, ◌∙◌}
use Rattle.address_ledger.proofs.range.Judged.{within_end}
use Rattle.address_ledger.proofs.range.count.Goals as goal

pub count_down-requires : goal.count_down-requires
count_down-requires c =
    within_end c.args.first c.args.size (sym c.in_limits.ensures ∙ c.if-in_limits.true)
