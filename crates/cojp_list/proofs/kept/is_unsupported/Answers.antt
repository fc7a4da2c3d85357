-- The list is read again from its own bytes.
use Rattle.cojp.specs.Lists.{at_least_one, error_reports_in}
use Rattle.cojp_list.proofs.Again.{kept-long, kept_again}
use Rattle.cojp_list.proofs.kept.is_unsupported.Goals as goal

pub returns-then-len-gt253 : goal.returns-then-len-gt253
returns-then-len-gt253 c = kept-long (at_least_one error_reports_in) c.args.l c.if-len-gt253.true

pub returns : goal.returns
returns c =
    kept_again (at_least_one error_reports_in) c.args.l c.if-len-gt253.false c.read_entries-again.result c.read_entries-again.ensures
    c.same_as.result c.same_as.ensures
