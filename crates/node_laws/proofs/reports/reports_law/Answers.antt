-- By the calls' definitions: proofs/Reporting.antt.
use Rattle.node_laws.proofs.Reporting.{reports-follow}
use Rattle.node_laws.proofs.reports.reports_law.Goals as goal

pub returns : goal.returns
returns c = reports-follow
