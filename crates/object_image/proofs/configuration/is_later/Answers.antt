-- All is good after the two reports.
use Rattle.lemmas.specs.logic.Tests.{is_true}
use Rattle.object_image.proofs.Objects.{by-rate}
use Rattle.object_image.proofs.configuration.is_later.Goals as goal

pub returns-then-is_list_parameter : goal.returns-then-is_list_parameter
returns-then-is_list_parameter c =
    by-rate c.args.s.now c.args.at
    (is_true c.is_list_parameter.ensures c.if-is_list_parameter.true) c.is_rate_parameter.ensures
