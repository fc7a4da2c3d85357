-- Each field stands at its place.
use Rattle.object_image.proofs.Objects.{request-got}
use Rattle.object_image.proofs.request.request_in.Goals as goal

pub returns : goal.returns
returns c =
    request-got c.args.s.now c.octets_parameter_at.ensures
    c.list_parameter_at.ensures c.error_reports_at.ensures c.number_at.ensures
