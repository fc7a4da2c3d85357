-- Each field stands at its place.
use Rattle.object_image.proofs.Objects.{configuration-got}
use Rattle.object_image.proofs.configuration.configuration_in.Goals as goal

pub returns : goal.returns
returns c =
    configuration-got c.args.s.now c.keys_parameter_at.ensures
    c.address_parameter_at.ensures c.octets_parameter_at.ensures
    c.octets_parameter_at-2.ensures c.octets_parameter_at-3.ensures
    c.list_parameter_at.ensures c.rate_parameter_at.ensures
    c.error_reports_at.ensures c.number_at.ensures
