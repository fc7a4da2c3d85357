-- The value stands after the report.
use Rattle.key_image.specs.Key.{key_set_part}
use Rattle.object_image.specs.Configuration.{keys_parameter_to}
use Rattle.object_image.proofs.Got.{parameter-here}
use Rattle.object_image.proofs.configuration.keys_parameter_at.Goals as goal

pub returns : goal.returns
returns c =
    parameter-here c.args.s.now c.args.at key_set_part keys_parameter_to c.disposition_at.ensures
    c.key_set_at.ensures
