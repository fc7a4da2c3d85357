-- The report, and then the key set after it.
use mathlib.Core.Path.{refl}
use Rattle.lemmas.specs.logic.Tests.{and-next}
use Rattle.key_image.specs.Key.{key_set_part}
use Rattle.object_image.proofs.Got.{good-later}
use Rattle.object_image.proofs.configuration.is_keys_parameter.Goals as goal

pub returns-then-is_disposition : goal.returns-then-is_disposition
returns-then-is_disposition c =
    and-next c.is_disposition.ensures c.if-is_disposition.true
    (good-later c.args.s.now c.args.at key_set_part 1 c.is_key_set.ensures) refl
