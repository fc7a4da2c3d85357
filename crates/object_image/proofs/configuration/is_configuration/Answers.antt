-- The head, and then the two halves.
use Rattle.lemmas.specs.logic.Tests.{is_true, is_false}
use Rattle.object_image.specs.Configuration.{configuration_part}
use Rattle.object_image.proofs.Objects.{after-head, bad-half, by-half}
use Rattle.object_image.proofs.configuration.is_configuration.Goals as goal

pub returns-then-not-is_earlier : goal.returns-then-not-is_earlier
returns-then-not-is_earlier c =
    let s = c.args.s.now in
    after-head 0x43 configuration_part s (is_true c.is_headed.ensures c.if-not-is_headed.false)
    (bad-half s (is_false c.is_earlier.ensures c.if-not-is_earlier.true))

pub returns : goal.returns
returns c =
    let s = c.args.s.now in
    after-head 0x43 configuration_part s (is_true c.is_headed.ensures c.if-not-is_headed.false)
    (by-half s (is_true c.is_earlier.ensures c.if-not-is_earlier.false) c.is_later.ensures)
