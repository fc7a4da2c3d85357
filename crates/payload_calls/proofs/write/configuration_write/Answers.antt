-- The form and the image come first; then the writer's own plan is followed.
use mathlib.Core.Bool.{◌&&◌}
use Rattle.cojp.specs.Writing.{configuration_plan}
use Rattle.lemmas.specs.logic.Tests.{both, is_true}
use Rattle.image.proofs.Lent.{long}
use Rattle.image.specs.Part.{is_image}
use Rattle.object_image.specs.Configuration.{configuration_image}
use Rattle.payload_calls.proofs.Answers.{wrote_as}
use Rattle.payload_calls.specs.Asked.{is_version}
use Rattle.payload_calls.proofs.write.configuration_write.Goals as goal

pub configuration_in-requires : goal.configuration_in-requires
configuration_in-requires c =
    long configuration_image c.args.object.now (is_true c.is_configuration.ensures c.if-not-is_configuration.false)

pub returns : goal.returns
returns c =
    let image = is_image configuration_image c.args.object.now in
    let right =
    both (is_version c.args.form) image c.in-Some.ensures.0
    (is_true c.is_configuration.ensures c.if-not-is_configuration.false)
    in
    wrote_as (is_version c.args.form && image) (λ v q. configuration_plan v q) c.args.dst.now _ c.write_configuration-written.result right
    c.in-Some.ensures.1 c.configuration_in.ensures c.write_configuration-written.ensures c.store_length.ensures.number
    c.store_length.ensures.length
