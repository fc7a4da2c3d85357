-- The struct's length and the two images come first; then the configurations in them are joined.
use native.Mathlib.Omega.{arith}
use mathlib.Core.Bool.{◌&&◌}
use mathlib.Core.Path.{ap₂, ◌∙◌}
use Rattle.cojp_merge.specs.Merge.{merge_answer}
use Rattle.lemmas.specs.logic.Tests.{both, is_false, is_true}
use Rattle.image.proofs.Lent.{long, hands-unfit, hands_none}
use Rattle.image.specs.Part.{is_image}
use Rattle.object_image.specs.Configuration.{configuration_image}
use Rattle.payload_calls.proofs.Answers.{hands-as, not_first, not-second}
use Rattle.payload_calls.specs.Merge.{merged_in}
use Rattle.payload_calls.proofs.merge.configuration_merge.Goals as goal

pub returns-then-out-ne570 : goal.returns-then-out-ne570
returns-then-out-ne570 c =
    hands-unfit 570 (is_image configuration_image c.args.first.now && is_image configuration_image c.args.second.now)
    (merged_in c.args.first.now c.args.second.now).verdict
    (configuration_image.put (merged_in c.args.first.now c.args.second.now).configuration)
    c.args.out.now
    c.if-out-ne570.true

pub returns-then-not-is_configuration : goal.returns-then-not-is_configuration
returns-then-not-is_configuration c =
    hands_none 570 (is_image configuration_image c.args.first.now && is_image configuration_image c.args.second.now)
    (merged_in c.args.first.now c.args.second.now).verdict
    (configuration_image.put (merged_in c.args.first.now c.args.second.now).configuration)
    c.args.out.now
    (omega arith)
    (not_first (is_image configuration_image c.args.first.now) (is_image configuration_image c.args.second.now)
    (is_false c.is_configuration.ensures c.if-not-is_configuration.true))
    c.clear.ensures

pub returns-then-not-is_configuration-2 : goal.returns-then-not-is_configuration-2
returns-then-not-is_configuration-2 c =
    hands_none 570 (is_image configuration_image c.args.first.now && is_image configuration_image c.args.second.now)
    (merged_in c.args.first.now c.args.second.now).verdict
    (configuration_image.put (merged_in c.args.first.now c.args.second.now).configuration)
    c.args.out.now
    (omega arith)
    (not-second (is_image configuration_image c.args.first.now) (is_image configuration_image c.args.second.now)
    (is_false c.is_configuration-2.ensures c.if-not-is_configuration-2.true))
    c.clear-then-not-is_configuration-2.ensures

pub configuration_in-requires : goal.configuration_in-requires
configuration_in-requires c =
    long configuration_image c.args.first.now (is_true c.is_configuration.ensures c.if-not-is_configuration.false)

pub configuration_in-requires-2 : goal.configuration_in-requires-2
configuration_in-requires-2 c =
    long configuration_image c.args.second.now (is_true c.is_configuration-2.ensures c.if-not-is_configuration-2.false)

pub returns : goal.returns
returns c =
    let right =
    both (is_image configuration_image c.args.first.now) (is_image configuration_image c.args.second.now)
    (is_true c.is_configuration.ensures c.if-not-is_configuration.false)
    (is_true c.is_configuration-2.ensures c.if-not-is_configuration-2.false)
    in
    let same = c.merge-merged.ensures ∙ ap₂ (λ x y. merge_answer x y) c.configuration_in.ensures c.configuration_in-2.ensures in
    hands-as 570 (is_image configuration_image c.args.first.now && is_image configuration_image c.args.second.now) (λ m. m.verdict)
    (λ m. configuration_image.put m.configuration) c.args.out.now
    c.merge-merged.result (merged_in c.args.first.now c.args.second.now) (omega arith) right same
    c.store_configuration.ensures.number c.store_configuration.ensures.out
