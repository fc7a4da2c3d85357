-- The keys that are left are judged, the first of them first.
use Rattle.std.proofs.Common.{sym, ◌∙◌}
use Rattle.image.specs.PartLemmas.{none_judged, bad_judged, good_judged, all_judged}
use Rattle.key_image.specs.Key.{key_part}
use Rattle.key_image.proofs.key_set.are_keys.Goals as goal

pub loop-i-init : goal.loop-i-init
loop-i-init c = none_judged key_part c.args.src.now c.args.at 8

pub returns-then-not-is_key : goal.returns-then-not-is_key
returns-then-not-is_key c =
    bad_judged key_part c.args.src.now c.args.at 8 c.loop-i.i c.loop-i-test.true c.loop-i.invariant
    (sym c.is_key.ensures ∙ c.if-not-is_key.true)

pub loop-i-preserved : goal.loop-i-preserved
loop-i-preserved c =
    good_judged key_part c.args.src.now c.args.at 8 c.loop-i.i c.loop-i-test.true c.loop-i.invariant
    (sym c.is_key.ensures ∙ c.if-not-is_key.false)

pub returns : goal.returns
returns c = all_judged key_part c.args.src.now c.args.at 8 c.loop-i.i c.loop-i-test.false c.loop-i.invariant
