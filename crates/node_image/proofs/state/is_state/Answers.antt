-- The bytes of each part are judged where those before it are good.
use mathlib.Core.Path.{refl}
use Rattle.key_image.specs.Key.{counted_set_part}
use Rattle.node_image.specs.PlaceLemmas.{next-good}
use Rattle.node_image.specs.Attempt.{attempt_part}
use Rattle.node_image.specs.Node.{sets_part}
use Rattle.node_image.proofs.state.is_state.Goals as goal

pub returns-then-is_counted_set : goal.returns-then-is_counted_set
returns-then-is_counted_set c =
    let s = c.args.s.now in
    let sets = next-good counted_set_part counted_set_part s 29 278 refl c.is_counted_set.ensures c.if-is_counted_set.true
    c.is_counted_set-then-is_counted_set.ensures in
    next-good attempt_part sets_part s 3 29 refl c.is_attempt.ensures c.if-is_attempt.true sets
