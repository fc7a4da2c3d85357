-- Each field stands at its place.
use mathlib.Core.Path.{ap, refl}
use Rattle.key_image.specs.Key.{counted_set_part}
use Rattle.node_image.specs.PlaceLemmas.{next-got}
use Rattle.node_image.specs.Node.{sets_to}
use Rattle.node_image.proofs.state.sets_at.Goals as goal

pub returns : goal.returns
returns c =
    ap sets_to
    (next-got counted_set_part counted_set_part c.args.s.now 29 278 refl c.counted_set_at.ensures
    c.counted_set_at-2.ensures)
