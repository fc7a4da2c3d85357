-- Each field stands at its place.
use Prim.Native.Nat.{◌+◌}
use mathlib.Core.Path.{ap}
use native.Mathlib.Omega.{arith}
use Rattle.image.specs.Part.{number, both}
use Rattle.object_image.specs.Address.{short_address_part}
use Rattle.object_image.specs.Codes.{bool_part}
use Rattle.node_image.specs.PlaceLemmas.{next-got}
use Rattle.node_image.specs.Held.{held_address_to}
use Rattle.node_image.proofs.held.held_address_at.Goals as goal

pub returns : goal.returns
returns c =
    let s = c.args.src.now in
    let rest = next-got short_address_part (number 8) s (c.args.at + 1) (c.args.at + 12) (omega arith)
    c.short_address_at.ensures c.number_at.ensures in
    ap held_address_to
    (next-got bool_part (both short_address_part (number 8)) s c.args.at (c.args.at + 1) (omega arith) c.bool_at.ensures rest)
