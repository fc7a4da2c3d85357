-- At most eight keys; then they are asked one after the other.
use Prim.Native.Nat.{◌+◌, ◌≤◌}
use native.Mathlib.Omega.{arith}
use lib.ListN.{length}
use Rattle.capi_judge.proofs.Together.{too_many, set_told, set-noted}
use Rattle.capi_judge.proofs.sets.set_joins.Goals as goal

pub returns-then-count-gt8-clause-told : goal.returns-then-count-gt8-clause-told
returns-then-count-gt8-clause-told c =
    too_many c.args.src.now c.args.at c.from-count.result c.from-count.ensures (omega (arith, c.requires)) c.if-count-gt8.true _

pub returns-clause-told : goal.returns-clause-told
returns-clause-told c =
    let h : c.args.at + 1 ≤ length c.args.src.now = omega (arith, c.requires) in
    set_told c.args.src.now c.args.at c.from-count.result c.from-count.ensures h c.args.allowed c.args.seen.now
    c.if-count-gt8.false c.keys_join.ensures.told

pub returns-clause-after : goal.returns-clause-after
returns-clause-after c =
    let h : c.args.at + 1 ≤ length c.args.src.now = omega (arith, c.requires) in
    λ e. set-noted c.args.src.now c.args.at c.from-count.result c.from-count.ensures h c.args.seen.now c.if-count-gt8.false
    (c.keys_join.ensures.after e)
