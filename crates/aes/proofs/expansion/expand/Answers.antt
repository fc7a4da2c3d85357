-- The invariant: round keys 0 to n stand in place, and rc is the constant of the next.
use mathlib.Core.Path.{refl}
use Rattle.aes.proofs.RoundKeys.{expand-begin, expand-step}
use Rattle.aes.proofs.expansion.expand.Goals as goal

pub loop-n-init : goal.loop-n-init
loop-n-init c = (c.substitution-list.ensures, expand-begin c.args.key _ refl refl)

pub loop-n-preserved : goal.loop-n-preserved
loop-n-preserved c =
    let turn = c.loop-n in (
      turn.invariant.0,
      expand-step turn.invariant.1 c.loop-n-test.true c.next_key.ensures c.times_x-rc.ensures,
    )
