-- The first byte of the additional information tells whether there is some.
use mathlib.Core.Path.{sym}
use Rattle.capi_judge.proofs.Keys.{plain-so}
use Rattle.capi_judge.proofs.sets.info_allowed.Goals as goal

pub returns-else-allowed : goal.returns-else-allowed
returns-else-allowed c =
    rw c.if-allowed.false (sym (plain-so c.args.src.now c.args.at))
