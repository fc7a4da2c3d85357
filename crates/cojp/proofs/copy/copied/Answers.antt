-- There are such bytes, and they stand over the first zeros.
use Rattle.std.proofs.Common.{arith}
use Rattle.cojp.proofs.Strings.{copied-over}
use Rattle.cojp.proofs.copy.copied.Goals as goal

pub returns : goal.returns
returns c =
    let a = c.args in
    copied-over a.s.now a.at a.n _ _ c.copy_from_slice.ensures.after (omega arith) c.if-n-gt16.false
    (omega (arith, c.if-s-at.false, c.if-s-at-2.false))
