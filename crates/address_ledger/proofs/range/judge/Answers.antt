-- The limits first, then the memory's length, as in the definition.
use mathlib.Core.Path.{sym, ◌∙◌}
use native.Mathlib.Omega.{arith}
use Rattle.address_ledger.proofs.range.Judged.{outside, memory-short, accepted, within-size}
use Rattle.address_ledger.proofs.range.judge.Goals as goal

pub overflow_mul-size : goal.overflow_mul-size
overflow_mul-size c =
    record { fits = omega (arith, within-size c.args.first c.args.size (sym c.in_limits.ensures ∙ c.if-not-in_limits.false)) }

pub returns-then-len-size : goal.returns-then-len-size
returns-then-len-size c =
    memory-short c.args.first c.args.size c.args.len (sym c.in_limits.ensures ∙ c.if-not-in_limits.false) c.if-len-size.true

pub returns-then-not-in_limits : goal.returns-then-not-in_limits
returns-then-not-in_limits c =
    outside c.args.first c.args.size c.args.len (sym c.in_limits.ensures ∙ c.if-not-in_limits.true)

pub returns : goal.returns
returns c =
    accepted c.args.first c.args.size c.args.len (sym c.in_limits.ensures ∙ c.if-not-in_limits.false) c.if-len-size.false
