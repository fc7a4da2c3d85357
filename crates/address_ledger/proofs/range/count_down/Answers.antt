-- From the end on every number that was passed is no address; the first that is one has only addresses before it.
use Rattle.std.proofs.Common.{sym, ◌∙◌, arith}
use Rattle.address_ledger.specs.range.RangeLemmas.{counted-most}
use Rattle.address_ledger.proofs.range.Counted.{ends-here, goes_on}
use Rattle.address_ledger.proofs.range.count_down.Goals as goal

pub loop-before-init : goal.loop-before-init
loop-before-init c = counted-most c.args.first c.args.size

pub returns-then-is_counted : goal.returns-then-is_counted
returns-then-is_counted c =
    let l = c.loop-before in
    ends-here c.laws.ensures c.args.first c.args.size l.before c.requires (omega arith) l.invariant (omega arith)
    (sym c.is_counted.ensures ∙ c.if-is_counted.true)

pub loop-before-preserved : goal.loop-before-preserved
loop-before-preserved c =
    let l = c.loop-before in
    goes_on c.laws.ensures c.args.first c.args.size l.before c.requires (omega arith) l.invariant (omega arith)
    (sym c.is_counted.ensures ∙ c.if-is_counted.false)
