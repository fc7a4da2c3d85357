-- From the end on every number that was passed is no address; the first that is one has only addresses before it.
use Rattle.std.proofs.Common.{◌≤◌}
use Rattle.address_ledger.specs.range.Range.{counted}
use Rattle.address_ledger.proofs.range.count_down.Given as goal

abbrev pub invariant-loop-before : goal.invariant-loop-before
invariant-loop-before l = counted l.first l.size ≤ l.before
