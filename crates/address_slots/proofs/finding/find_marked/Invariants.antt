-- Where no group so far was marked and had a free place, the search goes on as from the start.
use Rattle.address_slots.proofs.Passing.{Passed}
use Rattle.address_slots.proofs.finding.find_marked.Given as goal

abbrev pub invariant-loop-group : goal.invariant-loop-group
invariant-loop-group l = Passed l.count l.memory l.marks l.left l.group
