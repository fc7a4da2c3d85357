-- After the groups above are surveyed, what was counted and marked is theirs.
use Rattle.address_slots.proofs.SummaryLaws.{Surveyed}
use Rattle.address_slots.proofs.groups.summarize_in.Given as goal

abbrev pub invariant-loop-group : goal.invariant-loop-group
invariant-loop-group l = Surveyed l.count l.memory l.free l.marks l.group
