-- The keys so far stand before the groups that are left, and the set holds them or is overfull.
use Rattle.cojp_key_set.proofs.KeySets.{Gathering}
use Rattle.cojp_key_set.proofs.gather_keys.Given as goal

abbrev pub invariant-loop-remaining : goal.invariant-loop-remaining
invariant-loop-remaining l =
    Gathering l.allowed l.s l.from l.count l.at l.remaining (record { count = l.n; keys = l.keys }) l.seen

abbrev pub decreases-loop-remaining : goal.decreases-loop-remaining
decreases-loop-remaining l = l.remaining
