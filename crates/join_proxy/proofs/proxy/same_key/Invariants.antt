-- The invariant: the bits found to differ so far, and whether the rest is the same, say whether the keys are.
use Rattle.std.proofs.Common.{length}
use Rattle.lemmas.specs.lists.SameLemmas.{Comparing}
use Rattle.join_proxy.proofs.proxy.same_key.Given as goal

abbrev pub invariant-loop-x : goal.invariant-loop-x
invariant-loop-x l = Comparing 16 l.fn.a l.fn.b l.d (length l.yielded)
