-- The invariant: the bits found to differ so far, and whether the rest is the same, say whether the lists are.
use Rattle.std.proofs.Common.{length}
use Rattle.lemmas.specs.lists.SameLemmas.{Comparing}
use Rattle.aes_ccm.proofs.tag.same_tag.Given as goal

abbrev pub invariant-loop-x : goal.invariant-loop-x
invariant-loop-x l = Comparing 8 l.s l.fn.u l.d (length l.yielded)
