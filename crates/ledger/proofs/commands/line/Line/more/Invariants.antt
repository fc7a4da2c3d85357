-- What is left of the part gets shorter with each word.
use Rattle.std.proofs.Common.{length}
use Rattle.ledger.proofs.commands.line.Line.more.Given as goal

abbrev pub decreases-loop-left : goal.decreases-loop-left
decreases-loop-left l = length l.left
