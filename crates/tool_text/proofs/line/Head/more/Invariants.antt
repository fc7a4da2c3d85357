-- What is left of the part gets shorter with each word, and is never longer than the part.
use Rattle.std.proofs.Common.{◌≤◌, length}
use Rattle.tool_text.proofs.line.Head.more.Given as goal

abbrev pub invariant-loop-word : goal.invariant-loop-word
invariant-loop-word l = length l.left ≤ length l.part

abbrev pub decreases-loop-word : goal.decreases-loop-word
decreases-loop-word l = length l.left
