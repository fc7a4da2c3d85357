-- From each index on the search has the answer that it has from the first.
use Rattle.capi_node.proofs.Serving.{Searched}
use Rattle.capi_node.proofs.serve.serving_in.Given as goal

abbrev pub invariant-loop-i : goal.invariant-loop-i
invariant-loop-i l = Searched l.s l.frame_type l.i-end l.i
