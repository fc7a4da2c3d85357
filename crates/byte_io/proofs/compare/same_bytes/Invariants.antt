-- The bytes before index i agree, so the slices are the same exactly if the rest of each is.
use Rattle.std.specs.Prelude.{◌≡◌, drop}
use Rattle.lemmas.specs.lists.Same.{same}
use Rattle.byte_io.proofs.compare.same_bytes.Given as goal

abbrev pub invariant-loop-i : goal.invariant-loop-i
invariant-loop-i l = same l.a l.b ≡ same (drop l.i l.a) (drop l.i l.b)
