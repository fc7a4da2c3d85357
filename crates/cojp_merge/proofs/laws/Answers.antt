-- By cases on reports; equal values from how readings are made.
use Rattle.cojp_merge.proofs.Exact.{reads-exactly}
use Rattle.cojp_merge.proofs.Merging.{associative, neutral-first, neutral-second, in-range, refused}
use Rattle.cojp_merge.proofs.laws.Goals as goal

pub returns : goal.returns
returns c = record {
  associative = associative;
  neutral-first = neutral-first;
  neutral-second = neutral-second;
  in-range = in-range;
  refused = refused;
  exact = reads-exactly;
}
