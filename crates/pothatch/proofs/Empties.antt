-- A part got from zeros has zeros in every field, and zero stands for absent and for none.
use mathlib.Core.Path.{refl}
use Rattle.byte_io.specs.BigEndian.{digits}
use Rattle.pothatch.specs.Laws.{EmptiedIsEmpty}

pub emptied-is-empty : EmptiedIsEmpty
unfolding digits
emptied-is-empty =
    record {
      request = refl;
      configuration = refl;
      node = refl;
      reports = refl;
      frame-key = refl;
      ledger = refl;
      pledge = refl;
    }
