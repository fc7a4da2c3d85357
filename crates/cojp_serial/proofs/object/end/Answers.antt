-- Where the course is open, what arrived is within the store.
use mathlib.Core.Path.{sym}
use native.Mathlib.Omega.{arith}
use lib.ListN.{length}
use lib.Seq.{length-take-le}
use Rattle.cojp_serial.proofs.Courses.{open-fits}
use Rattle.cojp_serial.proofs.object.end.Goals as goal

pub slice_bounds-read-end : goal.slice_bounds-read-end
slice_bounds-read-end g c =
    let f = open-fits c.args.arrival (length c.args.store.now) 0 (sym c.in-Open.ensures) in
    sym (length-take-le c.args.arrival.arrived c.args.store.now (omega (arith, f.room, f.store)))
