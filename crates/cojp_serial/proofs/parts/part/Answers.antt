-- Where the course is open, the bytes are copied to the part of the store behind those that arrived.
use mathlib.Core.Path.{sym}
use native.Mathlib.Omega.{arith}
use lib.ListN.{length, length-drop, length-take}
use Rattle.cojp_serial.proofs.Courses.{open-fits}
use Rattle.cojp_serial.proofs.parts.part.Goals as goal

pub slice_bounds-copy_bytes-count : goal.slice_bounds-copy_bytes-count
slice_bounds-copy_bytes-count c =
    let f = open-fits c.args.arrival (length c.args.store.now) (length c.args.sent.now) (sym c.in-Open.ensures) in
    omega (arith, f.room, f.store)

pub slice_bounds-copy_bytes-start : goal.slice_bounds-copy_bytes-start
slice_bounds-copy_bytes-start c =
    let f = open-fits c.args.arrival (length c.args.store.now) (length c.args.sent.now) (sym c.in-Open.ensures) in
    omega (arith, f.room, f.store)

pub copy_bytes-n-requires : goal.copy_bytes-n-requires
copy_bytes-n-requires c =
    let f = open-fits c.args.arrival (length c.args.store.now) (length c.args.sent.now) (sym c.in-Open.ensures) in
    simp (length-take, length-drop) (omega (arith, f.room, f.store))
