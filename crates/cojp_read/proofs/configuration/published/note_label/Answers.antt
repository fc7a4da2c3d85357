-- A label that names a parameter is at most 7.
use Prim.Native.Nat.{◌<◌}
use native.Mathlib.Omega.{arith}
use Rattle.cojp_read.proofs.configuration.Labels.{named, named-few}
use Rattle.cojp_read.proofs.configuration.published.note_label.Goals as goal

pub overflow_cast-label : goal.overflow_cast-label
overflow_cast-label c =
    let few : c.args.label < 8 =
    named-few c.args.version c.args.label (rw (← c.parameter_of.ensures) (named c.parameter_of.result c.in_default.not-Unknown-1)) in
    omega (arith, few)
