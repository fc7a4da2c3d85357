-- Each call does to the image what the call on the arrival does to the arrival, and images are loaded as they were stored.
use Rattle.pothatch_laws.proofs.Arriving.{serial-runs}
use Rattle.pothatch_laws.proofs.serial_runs_law.Goals as goal

pub returns : goal.returns
returns c = serial-runs c.laws.ensures.serial
