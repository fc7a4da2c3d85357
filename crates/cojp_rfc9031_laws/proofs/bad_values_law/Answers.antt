-- Row by row: proofs/BadValues.antt.
use Rattle.cojp_rfc9031_laws.proofs.BadValues.{bad-values}
use Rattle.cojp_rfc9031_laws.proofs.bad_values_law.Goals as goal

pub returns : goal.returns
returns c = bad-values
