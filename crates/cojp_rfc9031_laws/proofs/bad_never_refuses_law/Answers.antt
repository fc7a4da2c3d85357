-- What the labels say is what the readers say: proofs/Verdicts.antt.
use Rattle.cojp_rfc9031_laws.proofs.Verdicts.{bad-never-refuses}
use Rattle.cojp_rfc9031_laws.proofs.bad_never_refuses_law.Goals as goal

pub returns : goal.returns
returns c = bad-never-refuses
