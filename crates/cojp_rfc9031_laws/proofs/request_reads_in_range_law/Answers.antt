-- Value by value: proofs/RequestLimits.antt.
use Rattle.cojp_rfc9031_laws.proofs.RequestLimits.{reads-in-range}
use Rattle.cojp_rfc9031_laws.proofs.request_reads_in_range_law.Goals as goal

pub returns : goal.returns
returns c = reads-in-range c.laws.ensures c.head_laws.ensures c.strict_readers_law.ensures
