-- Part by part: proofs/WrittenBack.antt.
use Rattle.cojp_rfc9031_laws.proofs.WrittenBack.{written_back}
use Rattle.cojp_rfc9031_laws.proofs.written_back_law.Goals as goal

pub returns : goal.returns
returns c =
    written_back c.laws.ensures c.head_laws.ensures c.reads_in_range_law.ensures
    c.strict_readers_law.ensures
