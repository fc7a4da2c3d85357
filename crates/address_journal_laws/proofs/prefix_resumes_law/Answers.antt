-- A prefix is a whole journal and an end.
use Rattle.address_journal_laws.proofs.Prefixes.{prefixes}
use Rattle.address_journal_laws.proofs.prefix_resumes_law.Goals as goal

pub returns : goal.returns
returns c =
    prefixes (record { moves = c.count_moves_law.ensures; stored = c.bytes_written_law.ensures; refusals = c.demand1.ensures })
