-- The program is as the calls that last leave it.
use Rattle.address_journal_laws.proofs.Cuts.{power-cuts}
use Rattle.address_journal_laws.proofs.power_cuts_law.Goals as goal

pub returns : goal.returns
returns c =
    power-cuts (record { moves = c.count_moves_law.ensures; stored = c.bytes_written_law.ensures; refusals = c.demand1.ensures })
    c.one_holder_law.ensures c.same_address_law.ensures
