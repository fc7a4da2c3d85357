-- What a fixture holds lies in its range.
use Rattle.address_journal_laws.proofs.Fixtures.{apart-fixtures}
use Rattle.address_journal_laws.proofs.apart_fixtures_law.Goals as goal

pub returns : goal.returns
returns c =
    apart-fixtures c.one_holder_law.ensures
