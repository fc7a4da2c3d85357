-- One law for each way out; the parts before one are no longer than the range.
use Rattle.address_journal.proofs.Shares.{first-over, size-over, fixture-none, fixture-over, part-is}
use Rattle.address_journal.proofs.share.part_of.Goals as goal

pub returns-then-first-gt65536 : goal.returns-then-first-gt65536
returns-then-first-gt65536 c =
    first-over c.args.first c.args.size c.args.fixture c.args.fixtures c.if-first-gt65536.true c.no_part.result c.no_part.ensures

pub returns-then-size-gt4096 : goal.returns-then-size-gt4096
returns-then-size-gt4096 c =
    let a = c.args in
    size-over a.first a.size a.fixture a.fixtures c.if-first-gt65536.false c.if-size-gt4096.true c.no_part-then-size-gt4096.result
    c.no_part-then-size-gt4096.ensures

pub returns-then-fixture-eq0 : goal.returns-then-fixture-eq0
returns-then-fixture-eq0 c =
    let a = c.args in
    fixture-none a.first a.size a.fixture a.fixtures c.if-first-gt65536.false c.if-size-gt4096.false c.if-fixture-eq0.true
    c.no_part-then-fixture-eq0.result
    c.no_part-then-fixture-eq0.ensures

pub returns-then-fixtures-fixture : goal.returns-then-fixtures-fixture
returns-then-fixtures-fixture c =
    let a = c.args in
    fixture-over a.first a.size a.fixture a.fixtures c.if-first-gt65536.false c.if-size-gt4096.false c.if-fixture-eq0.false
    c.if-fixtures-fixture.true
    c.no_part-then-fixtures-fixture.result c.no_part-then-fixtures-fixture.ensures

pub returns : goal.returns
returns c =
    let a = c.args in
    part-is a.first a.size a.fixture a.fixtures c.if-first-gt65536.false c.if-size-gt4096.false c.if-fixture-eq0.false
    c.if-fixtures-fixture.false
