-- Whether a record is due decides.
use Rattle.address_journal.proofs.Recording.{entry-record, entry-none}
use Rattle.address_journal.proofs.due.entry_of.Goals as goal

pub returns-in-Some : goal.returns-in-Some
returns-in-Some c =
    let a = c.args in
    entry-record a.kind a.board a.previous a.due _ c.in-Some.is c.check_of-check.result c.check_of-check.ensures
    c.record_with.result c.record_with.ensures

pub returns-in-None : goal.returns-in-None
returns-in-None c = entry-none c.args.kind c.args.board c.args.previous c.args.due c.in-None.is
