-- The kind decides.
use Rattle.address_journal.proofs.Steps.{call-grant, call_back}
use Rattle.address_journal.proofs.resume.call_here.Goals as goal

pub returns-then-kind-eq1 : goal.returns-then-kind-eq1
returns-then-kind-eq1 c =
    call-grant c.args.kind c.args.ledger c.args.memory.now c.args.board c.if-kind-eq1.true _ c.grant.ensures

pub returns : goal.returns
returns c =
    call_back c.args.kind c.args.ledger c.args.memory.now c.args.board c.if-kind-eq1.false _ c.give_back.ensures
