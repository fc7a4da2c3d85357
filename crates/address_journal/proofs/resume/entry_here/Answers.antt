-- The kind decides.
use Rattle.address_journal.proofs.Steps.{here-grant, here_back, here-none}
use Rattle.std.specs.Prelude.{None}
use Rattle.address_journal.proofs.resume.entry_here.Goals as goal

pub returns-then-kind-eq1 : goal.returns-then-kind-eq1
returns-then-kind-eq1 c =
    let a = c.args in
    here-grant a.kind a.ledger a.memory.now a.board a.check _ c.grant_due.result c.if-kind-eq1.true c.entry_of.ensures
    c.grant_due.ensures

pub returns-then-kind-eq2 : goal.returns-then-kind-eq2
returns-then-kind-eq2 c =
    let a = c.args in
    here_back a.kind a.ledger a.memory.now a.board a.check _ c.back_due.result c.if-kind-eq1.false c.if-kind-eq2.true
    c.entry_of-then-kind-eq2.ensures c.back_due.ensures

pub returns : goal.returns
returns c =
    let a = c.args in
    here-none a.kind a.ledger a.memory.now a.board a.check _ None c.if-kind-eq1.false c.if-kind-eq2.false c.entry_of-2.ensures
