-- One end for each answer (proofs/Ends.antt); what was read lies inside the trace (proofs/Rooms.antt).
use Rattle.trace_record.proofs.Ends.{at-end, at_cut, at-record}
use Rattle.trace_record.proofs.Rooms.{read_at}
use Rattle.trace_record.proofs.entries.entry_at.Goals as goal

pub returns-then-s-at : goal.returns-then-s-at
returns-then-s-at c = let a = c.args in
    read_at a.s.now a.at _ (at-end a.s.now a.at c.if-s-at.true)

pub returns-then-s-body : goal.returns-then-s-body
returns-then-s-body c =
    let a = c.args in
    read_at a.s.now a.at _
    (at_cut a.s.now a.at c.if-s-at.false (rw c.body_size.ensures at c.if-s-body.true))

pub returns : goal.returns
returns c =
    let a = c.args in
    read_at a.s.now a.at _
    (at-record a.s.now a.at c.if-s-at.false _ (rw c.body_size.ensures at c.if-s-body.false)
    c.fields_at.ensures)
