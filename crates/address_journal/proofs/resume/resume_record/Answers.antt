-- One law for each way out.
use mathlib.Core.Path.{sym, ◌∙◌}
use Rattle.address_journal.proofs.Steps.{record-short, record-zeros, record-taken, record-other, record-undue}
use Rattle.address_journal.proofs.resume.resume_record.Goals as goal

pub returns-then-bytes-lt16 : goal.returns-then-bytes-lt16
returns-then-bytes-lt16 c =
    let a = c.args in
    record-short a.ledger a.memory.now a.check a.bytes.now c.stopped.result c.if-bytes-lt16.true c.stopped.ensures

pub returns-then-same_bytes : goal.returns-then-same_bytes
returns-then-same_bytes c =
    let a = c.args in
    record-zeros a.ledger a.memory.now a.check a.bytes.now c.stopped-then-same_bytes.result c.if-bytes-lt16.false
    (sym c.if-same_bytes.true ∙ c.same_bytes.ensures) c.stopped-then-same_bytes.ensures

pub returns-in_default : goal.returns-in_default
returns-in_default c =
    let a = c.args in
    record-undue a.ledger a.memory.now a.check a.bytes.now c.stopped-in_default.result c.if-bytes-lt16.false
    (sym c.if-same_bytes.false ∙ c.same_bytes.ensures) c.board_in-board.result c.board_in-board.ensures c.entry_here-entry.result
    c.entry_here-entry.ensures c.in_default.is c.stopped-in_default.ensures

pub returns-then-same_bytes-2 : goal.returns-then-same_bytes-2
returns-then-same_bytes-2 c =
    let a = c.args in
    record-taken a.ledger a.memory.now a.check a.bytes.now c.stopped-then-same_bytes-2.result c.if-bytes-lt16.false
    (sym c.if-same_bytes.false ∙ c.same_bytes.ensures) c.board_in-board.result c.board_in-board.ensures c.entry_here-entry.result
    c.entry_here-entry.ensures c.in-Some.own c.in-Some.is (sym c.if-same_bytes-2.true ∙ c.same_bytes-2.ensures)
    c.call_here-done.result.answer c.call_here-done.result.ledger _ c.call_here-done.ensures c.stopped-then-same_bytes-2.ensures

pub returns : goal.returns
returns c =
    record-other c.args.ledger c.args.memory.now c.args.check c.args.bytes.now c.stopped-2.result c.if-bytes-lt16.false
    (sym c.if-same_bytes.false ∙ c.same_bytes.ensures) c.board_in-board.result c.board_in-board.ensures c.entry_here-entry.result
    c.entry_here-entry.ensures c.in-Some.own c.in-Some.is (sym c.if-same_bytes-2.false ∙ c.same_bytes-2.ensures) c.stopped-2.ensures
