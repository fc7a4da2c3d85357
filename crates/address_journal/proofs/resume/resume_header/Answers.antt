-- One law for each way out.
use mathlib.Core.Path.{refl, sym, ◌∙◌}
use Rattle.address_journal.proofs.Steps.{header-short, header-zeros, header-taken, header-damaged}
use Rattle.address_journal.proofs.resume.resume_header.Goals as goal

pub returns-then-header-lt16 : goal.returns-then-header-lt16
returns-then-header-lt16 c =
    header-short c.args.memory.now c.args.header.now c.stopped.result _ refl c.if-header-lt16.true
    c.stopped.ensures

pub returns-then-same_bytes : goal.returns-then-same_bytes
returns-then-same_bytes c =
    let a = c.args in
    header-zeros a.memory.now a.header.now c.stopped-then-same_bytes.result _ refl c.if-header-lt16.false
    (sym c.if-same_bytes.true ∙ c.same_bytes.ensures) c.stopped-then-same_bytes.ensures

pub returns-then-same_bytes-2 : goal.returns-then-same_bytes-2
returns-then-same_bytes-2 c =
    header-taken c.args.memory.now c.args.header.now c.if-header-lt16.false (sym c.if-same_bytes.false ∙ c.same_bytes.ensures)
    c.two_at-first.result c.two_at-first.ensures c.two_at-size.result c.two_at-size.ensures c.header_of.result c.header_of.ensures
    (sym c.if-same_bytes-2.true ∙ c.same_bytes-2.ensures) _ c.begin.ensures

pub returns : goal.returns
returns c =
    let a = c.args in
    header-damaged a.memory.now a.header.now c.stopped-2.result _ refl c.if-header-lt16.false
    (sym c.if-same_bytes.false ∙ c.same_bytes.ensures)
    c.two_at-first.result c.two_at-first.ensures c.two_at-size.result c.two_at-size.ensures c.header_of.result c.header_of.ensures
    (sym c.if-same_bytes-2.false ∙ c.same_bytes-2.ensures) c.stopped-2.ensures
