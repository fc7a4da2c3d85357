-- The verdict decides, then whether the address counts.
use Rattle.std.proofs.Common.{◌≡◌, refl, arith, length}
use Rattle.std.proofs.lemmas.Result.{err_from_is_err_and}
use Rattle.address_ledger.specs.range.Range.{counted, Usable}
use Rattle.address_ledger.proofs.range.Judged.{usable, counted_is}
use Rattle.address_journal.proofs.Holding.{holder-refused, holder-below, holder-above, holder-inside}
use Rattle.address_journal.proofs.held.holder_of.Goals as goal
use Rattle.address_journal.proofs.held.holder_of.Goals.{After-count-n}

number : (c : After-count-n) → c.count-n.result ≡ counted c.args.ledger.first c.args.ledger.size
number c =
    let l = c.args.ledger in
    counted_is l.first l.size (length c.args.memory.now) c.in_ok-judge.ensures c.count-n.result c.count-n.ensures

room : (c : After-count-n) → Usable c.args.ledger.first (length c.args.memory.now) c.count-n.result
room c =
    let l = c.args.ledger in
    usable l.first l.size (length c.args.memory.now) c.in_ok-judge.ensures c.count-n.result (number c)

pub returns-in_err-judge : goal.returns-in_err-judge
returns-in_err-judge c =
    let a = c.args in
    let p = err_from_is_err_and c.from_residual.result c.from_residual.ensures.1 in
    rw (p.1, p.2) (holder-refused a.ledger a.memory.now a.address _ c.in_err-judge.field-0.0 c.in_err-judge.ensures refl)

pub returns-then-address-ledger : goal.returns-then-address-ledger
returns-then-address-ledger c =
    let a = c.args in
    let n = number (goal.at.returns-then-address-ledger c).After-count-n in
    holder-below a.ledger a.memory.now a.address _ c.in_ok-judge.ensures c.count-n.result n c.if-address-ledger.true refl

pub returns-then-n-slot : goal.returns-then-n-slot
returns-then-n-slot c =
    let a = c.args in
    let n = number (goal.at.returns-then-n-slot c).After-count-n in
    holder-above a.ledger a.memory.now a.address _ c.in_ok-judge.ensures c.count-n.result n c.if-address-ledger.false
    c.if-n-slot.true refl

pub holder_in-requires-clause-slot_in_bounds : goal.holder_in-requires-clause-slot_in_bounds
holder_in-requires-clause-slot_in_bounds c =
    let u = room (goal.at.holder_in-requires-clause-slot_in_bounds c).After-count-n in
    omega (arith, u.room, c.if-address-ledger.false, c.if-n-slot.false)

pub holder_in-requires-clause-slot_bound : goal.holder_in-requires-clause-slot_bound
holder_in-requires-clause-slot_bound c =
    let u = room (goal.at.holder_in-requires-clause-slot_bound c).After-count-n in
    omega (arith, u.size, c.if-address-ledger.false, c.if-n-slot.false)

pub returns : goal.returns
returns c =
    let a = c.args in
    let n = number (goal.at.returns c).After-count-n in
    holder-inside a.ledger a.memory.now a.address _ c.in_ok-judge.ensures c.count-n.result n c.if-address-ledger.false
    c.if-n-slot.false c.holder_in.ensures
