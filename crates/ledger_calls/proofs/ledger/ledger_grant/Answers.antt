-- The board's length and the image come first; then the call is the ledger's own.
use Rattle.std.proofs.Common.{ap, ◌∙◌, List, ℕ}
use Rattle.address_ledger.specs.declared.ledger.Ledger.{Ledger}
use Rattle.address_ledger.specs.Ledger.{granted}
use Rattle.address_ledger_laws.specs.Demand1.{asking}
use Rattle.state_image.specs.Ledger.{ledger_image}
use Rattle.ledger_calls.proofs.Ledgers.{is_lent, not-lent, told, asked, unfit}
use Rattle.ledger_calls.proofs.ledger.ledger_grant.Goals as goal

pub returns-in_default : goal.returns-in_default
returns-in_default c =
    unfit (asking c.args.board.now) c.args.ledger.now c.args.memory.now (not-lent c.args.ledger.now c.args.board.now c.in_default.ensures)

pub returns : goal.returns
returns c =
    let s = c.args.ledger.now in
    let m = c.args.memory.now in
    let b = c.args.board.now in
    let both = is_lent s b _ c.in-Some.ensures in
    let same = c.grant-done.ensures
    ∙ ap (λ (p : Ledger × List ℕ). granted p.0 m p.1) both.1 in
    let performed = asked (ledger_image.get s) m b c.grant-done.result _ same in
    told (asking b) s m c.demand1.ensures _ both.0 performed c.store_address.ensures.number c.store_address.ensures.image
    c.store_address.ensures.address
