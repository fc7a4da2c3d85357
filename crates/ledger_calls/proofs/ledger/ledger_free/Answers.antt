-- The image comes first; then the question is the ledger's own.
use mathlib.Core.Path.{refl, sym, ap, ◌∙◌}
use Rattle.address_ledger.specs.Ledger.{free_count}
use Rattle.lemmas.specs.logic.Tests.{is_true}
use Rattle.ledger_calls.proofs.Ledgers.{counted}
use Rattle.ledger_calls.proofs.ledger.ledger_free.Goals as goal

pub returns-in-Ok : goal.returns-in-Ok
returns-in-Ok c =
    let image = is_true c.is_ledger.ensures c.if-not-is_ledger.false in
    let e = sym c.in-Ok.is ∙ c.free.ensures ∙ ap free_count c.ledger_in.ensures in
    counted c.args.ledger.now _ image e refl refl

pub returns-in-Err : goal.returns-in-Err
returns-in-Err c =
    let image = is_true c.is_ledger.ensures c.if-not-is_ledger.false in
    let e = sym c.in-Err.is ∙ c.free.ensures ∙ ap free_count c.ledger_in.ensures in
    counted c.args.ledger.now _ image e c.number.ensures refl
