-- RANGE alone is asked; then the kept count is the answer.
use mathlib.Core.Path.{sym, ◌∙◌}
use Rattle.address_ledger.proofs.Calls.{free-within, free-outside}
use Rattle.address_ledger.proofs.ledger.Ledger.free.Goals as goal

pub returns-then-in_limits : goal.returns-then-in_limits
returns-then-in_limits c =
    free-within c.args.self (sym c.if-in_limits.true ∙ c.in_limits.ensures)

pub returns : goal.returns
returns c =
    free-outside c.args.self (sym c.if-in_limits.false ∙ c.in_limits.ensures)
