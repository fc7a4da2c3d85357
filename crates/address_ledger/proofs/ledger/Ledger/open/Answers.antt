-- The verdict decides, as in the definition; an accepted range has room for the places that are counted.
use mathlib.Core.Path.{sym, ◌∙◌}
use lib.ListN.{length}
use Rattle.address_slots.proofs.Fit.{fit_all}
use Rattle.address_ledger.proofs.range.Judged.{usable, counted_is}
use Rattle.address_ledger.proofs.Calls.{open-refused, open-accepted}
use Rattle.address_ledger.proofs.ledger.Ledger.open.Goals as goal

pub returns-in-Err : goal.returns-in-Err
returns-in-Err c =
    open-refused c.args.first c.args.size c.args.memory.now c.in-Err.refusal (sym c.in-Err.is ∙ c.judge.ensures)

pub returns : goal.returns
returns c =
    let accepted = c.in_default.ensures in
    let n = counted_is c.args.first c.args.size (length c.args.memory.now) accepted c.count.result c.count.ensures in
    let places = usable c.args.first c.args.size (length c.args.memory.now) accepted c.count.result n in
    open-accepted c.args.first c.args.size c.args.memory.now accepted c.count.result n c.summarize-found.result
    (rw (fit_all c.count.result (length c.args.memory.now) places.size places.room) c.summarize-found.ensures)
