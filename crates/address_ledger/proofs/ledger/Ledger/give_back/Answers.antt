-- The verdict decides, as in the definition; an accepted range has the places that count.
use mathlib.Core.Path.{sym, ◌∙◌}
use lib.ListN.{length}
use Rattle.address_ledger.proofs.range.Judged.{usable, counted_is}
use Rattle.address_ledger.proofs.Calls.{back-refused, back-accepted}
use Rattle.address_ledger.proofs.ledger.Ledger.give_back.Goals as goal

pub give_back_in-requires : goal.give_back_in-requires
give_back_in-requires c =
    let accepted = sym c.in-Ok.is ∙ c.judge.ensures in
    let n =
    counted_is c.args.self.first c.args.self.size (length c.args.memory.now) accepted c.count.result c.count.ensures in
    usable c.args.self.first c.args.self.size (length c.args.memory.now) accepted c.count.result n

pub returns-in-Err : goal.returns-in-Err
returns-in-Err c =
    back-refused c.args.self c.args.memory.now c.args.board c.in-Err.refusal (sym c.in-Err.is ∙ c.judge.ensures) c.refused.result
    c.refused.ensures

pub returns-in-Ok : goal.returns-in-Ok
returns-in-Ok c =
    let accepted = sym c.in-Ok.is ∙ c.judge.ensures in
    let n = counted_is c.args.self.first c.args.self.size (length c.args.memory.now) accepted c.count.result c.count.ensures in
    back-accepted c.args.self c.args.memory.now c.args.board accepted c.count.result n _ c.give_back_in.ensures
