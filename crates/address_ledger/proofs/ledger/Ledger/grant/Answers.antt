-- The verdict decides, as in the definition; an accepted range has the places that count.
use mathlib.Core.Path.{sym, ◌∙◌}
use lib.ListN.{length}
use Rattle.address_ledger.proofs.range.Judged.{usable, counted_is}
use Rattle.address_ledger.proofs.Calls.{grant-refused, grant-accepted}
use Rattle.address_ledger.proofs.ledger.Ledger.grant.Goals as goal

pub grant_in-requires : goal.grant_in-requires
grant_in-requires c =
    let accepted = sym c.in-Ok.is ∙ c.judge.ensures in
    let n =
    counted_is c.args.self.first c.args.self.size (length c.args.memory.now) accepted c.count.result c.count.ensures in
    usable c.args.self.first c.args.self.size (length c.args.memory.now) accepted c.count.result n

pub returns-in-Err : goal.returns-in-Err
returns-in-Err c =
    grant-refused c.args.self c.args.memory.now c.args.board c.in-Err.refusal (sym c.in-Err.is ∙ c.judge.ensures) c.refused.result
    c.refused.ensures

pub returns-in-Ok : goal.returns-in-Ok
returns-in-Ok c =
    let accepted = sym c.in-Ok.is ∙ c.judge.ensures in
    let n = counted_is c.args.self.first c.args.self.size (length c.args.memory.now) accepted c.count.result c.count.ensures in
    grant-accepted c.args.self c.args.memory.now c.args.board accepted c.count.result n _ c.grant_in.ensures
