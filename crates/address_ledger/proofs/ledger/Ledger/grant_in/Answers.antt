-- What was found decides, as in the definition, and a place that was found is one of the counted ones.
use mathlib.Core.Path.{ap}
use native.Mathlib.Omega.{arith}
use Rattle.address_slots.proofs.Fit.{hold-all}
use Rattle.address_slots.proofs.Offers.{held-inside, free-inside-of}
use Rattle.address_ledger.specs.declared.ledger.Ledger.{Ledger}
use Rattle.address_ledger.proofs.Calls.{sought-is, grant-held, grant-free, grant-nothing}
use Rattle.address_ledger.proofs.ledger.Ledger.grant_in.Goals as goal

pub address-requires : goal.address-requires
address-requires c =
    let a = c.before.args in
    let pre = c.before.requires in
    let m = a.memory.now in
    let found = sought-is a.self a.count m a.board pre _ c.in-Held.ensures in
    omega (arith, pre.end, held-inside a.self.summary a.board a.count m c.in-Held.place found)

pub address-requires-in-Free : goal.address-requires-in-Free
address-requires-in-Free c =
    let a = c.before.before.args in
    let pre = c.before.before.requires in
    let m = a.memory.now in
    let found = sought-is a.self a.count m a.board pre _ c.in-Free.ensures in
    let within = free-inside-of a.self.summary a.board a.count m c.in-Free.place found in
    omega (arith, pre.end, ap (λ (l : Ledger). l.first) c.rewritten.ensures)

pub returns-in-Held : goal.returns-in-Held
returns-in-Held c =
    let a = c.before.args in
    let m = a.memory.now in
    let found = sought-is a.self a.count m a.board c.before.requires _ c.in-Held.ensures in
    grant-held a.count a.self m a.board _ c.address.result c.in-Held.place found c.address.ensures

pub returns-in-Free : goal.returns-in-Free
returns-in-Free c =
    let a = c.before.before.args in
    let pre = c.before.before.requires in
    let m = a.memory.now in
    let found = sought-is a.self a.count m a.board pre _ c.in-Free.ensures in
    let within = free-inside-of a.self.summary a.board a.count m c.in-Free.place found in
    let held = hold-all m a.board c.in-Free.place a.count within pre.size pre.room _ c.hold_slot.ensures in
    grant-free a.count a.self m a.board _ c.address-in-Free.result c.in-Free.place found _ held
    c.rewritten.result (rw c.one_less-free.ensures at c.rewritten.ensures) c.address-in-Free.ensures

pub returns-in-Nothing : goal.returns-in-Nothing
returns-in-Nothing c =
    let a = c.before.args in
    let m = a.memory.now in
    let found = sought-is a.self a.count m a.board c.before.requires _ c.in-Nothing.ensures in
    grant-nothing a.count a.self m a.board _ c.refused.result found c.refused.ensures
