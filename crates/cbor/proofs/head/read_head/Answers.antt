-- Nothing is left, or a first byte.
use Rattle.cbor.proofs.Heads.{head-none, head_first}
use Rattle.cbor.proofs.Views.{head-tells}
use Rattle.cbor.proofs.head.read_head.Goals as goal

pub returns-then-s-at : goal.returns-then-s-at
returns-then-s-at c =
    let a = c.args in
    head-tells a.s.now a.at _ (head-none a.s.now a.at c.if-s-at.true)

pub returns : goal.returns
returns c =
    let a = c.args in
    head-tells a.s.now a.at _ (rw (head_first a.s.now a.at c.if-s-at.false) c.head_from.ensures)
