-- An end is answered only for a head that stands alone and for a string that is there whole: each is passed at any level.
use Rattle.std.proofs.Common.{◌≡◌, ◌+◌, arith}
use lib.ListN.{drop}
use Rattle.cbor.proofs.Answers.{skip-tells, got-says}
use Rattle.cbor.proofs.scan.Items.{item_by, item-alone, item-string}
use Rattle.cbor.proofs.scan.plain_end.Goals as goal

pub returns-then-len-room : goal.returns-then-len-room
returns-then-len-room c p is d some =
    let a = c.args in
    let h = c.in-Ok.head in
    let e : h.next + h.argument ≡ p = cc in
    let w = got-says a.strict a.s.now a.at c.read_head_by.result c.read_head_by.ensures h c.in-Ok.is in
    rw (← e)
    (skip-tells a.s.now (item_by a.strict d (drop a.at a.s.now)) _
    (item-string a.strict a.s.now a.at d h (omega arith) w (omega arith) (omega arith) (omega arith)))

pub returns-in_default-major : goal.returns-in_default-major
returns-in_default-major c p is d some =
    let a = c.args in
    let h = c.in-Ok.head in
    let e : h.next ≡ p = cc in
    let w = got-says a.strict a.s.now a.at c.read_head_by.result c.read_head_by.ensures h c.in-Ok.is in
    rw (← e)
    (skip-tells a.s.now (item_by a.strict d (drop a.at a.s.now)) _
    (item-alone a.strict a.s.now a.at d h (omega arith) w (λ l u. omega arith)))

pub returns-in_default-major-2 : goal.returns-in_default-major-2
returns-in_default-major-2 c p is d some =
    let a = c.args in
    let h = c.in-Ok.head in
    let e : h.next ≡ p = cc in
    let w = got-says a.strict a.s.now a.at c.read_head_by.result c.read_head_by.ensures h c.in-Ok.is in
    rw (← e)
    (skip-tells a.s.now (item_by a.strict d (drop a.at a.s.now)) _
    (item-alone a.strict a.s.now a.at d h (omega arith) w (λ l u. omega arith)))
