-- Each arm answers as the laws of Views say of the head.
use native.Mathlib.Omega.{arith}
use Rattle.cbor.proofs.Views.{value-refused, value-number, value-minus, value-string, value-cut, value-array, value-other}
use Rattle.cbor.proofs.Views.{value-told}
use Rattle.cbor.proofs.value.value_at.Goals as goal

pub returns-in_default : goal.returns-in_default
returns-in_default c =
    let a = c.args in
    value-told a.s.now a.at _
    (value-refused a.s.now a.at c.read_head.result c.read_head.ensures.is c.in_default.field-0
    c.in_default.is)

pub returns-in-0 : goal.returns-in-0
returns-in-0 c =
    let a = c.args in
    value-told a.s.now a.at _
    (value-number a.s.now a.at c.read_head.result c.read_head.ensures.is c.in-Ok.head c.in-Ok.is (omega arith))

pub returns-in-1 : goal.returns-in-1
returns-in-1 c =
    let a = c.args in
    value-told a.s.now a.at _
    (value-minus a.s.now a.at c.read_head.result c.read_head.ensures.is c.in-Ok.head c.in-Ok.is (omega arith))

pub returns-then-argument-room : goal.returns-then-argument-room
returns-then-argument-room c =
    let a = c.args in
    value-told a.s.now a.at _
    (value-string a.s.now a.at c.read_head.result c.read_head.ensures.is c.in-Ok.head c.in-Ok.is (omega arith)
    c.if-argument-room.true)

pub returns-else-argument-room : goal.returns-else-argument-room
returns-else-argument-room c =
    let a = c.args in
    value-told a.s.now a.at _
    (value-cut a.s.now a.at c.read_head.result c.read_head.ensures.is c.in-Ok.head c.in-Ok.is (omega arith)
    c.if-argument-room.false)

pub returns-in-4 : goal.returns-in-4
returns-in-4 c =
    let a = c.args in
    value-told a.s.now a.at _
    (value-array a.s.now a.at c.read_head.result c.read_head.ensures.is c.in-Ok.head c.in-Ok.is (omega arith))

pub returns-in_default-major : goal.returns-in_default-major
returns-in_default-major c =
    let a = c.args in
    value-told a.s.now a.at _
    (value-other a.s.now a.at c.read_head.result c.read_head.ensures.is c.in-Ok.head c.in-Ok.is
    (λ e. omega arith) (λ e. omega arith) (λ e. omega arith) (λ e. omega arith))
