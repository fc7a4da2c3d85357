-- The head, and then the bytes in the part after it.
use native.Mathlib.Omega.{arith}
use Rattle.cbor.proofs.write.Strings.{string-head, string-refused}
use Rattle.cbor.proofs.write.string.write_bytes.Goals as goal

pub overflow_add-whole : goal.overflow_add-whole
overflow_add-whole c =
    let a = c.args in
    omega (arith, string-head a.s.now a.dst.now c.head_len-h.result c.head_len-h.ensures)

pub returns-then-dst-whole : goal.returns-then-dst-whole
returns-then-dst-whole c =
    let h = c.head_len-h in
    let a = c.args in
    string-refused a.s.now a.dst.now h.result h.ensures c.if-dst-whole.true
