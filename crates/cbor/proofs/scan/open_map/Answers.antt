-- A payload that was scanned is opened by its head.
use Rattle.std.proofs.lemmas.Result.{err_from_is_err_and}
use Rattle.cbor.proofs.Payloads.{opened-tells}
use Rattle.cbor.proofs.scan.Payloads.{open-refused, open-unheaded, open-map, open-other}
use Rattle.cbor.proofs.scan.open_map.Goals as goal

pub returns-in_err-scan : goal.returns-in_err-scan
returns-in_err-scan c =
    let p = err_from_is_err_and c.from_residual.result c.from_residual.ensures.1 in
    let a = c.args in
    rw (p.1, p.2)
    (opened-tells a.strict a.s.now _
    (open-refused a.strict a.s.now c.scan.result c.scan.ensures c.in_err-scan.field-0.0 c.in_err-scan.was))

pub returns-in_err-head : goal.returns-in_err-head
returns-in_err-head c =
    let p = err_from_is_err_and c.from_residual-in_err-head.result c.from_residual-in_err-head.ensures.1 in
    let a = c.args in
    rw (p.1, p.2)
    (opened-tells a.strict a.s.now _
    (open-unheaded a.strict a.s.now c.scan.result c.scan.ensures c.in_ok-scan.was
    c.read_head.result c.read_head.ensures.is c.in_err-head.field-0.0 c.in_err-head.was))

pub returns-then-head-ne5 : goal.returns-then-head-ne5
returns-then-head-ne5 c =
    let a = c.args in
    opened-tells a.strict a.s.now _
    (open-other a.strict a.s.now c.scan.result c.scan.ensures c.in_ok-scan.was
    c.read_head.result c.read_head.ensures.is c.in_ok-head.head c.in_ok-head.was c.if-head-ne5.true)

pub returns : goal.returns
returns c =
    let a = c.args in
    opened-tells a.strict a.s.now _
    (open-map a.strict a.s.now c.scan.result c.scan.ensures c.in_ok-scan.was
    c.read_head.result c.read_head.ensures.is c.in_ok-head.head c.in_ok-head.was c.if-head-ne5.false)
