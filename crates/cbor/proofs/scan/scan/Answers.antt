-- The item's end says whether bytes follow it.
use Rattle.std.proofs.lemmas.Result.{err_from_is_err_and}
use Rattle.cbor.proofs.Answers.{passed-item}
use Rattle.cbor.proofs.scan.Items.{scan-refused, scan-extra, scan-whole}
use Rattle.cbor.proofs.scan.scan.Goals as goal

pub returns-in_err-end : goal.returns-in_err-end
returns-in_err-end c =
    let p = err_from_is_err_and c.from_residual.result c.from_residual.ensures.1 in
    let a = c.args in
    rw (p.1, p.2)
    (scan-refused a.strict a.s.now c.in_err-end.field-0.0
    (rw c.in_err-end.was at (passed-item a.strict a.s.now 0 8 c.skip_item.result c.skip_item.ensures.is)))

pub returns-then-end-s : goal.returns-then-end-s
returns-then-end-s c =
    let a = c.args in
    scan-extra a.strict a.s.now c.in_ok-end.end
    (rw c.in_ok-end.was at (passed-item a.strict a.s.now 0 8 c.skip_item.result c.skip_item.ensures.is)) c.if-end-s.true

pub returns : goal.returns
returns c =
    let a = c.args in
    scan-whole a.strict a.s.now c.in_ok-end.end
    (rw c.in_ok-end.was at (passed-item a.strict a.s.now 0 8 c.skip_item.result c.skip_item.ensures.is)) c.if-end-s.false
