-- The head as it is read, or LOOSE by its flag.
use Rattle.std.proofs.Common.{sym, ◌∙◌}
use Rattle.std.proofs.lemmas.Result.{err_from_is_err_and}
use borrow.Author.Tests.{not-true, not-false}
use Rattle.cbor.proofs.Strict.{not-strict, strict-refused, strict-kept, strict-loose}
use Rattle.cbor.proofs.head.read_head_by.Goals as goal
use Rattle.cbor.proofs.head.read_head_by.Goals.{else-strict-via-then-strict+else-not-head, else-strict-via-else-strict}

pub returns-in_err-head : goal.returns-in_err-head
returns-in_err-head c =
    let p = err_from_is_err_and c.from_residual.result c.from_residual.ensures.1 in
    let a = c.args in
    rw (p.1, p.2)
    (strict-refused a.s.now a.at a.strict c.read_head.result c.read_head.ensures.is c.in_err-head.field-0.0 c.in_err-head.was)

pub returns-then-not-head : goal.returns-then-not-head
returns-then-not-head c =
    let a = c.args in
    strict-loose a.s.now a.at a.strict c.read_head.result c.read_head.ensures.is c.if-strict.true
    c.in_ok-head.head c.in_ok-head.was (not-true _ c.if-not-head.true)

pub returns : goal.returns
returns c =
    let a = c.args in
    elim c.else-strict.branch [
      | else-strict-via-then-strict+else-not-head w ↦
          strict-kept a.s.now a.at a.strict c.read_head.result c.read_head.ensures.is w.if-strict.true
          c.in_ok-head.head c.in_ok-head.was (not-false _ w.if-not-head.false)
      | else-strict-via-else-strict w ↦
          sym c.in_ok-head.was ∙ not-strict a.s.now a.at a.strict c.read_head.result c.read_head.ensures.is w.if-strict.false
    ]
