-- Number of members and bytes are compared.
use borrow.Author.Tests.{not-true, not-false}
use Rattle.cojp_list.proofs.Again.{same-bad, same-counts, same_parts}
use Rattle.cojp_list.proofs.kept.same_as.Goals as goal

pub returns-then-not-again : goal.returns-then-not-again
returns-then-not-again c = same-bad c.args.again c.args.l (not-true _ c.if-not-again.true)

pub returns-then-other-l : goal.returns-then-other-l
returns-then-other-l c = same-counts c.args.again c.args.l (not-false _ c.if-not-again.false) c.if-other-l.true

pub returns : goal.returns
returns c =
    same_parts c.args.again c.args.l (not-false _ c.if-not-again.false) c.if-other-l.false c.same_bytes.result c.same_bytes.ensures
