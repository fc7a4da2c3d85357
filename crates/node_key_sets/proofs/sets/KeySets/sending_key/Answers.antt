-- `sending_key` meets its contract: the test of the type is the definition's,
-- and what `take_counter` gives where no key serves leaves the sets.
use borrow.Author.Tests.{le-leb, lt-leb}
use Rattle.node_key_sets.specs.Frames.{sending}
use Rattle.node_key_sets.proofs.Answers.{sent-spent}
use Rattle.node_key_sets.proofs.sets.KeySets.sending_key.Goals as goal

pub returns-then-frame_type-gt1 : goal.returns-then-frame_type-gt1
unfolding sending
returns-then-frame_type-gt1 c = rw (lt-leb _ _ c.if-frame_type-gt1.true) c.unsent.ensures

pub returns : goal.returns
returns c =
    rw c.chosen-answer.ensures
    (sent-spent c.args.self c.args.frame_type (le-leb _ _ c.if-frame_type-gt1.false) _ c.take_counter-spent.ensures)
