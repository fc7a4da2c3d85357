-- `receiving_key` meets its contract: the answer is the definition's, from the key that is held.
use Rattle.node_key_sets.proofs.Answers.{from-held}
use Rattle.node_key_sets.proofs.sets.KeySets.receiving_key.Goals as goal

pub returns : goal.returns
returns c =
    from-held c.args.self c.args.frame_type c.args.identifier _ c.held_key.ensures _ c.received.ensures
