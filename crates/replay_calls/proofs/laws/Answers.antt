-- The image is lawful by its table.
use Rattle.replay_calls.proofs.Images.{replayed-images}
use Rattle.replay_calls.proofs.laws.Goals as goal

pub returns : goal.returns
returns c = replayed-images c.laws.ensures.bool
