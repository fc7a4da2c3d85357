-- Each field stands at its place.
use Rattle.node_image.proofs.Attempts.{attempt-got}
use Rattle.node_image.proofs.attempt.attempt_at.Goals as goal

pub returns : goal.returns
returns c =
    attempt-got c.args.src.now c.args.at c.phase_of.ensures c.number_at.ensures
    c.number_at-2.ensures c.number_at-3.ensures
