-- What a turn's answer says follows from what a node's answers say, which `node_laws::answers_law` ensures.
use Rattle.network.proofs.Answers.{turns-say}
use Rattle.network.proofs.turn_answers_law.Goals as goal

pub returns : goal.returns
returns c = turns-say c.answers_law.ensures
