-- The answers say what they should: proofs/Answers.antt goes by their cases and tests, by the laws of counted sets and by what the reader
-- of configurations takes.
use Rattle.node_laws.proofs.Answers.{answers-say}
use Rattle.node_laws.proofs.answers_law.Goals as goal

pub returns : goal.returns
returns c =
    answers-say c.laws.ensures c.reads_in_range_law.ensures c.head_laws.ensures
    c.laws-2.ensures
