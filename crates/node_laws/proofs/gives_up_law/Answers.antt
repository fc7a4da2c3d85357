-- The attempt gives up when it should: proofs/GivesUp.antt takes the five steps.
use Rattle.node_laws.proofs.GivesUp.{gives_up_lem}
use Rattle.node_laws.proofs.gives_up_law.Goals as goal

pub returns : goal.returns
returns c = gives_up_lem
