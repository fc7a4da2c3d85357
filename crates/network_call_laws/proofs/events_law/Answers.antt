-- Every call is answered, and a turn goes one way or the other at each step.
use Rattle.network_call_laws.proofs.Playing.{events-play}
use Rattle.network_call_laws.proofs.events_law.Goals as goal

pub returns : goal.returns
returns c = events-play
