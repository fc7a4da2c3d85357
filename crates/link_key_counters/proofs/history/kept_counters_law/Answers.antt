-- `kept_counters_law` meets its contract: the laws stand in their file.
use Rattle.link_key_counters.proofs.history.Counters.{kept_laws}
use Rattle.link_key_counters.proofs.history.kept_counters_law.Goals as goal

pub returns : goal.returns
returns c = kept_laws
