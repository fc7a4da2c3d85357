-- Test by test.
use Rattle.node_key_sets.proofs.InstallLemmas.{install-decided}
use Rattle.node_key_sets.proofs.install_law.Goals as goal

pub returns : goal.returns
returns c = install-decided
