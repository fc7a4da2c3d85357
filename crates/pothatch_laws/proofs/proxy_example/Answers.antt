-- The law at one list of calls; what is left is computed.
use Rattle.pothatch_laws.proofs.Proxied as proxied
use Rattle.pothatch_laws.proofs.proxy_example.Goals as goal

pub returns : goal.returns
returns c = proxied.proxy-seen c.proxy_runs_law.ensures
