-- Each call does to the image what the proxy's own call does to the proxy, and images are loaded as they were stored.
use Rattle.pothatch_laws.proofs.Proxies.{proxy-runs}
use Rattle.pothatch_laws.proofs.proxy_runs_law.Goals as goal

pub returns : goal.returns
returns c = proxy-runs c.laws-2.ensures.proxy c.number_range_law.ensures c.laws.ensures
