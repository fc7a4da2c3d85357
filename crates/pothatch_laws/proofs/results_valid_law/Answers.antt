-- By the laws of a node's calls, of a night, of the cipher and of the images.
use Rattle.pothatch_laws.proofs.Results.{results_fit}
use Rattle.pothatch_laws.proofs.results_valid_law.Goals as goal

pub returns : goal.returns
returns c =
    let states = c.laws-4.ensures in
    results_fit c.calls_valid_law.ensures c.records_contiguous_law.ensures c.laws.ensures c.laws-2.ensures.configuration
    c.laws-3.ensures.node states.proxy states.ledger c.laws-5.ensures.serial
