-- From what is promised of addresses and of a node: proofs/Reserved.antt.
use Rattle.node_laws.proofs.Reserved.{node-addresses}
use Rattle.node_laws.proofs.addresses.addresses_law.Goals as goal

pub returns : goal.returns
returns c =
    node-addresses c.laws.ensures c.laws-2.ensures c.answers_law.ensures
