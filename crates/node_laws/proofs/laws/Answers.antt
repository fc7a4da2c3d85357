-- The laws for the layer above hold: proofs/NodeLaws.antt gathers them, from the laws of keys and of counted sets and from what the reader
-- of configurations takes and what is reported of it.
use Rattle.node_laws.proofs.NodeLaws.{node_laws}
use Rattle.node_laws.proofs.laws.Goals as goal

pub returns : goal.returns
returns c =
    node_laws c.laws.ensures c.laws-2.ensures c.reads_in_range_law.ensures
    c.error_reports_valid_law.ensures
