-- The count is the first byte; over 8 all eight keys are meant.
use Rattle.capi_node.proofs.Finding.{keys-counted}
use Rattle.capi_node.proofs.find.key_count_at.Goals as goal

pub returns-clause-keys : goal.returns-clause-keys
returns-clause-keys c = keys-counted c.args.s.now c.args.at c.requires c.from.result c.from.ensures c.min.ensures
