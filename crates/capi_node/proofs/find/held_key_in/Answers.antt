-- The active set is searched first.
use Rattle.std.proofs.Common.{sym, ◌∙◌}
use Rattle.capi_node.proofs.Finding.{held-pending}
use Rattle.capi_node.proofs.find.held_key_in.Goals as goal

pub returns : goal.returns
returns c =
    held-pending c.args.s.now c.args.identifier c.find_at-active.ensures (sym c.is_some.ensures ∙ c.if-is_some.false) c.find_at.ensures
