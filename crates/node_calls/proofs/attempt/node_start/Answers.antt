-- The image comes first; then the start is the node's own, and changes its join attempt alone.
use mathlib.Core.Path.{sym, subst}
use Rattle.lemmas.specs.logic.Tests.{is_true}
use Rattle.image.proofs.Lent.{long}
use Rattle.node_image.specs.Node.{node_image}
use Rattle.node_image.specs.Change.{Attempted}
use Rattle.node.specs.declared.timing.StartResult.{StartResult}
use Rattle.node_calls.proofs.Nodes.{start-as, started}
use Rattle.node_calls.proofs.attempt.node_start.Goals as goal

pub node_in-requires : goal.node_in-requires
node_in-requires c = long node_image c.args.node.now (is_true c.is_node.ensures c.if-not-is_node.false)

pub store_attempt-requires-clause-attempted : goal.store_attempt-requires-clause-attempted
store_attempt-requires-clause-attempted c =
    let s = c.args.node.now in
    let did = start-as c.node_in.ensures c.start-started.ensures in
    subst (λ (x : StartResult). Attempted (node_image.get s) x.node) (sym did.says)
    (c.partial_store_law.ensures.started (node_image.get s) c.args.time c.args.timeout c.args.dst.now)

pub returns : goal.returns
returns c =
    let image = is_true c.is_node.ensures c.if-not-is_node.false in
    let did = start-as c.node_in.ensures c.start-started.ensures in
    started c.args.node.now image c.demand1.ensures c.args.time c.args.timeout
    c.args.dst.now _ c.start-started.result did c.store_attempt.ensures.number c.store_attempt.ensures.image
