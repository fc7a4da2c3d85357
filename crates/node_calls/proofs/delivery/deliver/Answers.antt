-- The struct's length and the image come first; then the configuration is the node's to take.
use Rattle.std.proofs.Common.{ap, ◌∙◌, arith}
use Rattle.lemmas.specs.logic.Tests.{is_false, is_true}
use Rattle.image.proofs.Lent.{long}
use Rattle.node_image.specs.Node.{node_image}
use Rattle.node.specs.Delivery.{deliver}
use Rattle.node_attempt.specs.declared.delivery.Delivery.TheVariants as delivery
use Rattle.node_laws.specs.Calls.{delivering}
use Rattle.node_calls.proofs.Answers.{changes-unfit, changes-none}
use Rattle.node_calls.proofs.Nodes.{delivered}
use Rattle.node_calls.proofs.delivery.deliver.Goals as goal

pub returns-then-reports-ne17 : goal.returns-then-reports-ne17
returns-then-reports-ne17 c =
    changes-unfit 17 (delivering c.args.delivery c.args.time c.args.payload.now) c.args.node.now c.args.reports.now c.if-reports-ne17.true

pub returns-then-not-is_node : goal.returns-then-not-is_node
returns-then-not-is_node c =
    changes-none 17 (delivering c.args.delivery c.args.time c.args.payload.now) c.args.node.now c.args.reports.now
    (omega (arith, c.if-reports-ne17.false)) (is_false c.is_node.ensures c.if-not-is_node.true) c.clear.ensures

pub node_in-held-requires : goal.node_in-held-requires
node_in-held-requires c = long node_image c.args.node.now (is_true c.is_node.ensures c.if-not-is_node.false)

pub store_delivery-requires : goal.store_delivery-requires
store_delivery-requires c = (
  long node_image c.args.node.now (is_true c.is_node.ensures c.if-not-is_node.false),
  omega (arith, c.if-reports-ne17.false),
)

pub store_delivery-requires-in-Update : goal.store_delivery-requires-in-Update
store_delivery-requires-in-Update c = (
  long node_image c.args.node.now (is_true c.is_node.ensures c.if-not-is_node.false),
  omega (arith, c.if-reports-ne17.false),
)

pub returns-in-JoinAnswer : goal.returns-in-JoinAnswer
returns-in-JoinAnswer c =
    let a = c.args in
    let image = is_true c.is_node.ensures c.if-not-is_node.false in
    let says = c.join_answer.ensures ∙ ap (λ n. deliver delivery.JoinAnswer n a.time a.payload.now) c.node_in-held.ensures in
    rw c.in-JoinAnswer.is
    (delivered a.node.now image a.reports.now delivery.JoinAnswer a.time a.payload.now c.join_answer.result
    (omega (arith, c.if-reports-ne17.false)) says
    c.store_delivery.ensures.number c.store_delivery.ensures.node c.store_delivery.ensures.reports)

pub returns-in-Update : goal.returns-in-Update
returns-in-Update c =
    let a = c.args in
    let image = is_true c.is_node.ensures c.if-not-is_node.false in
    let says = c.update.ensures ∙ ap (λ n. deliver delivery.Update n a.time a.payload.now) c.node_in-held.ensures in
    rw c.in-Update.is
    (delivered a.node.now image a.reports.now delivery.Update a.time a.payload.now c.update.result
    (omega (arith, c.if-reports-ne17.false)) says
    c.store_delivery-in-Update.ensures.number c.store_delivery-in-Update.ensures.node c.store_delivery-in-Update.ensures.reports)
