-- `start` meets its contract: the request is written where the attempt may start.
use Rattle.node.proofs.Starts.{start-refused, start-written}
use Rattle.node.proofs.node.Node.start.Goals as goal

pub returns-in-Err : goal.returns-in-Err
returns-in-Err c =
    rw c.unstarted.ensures (start-refused c.args.self c.args.time c.args.timeout _ _ c.may_start.ensures c.in-Err.is)

pub returns : goal.returns
returns c =
    rw c.started.ensures
    (start-written c.args.self c.args.time c.args.timeout _ _ c.may_start.ensures c.in_default.is _ _ _
    c.request.ensures c.write_request-written.ensures)
