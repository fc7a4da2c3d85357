-- The head tells an integer, and where the value begins.
use Rattle.std.proofs.Common.{arith}
use Rattle.cojp_map.proofs.Maps.{told-refused, told-number, told-negative, told-other}
use Rattle.cojp_map.proofs.pair.labelled_at.Goals as goal

pub returns-in_default : goal.returns-in_default
returns-in_default c =
    let head = c.read_head in
    told-refused c.args.s.now c.args.at head.result head.ensures c.in_default.field-0 c.in_default.is

pub returns-in-0 : goal.returns-in-0
returns-in-0 c =
    let head = c.read_head in
    told-number c.args.s.now c.args.at head.result head.ensures c.in-Ok.head c.in-Ok.is (omega arith)

pub returns-in-1 : goal.returns-in-1
returns-in-1 c =
    let head = c.read_head in
    told-negative c.args.s.now c.args.at head.result head.ensures c.in-Ok.head c.in-Ok.is (omega arith)

pub returns-in_default-major : goal.returns-in_default-major
returns-in_default-major c =
    let head = c.read_head in
    told-other c.args.s.now c.args.at head.result head.ensures c.in-Ok.head c.in-Ok.is (omega arith)
