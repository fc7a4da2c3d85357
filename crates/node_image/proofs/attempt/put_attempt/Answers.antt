-- Each field is written to the part after those before it.
use native.Mathlib.Omega.{arith}
use Rattle.std.proofs.Common.{rules}
use Rattle.image.specs.Fields.{next_field}
use Rattle.node_image.proofs.Attempts.{attempt-stored}
use Rattle.node_image.proofs.attempt.put_attempt.Goals as goal

pub returns : goal.returns
returns c =
    let w1 = next_field (omega arith) c.put_byte.ensures c.put_number.ensures in
    let w2 = next_field (omega arith) w1 c.put_number-2.ensures in
    let w3 = next_field (omega arith) w2 c.put_number-3.ensures in
    let w4 = next_field (omega arith) w3 c.put_byte-2.ensures in
    attempt-stored c.args.attempt (search rules) w4
