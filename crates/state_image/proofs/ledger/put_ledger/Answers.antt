-- Each field is written to the part after those before it, and together they fill the struct.
use native.Mathlib.Omega.{arith}
use Rattle.image.specs.Fields.{next_field}
use Rattle.state_image.proofs.Images.{ledger-stored}
use Rattle.state_image.proofs.ledger.put_ledger.Goals as goal

pub returns : goal.returns
returns c =
    let w1 = next_field (omega arith) c.put_head.ensures c.put_number.ensures in
    let w2 = next_field (omega arith) w1 c.put_number-2.ensures in
    let w3 = next_field (omega arith) w2 c.put_number-3.ensures in
    let w4 = next_field (omega arith) w3 c.put_number-4.ensures in
    ledger-stored c.args.ledger c.requires w4
