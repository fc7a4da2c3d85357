-- Each field is written to the part after those before it, and together they fill the struct.
use native.Mathlib.Omega.{arith}
use Rattle.image.specs.Fields.{next_field}
use Rattle.replay_calls.proofs.Images.{replayed-stored}
use Rattle.replay_calls.proofs.replayed.put_replayed.Goals as goal

pub returns : goal.returns
returns c =
    let w1 = next_field (omega arith) c.put_head.ensures c.put_statistics.ensures in
    let w2 = next_field (omega arith) w1 c.put_bool.ensures in
    let w3 = next_field (omega arith) w2 c.put_number.ensures in
    replayed-stored c.args.report c.args.stopped c.args.place c.requires w3
