-- Each field is written to the part after those before it.
use native.Mathlib.Omega.{arith}
use mathlib.Core.Path.{◌≡◌}
use lib.ListN.{length}
use Rattle.image.specs.Fields.{next_field}
use Rattle.replay_calls.proofs.Images.{so-many, trace-written}
use borrow.Author.Rules.{rules}
use Rattle.replay_calls.proofs.replayed.put_statistics.Goals as goal

pub returns : goal.returns
returns c =
    let six : length c.args.report.kinds ≡ 6 = search rules in
    let many : length c.args.report.refusals ≡ 22 = search rules in
    let w1 = next_field (omega arith) (so-many 6 six c.put_counts.ensures) (so-many 22 many c.put_counts-2.ensures) in
    let w2 = next_field (omega arith) w1 c.put_number.ensures in
    let w3 = next_field (omega arith) w2 c.put_number-2.ensures in
    trace-written c.args.report w3
