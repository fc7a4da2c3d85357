-- From each key on the search has the answer that it has from the first.
use Rattle.std.proofs.Common.{◌+◌, drop}
use Rattle.key_image.specs.Key.{key_set_part}
use Rattle.link_key.specs.set.KeySet.{keys_of}
use Rattle.capi_node.proofs.Finding.{found-here, found-further}
use Rattle.capi_node.proofs.find.find_at.Goals as goal

pub returns-then-s-k : goal.returns-then-s-k
returns-then-s-k c =
    found-here c.args.s.now c.args.identifier (c.args.at + 1) c.key_count_at-i-end.result c.loop-i.i
    (keys_of (key_set_part.get (drop c.args.at c.args.s.now))) c.loop-i-test.true c.loop-i.invariant c.if-s-k.true c.key_at.ensures

pub loop-i-preserved : goal.loop-i-preserved
loop-i-preserved c =
    found-further c.args.s.now c.args.identifier (c.args.at + 1) c.key_count_at-i-end.result c.loop-i.i
    (keys_of (key_set_part.get (drop c.args.at c.args.s.now))) c.loop-i-test.true c.loop-i.invariant c.if-s-k.false
