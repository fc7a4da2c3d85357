-- `inherit_counters` meets its contract: the counters of the keys so far are written, and the others are 0.
use mathlib.Core.Path.{◌≡◌, ◌∙◌, ap}
use native.Mathlib.Omega.{arith}
use lib.ListN.{length}
use Rattle.link_key_counters.specs.Counters.{counted_set, inherit_counters}
use Rattle.link_key_counters.proofs.Places.{past}
use Rattle.link_key_counters.proofs.Slots.{write, written_all}
use Rattle.link_key_counters.proofs.CountedSet.inherit_counters.Goals as goal

pub loop-i-preserved : goal.loop-i-preserved
loop-i-preserved c =
    write c.args.self c.as_slice-key-items.result.now c.loop-i.i past c.loop-i-test.true c.as_slice-key-items.ensures.few _ _
    c.loop-i.invariant c.kept_counter.ensures

pub returns : goal.returns
unfolding inherit_counters
returns c =
    let ks = c.as_slice-key-items.result.now in
    let done : c.loop-i.i ≡ length ks = omega (arith, c.loop-i-test.false, c.loop-i.auto.i-end) in
    let kept = c.loop-i.invariant ∙ written_all c.args.self ks c.loop-i.i done in
    ap (counted_set c.args.set) (rw c.as_slice-key-items.ensures.exact at kept)
