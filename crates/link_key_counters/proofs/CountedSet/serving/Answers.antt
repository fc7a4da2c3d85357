-- `serving` meets its contract: from each place on the question has the answer that it has from the first.
use mathlib.Core.Path.{◌≡◌, sym, ◌∙◌}
use mathlib.Core.Bool.{false}
use lib.ListN.{get_or}
use Rattle.link_key_counters.specs.Counters.{serves, slot}
use Rattle.link_key_counters.proofs.Places.{past}
use Rattle.link_key_counters.proofs.Slots.{turn, not-covering, used-up}
use Rattle.link_key_counters.proofs.CountedSet.serving.Goals as goal
use Rattle.link_key_counters.proofs.CountedSet.serving.Goals.{else-counter-via-then-counter+else-covers, else-counter-via-else-counter}

pub loop-i-preserved : goal.loop-i-preserved
loop-i-preserved c =
    let ks = c.as_slice-key-items.result.now in
    let counters = c.args.self.counters in
    let key = get_or ks c.loop-i.i past in
    let counter = get_or counters c.loop-i.i 0 in
    let passed : serves c.args.frame_type (slot c.loop-i.i key counter) ≡ false =
    elim c.else-counter.branch [
      | else-counter-via-then-counter+else-covers w ↦
          not-covering c.args.frame_type c.loop-i.i key counter (sym w.covers.ensures ∙ w.if-covers.false)
      | else-counter-via-else-counter w ↦ used-up c.args.frame_type c.loop-i.i key counter w.if-counter.false
    ] in
    c.loop-i.invariant ∙ rw (turn ks counters c.loop-i.i past c.loop-i-test.true, passed)
