-- The item calls the members with a level less, the members call the item with as many: twice the levels, and one more for the
-- members, falls. The members' loop keeps what is left to pass over.
use Rattle.std.proofs.Common.{◌≡◌, ◌≤◌, length, drop, ◌+◌, ◌-◌, ◌*◌}
use Rattle.cbor.specs.Decode.{members}
use Rattle.cbor.proofs.Places.{forget}
use Rattle.cbor.proofs.scan.Items.{item_by}
use Rattle.cbor.proofs.scan.+skip_item_skip_members.Given as goal

abbrev pub decreases-skip_item : goal.decreases-skip_item
decreases-skip_item l = 2 * l.levels

abbrev pub decreases-skip_members : goal.decreases-skip_members
decreases-skip_members l = 2 * l.levels + 1

abbrev pub invariant-skip_members-loop : goal.invariant-skip_members-loop
invariant-skip_members-loop l =
    (l.p ≤ length l.s)
    × (forget (members (item_by l.strict l.levels) (l.count - l.counter) (drop l.p l.s))
    ≡ forget (members (item_by l.strict l.levels) l.count (drop l.at l.s)))
