-- What was kept so far stands in front of the destination; each turn adds one byte string, or finds none or no room.
use Rattle.std.proofs.Common.{◌-◌, drop}
use Rattle.cojp.specs.Bytes.{members_at}
use Rattle.cojp.specs.Lists.{strings_in}
use Rattle.cojp_list.proofs.Gathering.{Gathering}
use Rattle.cojp_list.proofs.strings.gather_strings.Given as goal

abbrev pub invariant-loop-i : goal.invariant-loop-i
invariant-loop-i l =
    Gathering (strings_in (members_at l.count (drop l.from l.s))) l.initial.dst
    (strings_in (members_at (l.count - l.i) (drop l.at l.s))) l.len l.i l.dst
