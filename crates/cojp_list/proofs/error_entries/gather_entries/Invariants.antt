-- What was kept so far stands in front of the destination; each turn adds one report, or finds none or no room.
use Rattle.std.proofs.Common.{drop}
use Rattle.cojp.specs.Bytes.{members_at}
use Rattle.cojp.specs.Lists.{error_reports_in}
use Rattle.cojp_list.proofs.Gathering.{Gathering}
use Rattle.cojp_list.proofs.error_entries.gather_entries.Given as goal

abbrev pub invariant-loop-left : goal.invariant-loop-left
invariant-loop-left l =
    Gathering (error_reports_in (members_at l.count (drop l.from l.s))) l.initial.dst
    (error_reports_in (members_at l.left (drop l.at l.s))) l.len l.members l.dst

abbrev pub decreases-loop-left : goal.decreases-loop-left
decreases-loop-left l = l.left
