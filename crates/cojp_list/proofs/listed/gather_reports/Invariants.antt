-- The reports written so far stand in front of the destination; each turn adds one.
use Rattle.std.proofs.Common.{drop}
use Rattle.cojp.specs.Lists.{picked}
use Rattle.cojp_list.specs.Listed.{members_of}
use Rattle.cojp_list.proofs.Gathering.{Gathering}
use Rattle.cojp_list.proofs.listed.gather_reports.Given as goal

abbrev pub invariant-loop-report : goal.invariant-loop-report
invariant-loop-report l =
    Gathering (picked (members_of l.report-items)) l.initial.dst (picked (members_of (drop l.report-index l.report-items))) l.len
    l.members l.dst
