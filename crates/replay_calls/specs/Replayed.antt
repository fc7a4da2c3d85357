-- The image of what a replay tells beside the node, 251 bytes: kind T, layout, records by kind 6 times 8, refusals by number 22 times 8,
-- switches 8, longest wait in ms 8, stopped 1 (0 the whole trace was walked, 1 it stopped at the place), place 8.
use Rattle.std.specs.Prelude.{ℕ, Bool, not, List}
use Rattle.image.specs.Part.{Part, number, both, times, viewed, headed}
use Rattle.object_image.specs.Codes.{bool_part}
use Rattle.trace.specs.declared.state.ReplayResult.{ReplayResult}
use Rattle.trace.specs.declared.state.ReplayStatistics.{ReplayStatistics}

-- ---- the report
abbrev pub StatisticsFields : Type 0
StatisticsFields = List ℕ × (List ℕ × (ℕ × ℕ))

abbrev pub statistics_fields : Part StatisticsFields
statistics_fields = both (times 6 (number 8)) (both (times 22 (number 8)) (both (number 8) (number 8)))

abbrev pub statistics_to : StatisticsFields → ReplayStatistics
statistics_to x = record { kinds = x.0; refusals = x.1.0; switches = x.1.1.0; longest = x.1.1.1 }

abbrev pub statistics_from : ReplayStatistics → StatisticsFields
statistics_from p = (p.kinds, (p.refusals, (p.switches, p.longest)))

abbrev pub statistics_part : Part ReplayStatistics
statistics_part = viewed statistics_fields statistics_to statistics_from

-- ---- the report, and how far the walk came
pub record Walk : Type 0 where
  pub statistics : ReplayStatistics
  pub stopped : Bool
  pub offset : ℕ

abbrev pub walk : ReplayStatistics → Bool → ℕ → Walk
walk report stopped place = record { statistics = report; stopped = stopped; offset = place }

abbrev pub walk_of : ReplayResult → Walk
walk_of x = walk x.statistics (not x.complete) x.offset

abbrev pub WalkFields : Type 0
WalkFields = ReplayStatistics × (Bool × ℕ)

abbrev pub walk_fields : Part WalkFields
walk_fields = both statistics_part (both bool_part (number 8))

abbrev pub walk_to : WalkFields → Walk
walk_to x = walk x.0 x.1.0 x.1.1

abbrev pub walk_from : Walk → WalkFields
walk_from w = (w.statistics, (w.stopped, w.offset))

abbrev pub replayed_image : Part Walk
replayed_image = headed 0x54 (viewed walk_fields walk_to walk_from)
