-- A walk record by record gives the replay, every number of the report exact: a trace that fits a slice fills no count.
use Rattle.std.specs.Prelude.{ℕ, ◌^◌, ◌<◌, ◌≡◌, List, length}
use Rattle.trace.specs.Replay.{replay}
use Rattle.trace.specs.Step.{played, replayed_by}

abbrev pub ReplayExact : Type 0
ReplayExact = (trace : List ℕ) → length trace < 2 ^ 64 → replayed_by (played trace) ≡ replay trace
