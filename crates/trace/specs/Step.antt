-- A walk over a trace, record by record: what is kept between two records, and what one record does to it.
use Rattle.std.specs.Prelude.{ℕ, ◌+◌, ◌-◌, ◌^◌, Bool, true, false, cond, List, ltb, drop, get_or, set, replicate, Ok, Err}
use Rattle.refusal.specs.Refusal.{number_of}
use Rattle.refusal.specs.Verdict.{Verdict}
use Rattle.node.specs.Node.{empty_node}
use Rattle.trace.specs.Trace.{Record, kind_of, size_of, Reading, end, bad, got, reading, is_admissible, Trace, over, stop, then, parse}
use Rattle.trace.specs.Calls.{call_of}
use Rattle.trace.specs.Statistics.{starts_with, joins_with, time_of, greater}
use Rattle.trace.specs.declared.done.CallResult.{CallResult}
use Rattle.trace.specs.declared.state.Progress.{Progress}
use Rattle.trace.specs.declared.state.Progress.TheVariants.{Complete, Stopped, Walked}
use Rattle.trace.specs.declared.state.ReplayResult.{ReplayResult}
use Rattle.trace.specs.declared.state.ReplayStatistics.{ReplayStatistics}
use Rattle.trace.specs.declared.state.State.{State}
use Rattle.trace.specs.declared.state.StepResult.{StepResult}

-- ---- counts of 64 bits: a full one stays full, which no walk from the start can reach
unfoldable pub more : ℕ → ℕ
more n = cond (ltb n (2 ^ 64 - 1)) (n + 1) n

abbrev pub more_if : Bool → ℕ → ℕ
more_if again n = cond again (more n) n

-- one more at a place
unfoldable pub raised : List ℕ → ℕ → List ℕ
raised counts i = set counts i (more (get_or counts i 0))

-- a refusal is counted at its number, the first of which is 1
abbrev pub refused : Verdict → List ℕ → List ℕ
refused (Ok tt) counts = counts
refused (Err k) counts = raised counts (number_of k - 1)

-- ---- the state after a record, by what its call did
-- the time of the last accepted start
abbrev pub started_after : Record → Verdict → ℕ → ℕ
started_after r v started = cond (starts_with r v) (time_of r) started

abbrev pub longest_after : Record → Verdict → ℕ → ℕ → ℕ
longest_after r v started longest = cond (joins_with r v) (greater (time_of r - started) longest) longest

abbrev pub statistics_after : ℕ → CallResult → ℕ → ReplayStatistics → ReplayStatistics
statistics_after place d longest p = record {
  kinds = raised p.kinds place;
  refusals = refused d.verdict p.refusals;
  switches = more_if d.switched p.switches;
  longest = longest;
}

unfoldable pub afterwards : ℕ → CallResult → ℕ → ℕ → State → State
afterwards place d started longest s =
    record { made = true; node = d.node; started = started; statistics = statistics_after place d longest s.statistics }

abbrev pub after_call : Record → CallResult → State → State
after_call r d s =
    afterwards (kind_of r - 1) d (started_after r d.verdict s.started)
    (longest_after r d.verdict s.started s.statistics.longest) s

abbrev pub walked : Record → State → State
walked r s = after_call r (call_of r s.node) s

-- before the first record
abbrev pub nothing_yet : State
nothing_yet = record {
  made = false;
  node = empty_node;
  started = 0;
  statistics = record { kinds = replicate 6 0; refusals = replicate 22 0; switches = 0; longest = 0 };
}

-- ---- one record: where the walk is complete or stops, the place and the state are as they were
abbrev pub stepped : Progress → ℕ → State → StepResult
stepped p at s = record { progress = p; next = at; state = s }

unfoldable pub advance : Reading → ℕ → State → StepResult
advance end at s = stepped Complete at s
advance bad at s = stepped Stopped at s
advance (got r) at s = cond (is_admissible s.made r) (stepped Walked (at + size_of r) (walked r s)) (stepped Stopped at s)

unfoldable pub step : List ℕ → ℕ → State → StepResult
step trace at s = advance (reading (drop at trace)) at s

-- ---- the whole trace, record by record
unfoldable pub play : Trace → State → StepResult
play (over at) s = stepped Complete at s
play (stop at) s = stepped Stopped at s
play (then at r rest) s = play rest (walked r s)

unfoldable pub played : List ℕ → StepResult
played trace = play (parse trace) nothing_yet

-- what the last step leaves, as an answer
abbrev pub is_complete : Progress → Bool
is_complete Complete = true
is_complete Stopped = false
is_complete Walked = false

abbrev pub replayed_by : StepResult → ReplayResult
replayed_by x = record {
  complete = is_complete x.progress;
  offset = x.next;
  made = x.state.made;
  node = x.state.node;
  statistics = x.state.statistics;
}
