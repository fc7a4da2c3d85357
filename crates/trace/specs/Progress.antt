-- What the progress of a step says: the table of its cases, and what each means for place and state.
use Rattle.std.specs.Prelude.{ℕ, ◌+◌, Bool, true, false, ◌≡◌, List, leb, length, drop, get_or}
use Rattle.trace_record.specs.Layout.{record_size}
use Rattle.trace.specs.Step.{step, is_complete}
use Rattle.trace.specs.declared.state.Progress.{Progress}
use Rattle.trace.specs.declared.state.Progress.TheVariants.{Complete, Stopped, Walked}
use Rattle.trace.specs.declared.state.State.{State}
use Rattle.trace.specs.declared.state.StepResult.{StepResult}

-- whether the walk goes on; whether it is complete is `is_complete`
abbrev pub goes_on : Progress → Bool
goes_on Complete = false
goes_on Stopped = false
goes_on Walked = true

pub record StepSays (trace : List ℕ) (at : ℕ) (s : State) (r : StepResult) : Type 0 where
  -- complete exactly at the trace's end or past it
  pub complete : is_complete r.progress ≡ leb (length trace) at
  -- complete or stopped: place and state are as they were
  pub stays : goes_on r.progress ≡ false → (r.next ≡ at) × (r.state ≡ s)
  -- walked: the next place is behind a record of the kind that the first byte names
  pub goes : goes_on r.progress ≡ true → r.next ≡ at + record_size (get_or (drop at trace) 0 0)

abbrev pub StepsSay : Type 0
StepsSay = (trace : List ℕ) (at : ℕ) (s : State) → StepSays trace at s (step trace at s)
