-- The report of a trace, from its records and what their calls answered.
use Rattle.std.specs.Prelude.{ℕ, zero, suc, ◌+◌, ◌-◌, Bool, true, false, cond, List, [], ◌∷◌, ◌++◌, eqb, ltb, Ok, Err}
use Rattle.refusal.specs.Refusal.{number_of}
use Rattle.refusal.specs.Verdict.{Verdict}
use Rattle.trace.specs.Trace.{Record, new_node, start, join_answer, update, verified, poll, kind_of}
use Rattle.trace.specs.Calls.{Answered}
use Rattle.trace.specs.declared.state.ReplayStatistics.{ReplayStatistics}

-- ---- counts
abbrev pub count : (Answered → Bool) → List Answered → ℕ
count is [] = 0
count is (a ∷ rest) = cond (is a) 1 0 + count is rest

abbrev pub of_kind : ℕ → Answered → Bool
of_kind kind a = eqb (kind_of a.asked) kind

-- the number of the refusal, 0 where there is none
abbrev pub refusal_number : Verdict → ℕ
refusal_number (Ok tt) = 0
refusal_number (Err k) = number_of k

abbrev pub refused_with : ℕ → Answered → Bool
refused_with number a = eqb (refusal_number a.verdict) number

abbrev pub did_switch : Answered → Bool
did_switch a = a.switched

-- f of each number from `first` on, n of them
abbrev pub each_from : ℕ → ℕ → (ℕ → ℕ) → List ℕ
each_from zero first f = []
each_from (suc n) first f = f first ∷ each_from n (suc first) f

-- ---- waits, from an accepted start to its accepted join answer
abbrev pub is_accepted : Verdict → Bool
is_accepted (Ok tt) = true
is_accepted (Err k) = false

-- of an accepted start, and of an accepted join answer
abbrev pub starts_with : Record → Verdict → Bool
starts_with (new_node role network) v = false
starts_with (start time timeout) v = is_accepted v
starts_with (join_answer time payload) v = false
starts_with (update time payload) v = false
starts_with (verified type identifier) v = false
starts_with (poll time) v = false

abbrev pub joins_with : Record → Verdict → Bool
joins_with (new_node role network) v = false
joins_with (start time timeout) v = false
joins_with (join_answer time payload) v = is_accepted v
joins_with (update time payload) v = false
joins_with (verified type identifier) v = false
joins_with (poll time) v = false

-- the time in the record, where it has one
abbrev pub time_of : Record → ℕ
time_of (new_node role network) = 0
time_of (start time timeout) = time
time_of (join_answer time payload) = time
time_of (update time payload) = time
time_of (verified type identifier) = 0
time_of (poll time) = time

-- the wait of a start at this time: to the first accepted join answer behind it, unless another accepted start comes before that
abbrev pub wait_from : ℕ → List Answered → List ℕ
wait_from from [] = []
wait_from from (a ∷ rest) =
    cond (starts_with a.asked a.verdict) []
    (cond (joins_with a.asked a.verdict) ((time_of a.asked - from) ∷ []) (wait_from from rest))

-- the waits of all accepted starts
abbrev pub waits : List Answered → List ℕ
waits [] = []
waits (a ∷ rest) = cond (starts_with a.asked a.verdict) (wait_from (time_of a.asked) rest) [] ++ waits rest

abbrev pub greater : ℕ → ℕ → ℕ
greater m n = cond (ltb n m) m n

-- 0 if there is none
abbrev pub longest_of : List ℕ → ℕ
longest_of [] = 0
longest_of (w ∷ ws) = greater w (longest_of ws)

-- ---- the report: records by kind, 1 to 6; refusals by number, 1 to 22; switches; the longest wait in ms
unfoldable pub statistics_of : List Answered → ReplayStatistics
statistics_of answers = record {
  kinds = each_from 6 1 (λ kind. count (of_kind kind) answers);
  refusals = each_from 22 1 (λ number. count (refused_with number) answers);
  switches = count did_switch answers;
  longest = longest_of (waits answers);
}
