-- The walk's end is the replay's: node, places and every number.
use Prim.Native.Nat.{ℕ, ◌+◌, ◌^◌, ◌<◌}
use mathlib.Core.Path.{◌≡◌, refl}
use mathlib.Core.Bool.{Bool, true}
use mathlib.Core.List.{List}
use native.Mathlib.Omega.{arith}
use lib.ListN.{length, get_or}
use Rattle.refusal.specs.Refusal.{Numbered}
use Rattle.node.specs.Node.{empty_node}
use Rattle.node.specs.declared.node.Node.{Node}
use Rattle.node_laws.specs.Phases.{PhaseLaws}
use Rattle.trace.specs.Trace.{Trace, over, stop, then, parse, records_in, is_over, end_of}
use Rattle.trace.specs.Calls.{Answered, node_by, answers_of}
use Rattle.trace.specs.Statistics.{count, of_kind, refused_with, did_switch, each_from, statistics_of}
use Rattle.trace.specs.Replay.{makes_node, replay_of, replay}
use Rattle.trace.specs.Step.{afterwards, walked, nothing_yet, play, played, is_complete, replayed_by}
use Rattle.trace.specs.ReplayExact.{ReplayExact}
use Rattle.trace.specs.declared.state.ReplayStatistics.{ReplayStatistics}
use Rattle.trace.specs.declared.state.State.{State}
use Rattle.trace.specs.declared.state.StepResult.{StepResult}
use Rattle.trace.proofs.Counts.{sized-none, sized-play, exactly, kinds-add, kinds-zero}
use Rattle.trace.proofs.Counts.{refusals-add, refusals-zero, switches-add, each-is}
use Rattle.trace.proofs.Longest.{longest-is}
use Rattle.trace.proofs.Turns.{few-records}

-- ---- the node and the places
node-is : (n : Trace) (s : State) → (play n s).state.node ≡ node_by (records_in n) s.node
unfolding play afterwards
node-is (over at) s = refl
node-is (stop at) s = refl
node-is (then at r rest) s = node-is rest (walked r s)

complete-is : (n : Trace) (s : State) → is_complete (play n s).progress ≡ is_over n
unfolding play
complete-is (over at) s = refl
complete-is (stop at) s = refl
complete-is (then at r rest) s = complete-is rest (walked r s)

place_is : (n : Trace) (s : State) → (play n s).next ≡ end_of n
unfolding play
place_is (over at) s = refl
place_is (stop at) s = refl
place_is (then at r rest) s = place_is rest (walked r s)

still-made : (n : Trace) (s : State) → s.made ≡ true → (play n s).state.made ≡ true
unfolding play afterwards
still-made (over at) s m = m
still-made (stop at) s m = m
still-made (then at r rest) s m = still-made rest (walked r s) refl

made-is : (n : Trace) → (play n nothing_yet).state.made ≡ makes_node (records_in n)
unfolding play afterwards
made-is (over at) = refl
made-is (stop at) = refl
made-is (then at r rest) = still-made rest (walked r nothing_yet) refl

-- ---- the report
report-by :
    (r : ReplayStatistics) (kinds refusals : List ℕ) (switches longest : ℕ) → r.kinds ≡ kinds → r.refusals ≡ refusals →
    r.switches ≡ switches → r.longest ≡ longest →
    r ≡ record { kinds = kinds; refusals = refusals; switches = switches; longest = longest }
report-by r kinds refusals switches longest a b c d = rw (← a, ← b, ← c, ← d)

replayed-by :
    (x : StepResult) (complete : Bool) (place : ℕ) (made : Bool) (node : Node) (report : ReplayStatistics) →
    is_complete x.progress ≡ complete → x.next ≡ place → x.state.made ≡ made → x.state.node ≡ node → x.state.statistics ≡ report →
    replayed_by x ≡ record { complete = complete; offset = place; made = made; node = node; statistics = report }
replayed-by x complete place made node report a b c d e = rw (← a, ← b, ← c, ← d, ← e)

module _ (numbers : Numbered) (phases : PhaseLaws) (n : Trace) (few : length (records_in n) < 2 ^ 64) where
  abbrev last : State
  last = (play n nothing_yet).state

  abbrev said : List Answered
  said = answers_of (records_in n) empty_node

  kinds-are : last.statistics.kinds ≡ each_from 6 1 (λ kind. count (of_kind kind) said)
  kinds-are =
      each-is 6 (λ kind. count (of_kind kind) said) last.statistics.kinds (sized-play n nothing_yet sized-none).kinds
      (λ i j. exactly (λ s. get_or s.statistics.kinds i 0) (of_kind (i + 1)) (kinds-add i j) n (kinds-zero i) few)

  refusals-are : last.statistics.refusals ≡ each_from 22 1 (λ number. count (refused_with number) said)
  refusals-are =
      each-is 22 (λ number. count (refused_with number) said) last.statistics.refusals (sized-play n nothing_yet sized-none).refusals
      (λ i j. exactly (λ s. get_or s.statistics.refusals i 0) (refused_with (i + 1)) (refusals-add numbers i j) n (refusals-zero i) few)

  report-is : last.statistics ≡ statistics_of said
  unfolding statistics_of
  report-is =
      report-by last.statistics _ _ _ _ kinds-are refusals-are (exactly (λ s. s.statistics.switches) did_switch switches-add n refl few)
      (longest-is phases n)

  whole_is : replayed_by (play n nothing_yet) ≡ replay_of n
  whole_is =
      replayed-by (play n nothing_yet) _ _ _ _ _ (complete-is n nothing_yet) (place_is n nothing_yet) (made-is n)
      (node-is n nothing_yet) report-is

pub whole : Numbered → PhaseLaws → ReplayExact
unfolding played replay
whole numbers phases trace h = whole_is numbers phases (parse trace) (omega (arith, few-records trace))
