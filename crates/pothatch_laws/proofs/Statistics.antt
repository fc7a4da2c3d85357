-- Each record's call is one that C could make, so the node keeps its image; the report counts records, which are no more than the trace's
-- bytes, and no wait is longer than the time of its join answer.
use Prim.Native.Nat.{ℕ, zero, suc, ◌^◌, ◌<◌, ◌≤◌}
use mathlib.Core.Bool.{Bool, true, false, cond, not}
use mathlib.Core.List.{List, [], ◌∷◌, ◌++◌}
use mathlib.Core.Path.{◌≡◌, refl, sym, subst}
use native.Mathlib.Omega.{arith}
use lib.Dec.{ltb}
use lib.ListN.{length}
use Rattle.image.specs.Part as part
use Rattle.image.specs.Part.{AllBytes, Fits}
use Rattle.protocol_version.specs.declared.Version.TheVariants.{Draft}
use Rattle.node.specs.Node.{empty_node, made}
use Rattle.node.specs.declared.node.Node.{Node}
use Rattle.node_call_laws.specs.Fits.{CallsFit}
use Rattle.node_attempt.specs.declared.delivery.Delivery.TheVariants.{JoinAnswer, Update}
use Rattle.node_image.specs.Node.{node_image}
use Rattle.node_laws.specs.Calls.{starting, polling, delivering, reporting, perform}
use Rattle.node_parameters.specs.declared.octets.HeldOctets.{HeldOctets}
use Rattle.object_image.specs.Codes.{bool_part}
use Rattle.replay_calls.specs.Replayed.{statistics_part, walk_of, replayed_image}
use Rattle.trace.specs.Calls.{room, call_of, node_by, Answered, answers_of}
use Rattle.trace.specs.Trace.{Record, new_node, start, join_answer, update, verified, poll, parse, records_in, is_over}
use Rattle.trace.specs.Replay.{replay}
use Rattle.trace.specs.Statistics.{count, of_kind, refused_with, did_switch, each_from, starts_with}
use Rattle.trace.specs.Statistics.{joins_with, time_of, wait_from, waits, longest_of, statistics_of}
use Rattle.trace.specs.Contiguous.{RecordsContiguous}
use Rattle.pothatch_laws.proofs.Cases.{either}
use Rattle.pothatch_laws.proofs.Records.{RecordFits, AllFit, none_read, next-read, TraceValid, trace-fits}

-- ---- the node
module _ (follow : CallsFit) where
  call_fits : (r : Record) (n : Node) → RecordFits r → node_image.Fit n → node_image.Fit (call_of r n).node
  unfolding call_of perform
  call_fits (new_node role network) n h f =
      subst (λ (x : HeldOctets). node_image.Fit (made Draft role x).node) (sym h.same)
      (follow.made-fits 0 role h.has h.bytes h.are)
  call_fits (start time timeout) n h f = follow.keeps-fit (starting time timeout room) n h f
  call_fits (join_answer time payload) n h f = follow.keeps-fit (delivering JoinAnswer time payload) n h f
  call_fits (update time payload) n h f = follow.keeps-fit (delivering Update time payload) n h f
  call_fits (verified type identifier) n h f = follow.keeps-fit (reporting type identifier) n h f
  call_fits (poll time) n h f = follow.keeps-fit (polling time) n h f

  node-fits : (rs : List Record) (n : Node) → AllFit rs → node_image.Fit n → node_image.Fit (node_by rs n)
  node-fits rs n none_read f = f
  node-fits rs n (next-read {r = r} {rs = ss} h hs) f = node-fits ss (call_of r n).node hs (call_fits r n h f)

  empty-fits : node_image.Fit empty_node
  unfolding made
  empty-fits = follow.made-fits 0 2 0 [] (λ i. omega arith)

-- ---- counts
one : (b : Bool) → cond b 1 0 ≤ 1
one true = omega arith
one false = omega arith

count-few : (is : Answered → Bool) (said : List Answered) → count is said ≤ length said
count-few is [] = omega arith
count-few is (a ∷ rest) = omega (arith, one (is a), count-few is rest)

answers-many : (rs : List Record) (n : Node) → length (answers_of rs n) ≡ length rs
answers-many [] n = refl
answers-many (r ∷ rs) n = omega (arith, answers-many rs (call_of r n).node)

each_fits : (n first : ℕ) (f : ℕ → ℕ) → ((k : ℕ) → f k < 256 ^ 8) → Fits (part.number 8) n (each_from n first f)
each_fits zero first f h = part.none
each_fits (suc n) first f h = part.more (h first) (each_fits n (suc first) f h)

-- ---- waits
abbrev Short : ℕ → Type 0
Short w = w < 256 ^ 8

data Timed : List Answered → Type 0 where
  nobody : Timed []
  one_more : {a : Answered} {said : List Answered} → Short (time_of a.asked) → Timed said → Timed (a ∷ said)

time-short : (r : Record) → RecordFits r → Short (time_of r)
time-short (new_node role network) h = omega arith
time-short (start time timeout) h = h.0
time-short (join_answer time payload) h = h.0
time-short (update time payload) h = h.0
time-short (verified type identifier) h = omega arith
time-short (poll time) h = h

timed : (rs : List Record) (n : Node) → AllFit rs → Timed (answers_of rs n)
timed rs n none_read = nobody
timed rs n (next-read {r = r} {rs = ss} h hs) = one_more (time-short r h) (timed ss (call_of r n).node hs)

abbrev AllShort : List ℕ → Type 0
AllShort [] = Unit {0}
AllShort (w ∷ ws) = Short w × AllShort ws

append-short : (xs ys : List ℕ) → AllShort xs → AllShort ys → AllShort (xs ++ ys)
append-short [] ys f g = g
append-short (x ∷ xs) ys f g = (f.0, append-short xs ys f.1 g)

longest-short : (ws : List ℕ) → AllShort ws → Short (longest_of ws)
longest-short [] f = omega arith
longest-short (w ∷ ws) f = either Short (ltb (longest_of ws) w) (λ _. f.0) (λ _. longest-short ws f.1)

wait-short : (from : ℕ) (said : List Answered) → Timed said → AllShort (wait_from from said)
wait-short from said nobody = tt
wait-short from said (one_more {a = a} {said = rest} h hs) =
    either AllShort (starts_with a.asked a.verdict) (λ _. tt)
    (λ _. either AllShort (joins_with a.asked a.verdict) (λ _. (omega (arith, h), tt)) (λ _. wait-short from rest hs))

waits-short : (said : List Answered) → Timed said → AllShort (waits said)
waits-short said nobody = tt
waits-short said (one_more {a = a} {said = rest} h hs) =
    append-short (cond (starts_with a.asked a.verdict) (wait_from (time_of a.asked) rest) []) (waits rest)
    (either AllShort (starts_with a.asked a.verdict) (λ _. wait-short (time_of a.asked) rest hs) (λ _. tt))
    (waits-short rest hs)

-- ---- the replay
bool-fits : (b : Bool) → bool_part.Fit b
bool-fits true = (omega arith, refl)
bool-fits false = (omega arith, refl)

report-fits : (said : List Answered) → length said < 256 ^ 8 → Timed said → statistics_part.Fit (statistics_of said)
unfolding statistics_of
report-fits said h f = (
  each_fits 6 1 (λ k. count (of_kind k) said) (λ k. omega (arith, count-few (of_kind k) said)),
  (
    each_fits 22 1 (λ k. count (refused_with k) said) (λ k. omega (arith, count-few (refused_with k) said)),
    (omega (arith, count-few did_switch said), longest-short (waits said) (waits-short said f)),
  ),
)

module _ (stands : RecordsContiguous) (t : List ℕ) (b : AllBytes t) where
  whole : TraceValid t 0 (parse t)
  whole = trace-fits t b (parse t) false 0 (omega arith) (stands t)

  pub replayed-node-fits : CallsFit → node_image.Fit (replay t).node
  unfolding replay
  replayed-node-fits follow = node-fits follow (records_in (parse t)) empty_node whole.records (empty-fits follow)

  pub replayed-fits : length t < 256 ^ 8 → replayed_image.Fit (walk_of (replay t))
  unfolding replay
  replayed-fits h =
      let records = records_in (parse t) in (
        report-fits (answers_of records empty_node) (omega (arith, answers-many records empty_node, whole.few))
            (timed records empty_node whole.records),
        (bool-fits (not (is_over (parse t))), omega (arith, whole.inside)),
      )
