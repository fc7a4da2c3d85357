-- Request 4 speaks of something: a recorded trace of six records, one of each kind, and a seventh that stops the walk.
use Rattle.std.specs.Prelude.{ℕ, ◌≡◌, true, false, List, [], ◌∷◌, ◌++◌, replicate}
use Rattle.link_key.specs.Key.{key_of}
use Rattle.node_attempt.specs.declared.attempt.Phase.TheVariants.{Joined}
use Rattle.node.specs.Node.{active_of, pending_of, clock_of, empty_node}
use Rattle.trace.specs.Replay.{replay}
use Rattle.trace.specs.Step.{played, replayed_by}
use Rattle.trace.specs.declared.state.ReplayResult.{ReplayResult}
use Rattle.trace.specs.declared.state.ReplayStatistics.{ReplayStatistics}

-- ---- the records
-- a time below 2^16, in eight bytes
abbrev pub timed : ℕ → ℕ → List ℕ
timed high low = replicate 6 0 ++ (high ∷ low ∷ [])

-- kind 1: an ordinary node with network identifier CAFE
abbrev pub new_record : List ℕ
new_record = 1 ∷ 0 ∷ 2 ∷ 0xCA ∷ 0xFE ∷ replicate 14 0

-- kind 2: it starts at 1,000 with first timeout 10,000
abbrev pub start_record : List ℕ
start_record = 2 ∷ (timed 0x03 0xE8 ++ (0 ∷ 0 ∷ 0x27 ∷ 0x10 ∷ []))

-- a configuration with one key, identifier 5, for all frames: 21 bytes
abbrev pub one_key : List ℕ
one_key = 0xA1 ∷ 0x02 ∷ 0x82 ∷ 0x05 ∷ 0x50 ∷ replicate 16 0x22

-- kind 3: its join answer at 5,000, four seconds after the start
abbrev pub answer_record : List ℕ
answer_record = 3 ∷ (timed 0x13 0x88 ++ (0 ∷ 21 ∷ (one_key ++ replicate 235 0)))

-- kind 6: a poll at 6,000, which is PHASE since the node has joined
abbrev pub poll_record : List ℕ
poll_record = 6 ∷ timed 0x17 0x70

-- kind 5: a data frame under key 5 is verified, and the pending set becomes active
abbrev pub verified_record : List ℕ
verified_record = 5 ∷ 1 ∷ 5 ∷ []

-- kind 4: an update at 4,000, which is CLOCK
abbrev pub update_record : List ℕ
update_record = 4 ∷ (timed 0x0F 0xA0 ++ (0 ∷ 21 ∷ (one_key ++ replicate 235 0)))

-- 578 bytes: 19, 13, 267, 9, 3 and 267
abbrev pub six_records : List ℕ
six_records = new_record ++ (start_record ++ (answer_record ++ (poll_record ++ (verified_record ++ update_record))))

-- with a record of a kind that there is not behind it
abbrev pub stopped : List ℕ
stopped = six_records ++ (7 ∷ [])

-- ---- the report: one record of each kind, refusals 11 (CLOCK) and 16 (PHASE), one switch, a longest wait of 4,000 ms
abbrev pub six_statistics : ReplayStatistics
six_statistics = record {
  kinds = replicate 6 1;
  refusals = replicate 10 0 ++ (1 ∷ (replicate 4 0 ++ (1 ∷ replicate 6 0)));
  switches = 1;
  longest = 4000;
}

-- ---- the node that a replay ends with
pub record ReplayedNode (r : ReplayResult) : Type 0 where
  pub made : r.made ≡ true
  pub phase : r.node.attempt.phase ≡ Joined
  pub clock : clock_of r.node ≡ 5000
  pub active : active_of r.node ≡ key_of 5 0 (replicate 16 0x22) ∷ []
  pub pending : pending_of r.node ≡ []
  pub statistics : r.statistics ≡ six_statistics

pub record ReplayExample : Type 0 where
  -- the whole trace
  pub complete : (replay six_records).complete ≡ true
  pub end : (replay six_records).offset ≡ 578
  pub node : ReplayedNode (replay six_records)
  -- a bad record stops the walk where it begins, node and report as before it
  pub stops : (replay stopped).complete ≡ false
  pub begins : (replay stopped).offset ≡ 578
  pub as_before : ReplayedNode (replay stopped)
  -- a record before the first node stops it at once
  pub no_node : (replay (poll_record ++ six_records)).offset ≡ 0
  pub none_made : (replay (poll_record ++ six_records)).made ≡ false
  pub empty-node : (replay (poll_record ++ six_records)).node ≡ empty_node
  -- by the law: the walk record by record gives the same
  pub walked : replayed_by (played stopped) ≡ replay stopped
