-- A replay from C hands back two structs, the node and what is told beside it: 0 also where it stopped early. RANGE where a struct is not
-- of its size; the other one is then all zero.
use Rattle.std.specs.Prelude.{ℕ, cond, ◌&&◌, List, ◌≡◌, eqb, length, replicate, Ok}
use Rattle.refusal.specs.Verdict.{verdict_number}
use Rattle.refusal.specs.Verdict.{Verdict}
use Rattle.image.specs.Effects.{checked_first, result_bytes}
use Rattle.node_image.specs.Node.{node_image}
use Rattle.trace.specs.Replay.{replay}
use Rattle.trace.specs.declared.state.ReplayResult.{ReplayResult}
use Rattle.replay_calls.specs.Replayed.{walk_of, replayed_image}

-- all zero, which is no image, where the trace made none
abbrev pub node_left : ReplayResult → List ℕ
node_left x = cond x.made (node_image.put x.node) (replicate 878 0)

abbrev pub replay_verdict : List ℕ → List ℕ → Verdict
replay_verdict n out = checked_first (eqb (length n) 878 && eqb (length out) 251) (Ok tt)

-- the trace t was replayed: the number r was answered, and the structs n and out hold n' and out' afterwards
pub record Replays (t n out : List ℕ) (r : ℕ) (n' out' : List ℕ) : Type 0 where
  pub number : r ≡ verdict_number (replay_verdict n out)
  pub node : n' ≡ result_bytes 878 (replay_verdict n out) (node_left (replay t)) n
  pub told : out' ≡ result_bytes 251 (replay_verdict n out) (replayed_image.put (walk_of (replay t))) out
