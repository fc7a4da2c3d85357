-- What is promised of the image and of the call.
use Rattle.std.specs.Prelude.{ℕ, false, List, ◌≡◌, length}
use Rattle.image.specs.Effects.{zeroed}
use Rattle.image.specs.Part.{RoundTrips, is_image}
use Rattle.node_image.specs.Node.{node_image}
use Rattle.trace.specs.Replay.{replay}
use Rattle.replay_calls.specs.Replayed.{replayed_image}
use Rattle.replay_calls.specs.Replays.{Replays}

-- what was stored is loaded as it was, and stored as it stood
pub record ReplayedImages : Type 0 where
  pub replayed-size : replayed_image.size ≡ 251
  pub replayed : RoundTrips replayed_image

-- refused, both structs are all zero; one of another length is not touched
pub record ReplayRefusals : Type 0 where
  pub node : (t n out : List ℕ) (r : ℕ) (n' out' : List ℕ) → Replays t n out r n' out' → (r ≡ 0 → ⊥) → n' ≡ zeroed 878 n
  pub told : (t n out : List ℕ) (r : ℕ) (n' out' : List ℕ) → Replays t n out r n' out' → (r ≡ 0 → ⊥) → out' ≡ zeroed 251 out
  -- where the trace made no node the struct is no image, so every call refuses it
  pub no_node : (t n out : List ℕ) (r : ℕ) (n' out' : List ℕ) → Replays t n out r n' out' → length n ≡ 878 → (replay t).made ≡ false
      → is_image node_image n' ≡ false
