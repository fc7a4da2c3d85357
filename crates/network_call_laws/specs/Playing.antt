-- The laws speak of something: a program can play every list of events, whatever stands in the structs.
use Rattle.std.specs.Prelude.{ℕ, ◌<◌, List, [], ◌∷◌, ◌≡◌, length}
use Rattle.node_call_laws.specs.Fits.{Callable}
use Rattle.network.specs.Events.{Event, turning, calling}
use Rattle.pothatch_laws.specs.Runs.{Runs}
use Rattle.network_call_laws.specs.Network.{Structs, Answer, Did}

-- turns of two nodes of k, with a frame type of one byte; and calls that a program can make at one of them
abbrev pub Playable : ℕ → Event → Type 0
Playable k (turning i j type) = (i < k) × (j < k) × (i ≡ j → ⊥) × (type < 256)
Playable k (calling i c) = (i < k) × Callable c

abbrev pub AllPlayable : ℕ → List Event → Type 0
AllPlayable k [] = Unit {0}
AllPlayable k (e ∷ es) = Playable k e × AllPlayable k es

pub record Plays (es : List Event) (structs : Structs) : Type 0 where
  pub told : List Answer
  pub left : Structs
  pub runs : Runs Did es structs told left

abbrev pub EventsPlay : Type 0
EventsPlay = (es : List Event) (structs : Structs) → AllPlayable (length structs) es → Plays es structs
