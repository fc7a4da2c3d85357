-- A network whose nodes stand in structs and are driven by the calls of the library for C: turns and calls do to the structs what they do
-- to the nodes. So what is promised of the network's runs, demand 3 above all, is promised of the structs.
use Rattle.std.specs.Prelude.{ℕ, ◌<◌, true, List, [], map, ◌≡◌, length, get_or, set, Result, Ok, Err}
use Rattle.refusal.specs.declared.Refusal.{Refusal}
use Rattle.image.specs.Part.{AllBytes, is_image}
use Rattle.link_key.specs.Key.{same_key}
use Rattle.link_key.specs.declared.Key.{Key}
use Rattle.node_image.specs.Answers.{frame_key_image}
use Rattle.node_image.specs.Node.{node_image}
use Rattle.node_laws.specs.Calls.{NodeCall, perform}
use Rattle.network.specs.Events.{Event, turning, calling, step, run}
use Rattle.network.specs.Network.{Network, node_at}
use Rattle.network_turn.specs.Turn.{turn, answer_number}
use Rattle.network_turn.specs.declared.answer.Answer as network
use Rattle.network_turn.specs.declared.answer.Answer.TheVariants.{Failed, Kept, Switched}
use Rattle.network_turn.specs.declared.answer.TurnResult.{TurnResult}
use Rattle.pothatch_laws.specs.Node.{NodeOutput, Called, told_of}
use Rattle.pothatch_laws.specs.Runs.{Runs, answers}
use Rattle.network_call_laws.specs.Turn.{identifier_in, key_in, Played}

-- the structs of a network's nodes, each at its node's place
abbrev pub Structs : Type 0
Structs = List (List ℕ)

abbrev pub struct_at : Structs → ℕ → List ℕ
struct_at structs i = get_or structs i []

-- each is an image, whoever stored it
abbrev pub Images : Structs → Type 0
Images structs = (i : ℕ) → i < length structs → AllBytes (struct_at structs i) × (is_image node_image (struct_at structs i) ≡ true)

-- the nodes that stand there, and the structs for nodes
abbrev pub loaded : Structs → Network
loaded structs = map node_image.get structs

abbrev pub stored : Network → Structs
stored net = map node_image.put net

-- ---- events from C
-- what they tell: a turn's number and the code of its change, or what a call answered
pub data Answer : Type 0 where
  of-turn : ℕ → ℕ → Answer
  of-call : NodeOutput → Answer

pub data Did : Event → Structs → Answer → Structs → Type 0 where
  -- a turn of two nodes
  turned : {i j type r c : ℕ} {structs : Structs} {s' w' : List ℕ} → i < length structs → j < length structs → (i ≡ j → ⊥)
      → Played type (struct_at structs i) (struct_at structs j) r c s' w'
      → Did (turning i j type) structs (of-turn r c) (set (set structs i s') j w')
  -- a call at a node
  called : {i : ℕ} {c : NodeCall} {structs : Structs} {t : NodeOutput} {s' : List ℕ} → i < length structs
      → Called c (struct_at structs i) t s'
      → Did (calling i c) structs (of-call t) (set structs i s')

-- ---- the same events in the network
-- the code of a turn's change, as of a report's: 0 where there is none
abbrev pub answer_code : Result network.Answer Refusal → ℕ
answer_code (Err k) = 0
answer_code (Ok Failed) = 0
answer_code (Ok Kept) = 1
answer_code (Ok Switched) = 2

abbrev pub of_turned : TurnResult → Answer
of_turned t = of-turn (answer_number t.answer) (answer_code t.answer)

abbrev pub tells : Event → Network → Answer
tells (turning i j type) net = of_turned (turn (node_at net i) (node_at net j) type)
tells (calling i c) net = of-call (told_of c (perform c (node_at net i)))

abbrev pub after : Event → Network → Network
after e net = step net e

-- the events es from C told ts and left the structs z: so they do in the network
pub record AsInNetwork (es : List Event) (net : Network) (ts : List Answer) (z : Structs) : Type 0 where
  pub told : ts ≡ answers tells after es net
  pub structs : z ≡ stored (run net es)
  pub nodes : loaded z ≡ run net es

-- ---- the claim
pub record NetworkRuns : Type 0 where
  -- two structs hold the same 27 bytes exactly where they hold the same key, and the key's identifier stands where it is read
  pub same_bytes : (k l : Key) (n m : ℕ) → frame_key_image.Fit (k, n) → frame_key_image.Fit (l, m)
      → key_in (frame_key_image.put (k, n)) ≡ key_in (frame_key_image.put (l, m)) → same_key k l ≡ true
  pub same_key_lem : (k l : Key) (n m : ℕ) → frame_key_image.Fit (k, n) → frame_key_image.Fit (l, m) → same_key k l ≡ true
      → key_in (frame_key_image.put (k, n)) ≡ key_in (frame_key_image.put (l, m))
  pub identifier : (k : Key) (n : ℕ) → identifier_in (frame_key_image.put (k, n)) ≡ k.identifier
  -- from any images on
  pub runs : (es : List Event) (structs : Structs) (ts : List Answer) (z : Structs) → Images structs → Runs Did es structs ts z
      → AsInNetwork es (loaded structs) ts z
