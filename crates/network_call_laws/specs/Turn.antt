-- A turn as a program plays it in C, on the struct s of the sender and the struct w of the receiver: it asks the one for the key to send a
-- frame type with, and the other for the key to receive it with, by the identifier that it was handed. The radio verifies the frame exactly
-- where the two keys are equal; then the program reports it to the receiver.
use Rattle.std.specs.Prelude.{ℕ, List, ◌≡◌, get_or, take, drop}
use Rattle.node_laws.specs.Calls.{NodeCall, sending, receiving, reporting}
use Rattle.pothatch_laws.specs.Node.{NodeOutput, Called}

-- ---- struct pothatch_frame_key: kind 1, layout 1, key 27, counter 4. A key begins with its identifier
abbrev pub identifier_in : List ℕ → ℕ
identifier_in k = get_or k 2 0

abbrev pub key_in : List ℕ → List ℕ
key_in k = take 27 (drop 2 k)

-- ---- the calls of a turn
-- a call was made and not refused
pub record Accepted (c : NodeCall) (s : List ℕ) (t : NodeOutput) (s' : List ℕ) : Type 0 where
  pub called : Called c s t s'
  pub accepted : t.number ≡ 0

-- a call was made and refused
pub record Refused (c : NodeCall) (s : List ℕ) (t : NodeOutput) (s' : List ℕ) : Type 0 where
  pub called : Called c s t s'
  pub refused : t.number ≡ 0 → ⊥

-- the numbers are what the turn came to: the refusal's number, 0 where there is none; and the code of the report's change, 0 where there
-- was no report. The structs are s and w afterwards
pub data Played (type : ℕ) (s w : List ℕ) : ℕ → ℕ → List ℕ → List ℕ → Type 0 where
  -- the sender refuses: the receiver is not asked
  not-sent : {a : NodeOutput} {s' : List ℕ} → Refused (sending type) s a s' → Played type s w a.number 0 s' w
  -- the receiver refuses
  not-received : {a b : NodeOutput} {s' : List ℕ} → Accepted (sending type) s a s'
      → Refused (receiving type (identifier_in a.struct)) w b w
      → Played type s w b.number 0 s' w
  -- the receiver has another key: the frame fails, which is no call
  failed : {a b : NodeOutput} {s' : List ℕ} → Accepted (sending type) s a s' → Accepted (receiving type (identifier_in a.struct)) w b w
      → (key_in a.struct ≡ key_in b.struct → ⊥) → Played type s w 0 0 s' w
  -- the receiver has the same key: the frame is verified, and reported
  verified : {a b d : NodeOutput} {s' w' : List ℕ} → Accepted (sending type) s a s'
      → Accepted (receiving type (identifier_in a.struct)) w b w
      → key_in a.struct ≡ key_in b.struct → Called (reporting type (identifier_in a.struct)) w d w'
      → Played type s w d.number d.value s' w'
