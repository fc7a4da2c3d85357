-- Which key a node sends and receives a frame with, and what a verified frame does to it.
use Rattle.refusal.specs.declared.Refusal.{Refusal}
use Rattle.std.specs.Prelude.{ℕ, cond, Result, Err}
use Rattle.refusal.specs.declared.Refusal.TheVariants as refusal
use Rattle.node_key_sets.specs.Frames as sets
use Rattle.node_key_sets.specs.Frames.{Effect, without_key, receiving_key, verified_in}
use Rattle.node_key_sets.specs.declared.frames.Change.{Change}
use Rattle.node_key_sets.specs.declared.frames.KeyAnswer.{KeyAnswer}
use Rattle.node_key_sets.specs.declared.frames.SendKeyResult.{SendKeyResult}
use Rattle.node.specs.Node.{keyed}
use Rattle.node.specs.Range.{valid}
use Rattle.node.specs.declared.frames.VerifyResult.{VerifyResult}
use Rattle.node.specs.declared.frames.SendResult.{SendResult}
use Rattle.node.specs.declared.node.Node.{Node}

-- each: RANGE: the node; then as its key sets
abbrev pub unsent : Node → SendResult
unsent n = record { answer = without_key refusal.Range; counter = 0; node = n }

abbrev pub sent_by : Node → SendKeyResult → SendResult
sent_by n x = record { answer = x.answer; counter = x.counter; node = keyed n x.sets }

unfoldable pub sending : Node → ℕ → SendResult
sending n type = cond (valid n) (sent_by n (sets.sending n.sets type)) (unsent n)

-- the key that is answered, the counter beside it, and the node after it was asked to send
unfoldable pub send : Node → ℕ → KeyAnswer
send n type = (sending n type).answer

unfoldable pub send_counter : Node → ℕ → ℕ
send_counter n type = (sending n type).counter

unfoldable pub after_send : Node → ℕ → Node
after_send n type = (sending n type).node

unfoldable pub receive : Node → ℕ → ℕ → KeyAnswer
receive n type identifier = cond (valid n) (receiving_key n.sets type identifier) (without_key refusal.Range)

abbrev pub reported : Result Change Refusal → Node → VerifyResult
reported change n = record { change = change; node = n }

abbrev pub reported_by : Node → Effect → VerifyResult
reported_by n h = reported h.change (keyed n h.sets)

unfoldable pub verified : Node → ℕ → ℕ → VerifyResult
verified n type identifier =
    cond (valid n) (reported_by n (verified_in n.sets type identifier)) (reported (Err refusal.Range) n)
