-- What a call on a lent image answers: RANGE where the bytes are no image of a node, else what the call answers of the node in them.
use Rattle.refusal.specs.declared.Refusal.{Refusal}
use Rattle.std.specs.Prelude.{ℕ, cond, List, ◌≡◌, Result, Err}
use Rattle.image.specs.Effects.{on_accept, hand_verdict, ResultSpec}
use Rattle.image.specs.Part.{is_image}
use Rattle.node.specs.Frames.{sending, receive, verified}
use Rattle.node.specs.Lease.{holds}
use Rattle.node.specs.Timing.{poll}
use Rattle.node.specs.declared.lease.LeaseStatus.{LeaseStatus}
use Rattle.node.specs.declared.node.Node.{Node}
use Rattle.node_attempt.specs.declared.poll.Due.{Due}
use Rattle.node_image.specs.Answers.{frame_key_image}
use Rattle.node_image.specs.Node.{node_image}
use Rattle.node_key_sets.specs.declared.frames.Change.{Change}
use Rattle.refusal.specs.declared.Refusal.TheVariants.{Range}
use Rattle.refusal.specs.Verdict.{Verdict}

abbrev pub node_in : List ℕ → Node
node_in s = node_image.get s

abbrev pub due_in : List ℕ → ℕ → Result Due Refusal
due_in s time = cond (is_image node_image s) (poll (node_in s) time).due (Err Range)

abbrev pub holds_in : List ℕ → ℕ → Result LeaseStatus Refusal
holds_in s time = cond (is_image node_image s) (holds (node_in s) time) (Err Range)

abbrev pub change_in : List ℕ → ℕ → ℕ → Result Change Refusal
change_in s type identifier = cond (is_image node_image s) (verified (node_in s) type identifier).change (Err Range)

-- ---- calls that hand back a frame's key in w, 33 bytes, which holds w' afterwards; the number r was answered
-- receiving: the counter beside the key is 0
abbrev pub ReceivesIn : ℕ → ℕ → List ℕ → List ℕ → ℕ → List ℕ → Type 0
ReceivesIn type identifier s w r w' =
    ResultSpec 33 (is_image node_image s) (receive (node_in s) type identifier).verdict
    (frame_key_image.put ((receive (node_in s) type identifier).key, 0)) w r w'

abbrev pub send_verdict : ℕ → List ℕ → List ℕ → Verdict
send_verdict type s w = hand_verdict 33 (is_image node_image s) (sending (node_in s) type).answer.verdict w

-- sending: the image holds s' afterwards
pub record SendsIn (type : ℕ) (s w : List ℕ) (r : ℕ) (s' w' : List ℕ) : Type 0 where
  pub gives :
      ResultSpec 33 (is_image node_image s) (sending (node_in s) type).answer.verdict
      (frame_key_image.put ((sending (node_in s) type).answer.key, (sending (node_in s) type).counter)) w r w'
  pub node : s' ≡ on_accept (send_verdict type s w) s (node_image.put (sending (node_in s) type).node)
