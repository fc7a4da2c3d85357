-- A board from C, played: the law over lists of a node's calls is not about nothing, and these are the numbers and bytes that C sees.
use Rattle.std.specs.Prelude.{ℕ, List, [], ◌∷◌, ◌++◌, ◌≡◌, take, drop, replicate}
use Rattle.node_attempt.specs.declared.delivery.Delivery.TheVariants.{JoinAnswer}
use Rattle.node_laws.specs.Calls.{starting, polling, delivering, asking, sending, receiving, reporting}
use Rattle.pothatch_laws.specs.Node.{Call, making, calling, NodeOutput, node_output, Did}
use Rattle.pothatch_laws.specs.Runs.{Runs}

abbrev pub network : List ℕ
network = 0xCA ∷ 0xFE ∷ []

-- key 1, for all frames, and the address FFFD
abbrev pub configuration : List ℕ
configuration = 0xA2 ∷ 0x02 ∷ 0x82 ∷ 0x01 ∷ 0x50 ∷ (replicate 16 0x11 ++ (0x03 ∷ 0x81 ∷ 0x42 ∷ 0xFF ∷ 0xFD ∷ []))

-- there is no role 2, so there is no node to poll; then a 6TiSCH node starts, polls early, joins, asks for its address, and verifies a data
-- frame; it sends two data frames, receives one, and is asked for a key that it has not
abbrev pub calls : List Call
calls =
    making 0 2 0 []
    ∷ calling (polling 0)
    ∷ making 0 0 1 network
    ∷ calling (starting 0 10000 (replicate 8 0))
    ∷ calling (polling 5000)
    ∷ calling (delivering JoinAnswer 6000 configuration)
    ∷ calling (asking 7000)
    ∷ calling (reporting 1 1)
    ∷ calling (sending 1)
    ∷ calling (sending 1)
    ∷ calling (receiving 1 1)
    ∷ calling (receiving 1 2)
    ∷ []

-- the join request in a destination of eight bytes
abbrev pub request : List ℕ
request = 0xA1 ∷ 0x05 ∷ 0x42 ∷ 0xCA ∷ 0xFE ∷ 0 ∷ 0 ∷ 0 ∷ []

-- reports: key set and address taken, all else absent
abbrev pub reports : List ℕ
reports = 0x52 ∷ 1 ∷ 1 ∷ 1 ∷ replicate 13 0

-- key 1 with its frame counter
abbrev pub key_with : ℕ → List ℕ
key_with n = 0x4B ∷ 1 ∷ 1 ∷ 0 ∷ (replicate 16 0x11 ++ (replicate 12 0 ++ (n ∷ [])))

-- what they answer: RANGE, RANGE; the request's length; not yet; it holds; the pending set became active; and at the end SILENT
abbrev pub answered : List NodeOutput
answered =
    node_output 13 0 [] []
    ∷ node_output 13 0 [] []
    ∷ node_output 0 0 [] network
    ∷ node_output 0 5 [] request
    ∷ node_output 0 1 [] []
    ∷ node_output 0 0 reports configuration
    ∷ node_output 0 1 [] []
    ∷ node_output 0 2 [] []
    ∷ node_output 0 0 (key_with 0) []
    ∷ node_output 0 0 (key_with 1) []
    ∷ node_output 0 0 (key_with 0) []
    ∷ node_output 14 0 (replicate 33 0) []
    ∷ []

pub record NodeExample : Type 0 where
  pub image : List ℕ
  pub runs : Runs Did calls (replicate 878 0) answered image
  -- the next frame's counter, and the address: held, FFFD
  pub counter : take 4 (drop 246 image) ≡ 0 ∷ 0 ∷ 0 ∷ 2 ∷ []
  pub address : take 3 (drop 527 image) ≡ 1 ∷ 0xFF ∷ 0xFD ∷ []
