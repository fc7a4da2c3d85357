-- Demand 3 speaks of more than the line of RekeyExample: sets of several keys with different coverage, a border router that takes the new
-- set from a join answer, and a second list with starts, polls and refused deliveries between its turns.
use Rattle.std.specs.Prelude.{ℕ, ◌≡◌, List, [], ◌∷◌, ◌++◌, replicate}
use Rattle.link_key.specs.set.KeySet.{no_keys}
use Rattle.link_key.specs.declared.Key.{Key}
use Rattle.link_key.specs.declared.set.key_set.KeySet.{KeySet}
use Rattle.link_key.specs.Key.{key_of}
use Rattle.cojp.specs.KeySet.{key_set_of}
use Rattle.protocol_version.specs.declared.Version.{Version}
use Rattle.protocol_version.specs.declared.Version.TheVariants.{Draft, Published}
use Rattle.link_key_counters.specs.Counters.{with_zero_counters}
use Rattle.node_key_sets.specs.Sets.{two_sets}
use Rattle.node_attempt.specs.Attempt.{attempt}
use Rattle.node_attempt.specs.declared.attempt.Phase.TheVariants as phase
use Rattle.node_attempt.specs.declared.attempt.Phase.{Phase}
use Rattle.node.specs.Frames.{send}
use Rattle.node.specs.Node.{active_of, pending_of, fresh_node, attempting, keyed}
use Rattle.node_laws.specs.Calls.{starting, polling, delivering}
use Rattle.node_laws.specs.Laws.{Takes}
use Rattle.node_attempt.specs.declared.delivery.Delivery.TheVariants.{JoinAnswer, Update}
use Rattle.node.specs.declared.node.Node.{Node}
use Rattle.network.specs.Network.{Network, node_at}
use Rattle.network.specs.Events.{Event, turning, calling, run, Admissible, Throughout}
use Rattle.network.specs.Rounds.{Neighbours, Hops, AllLinked, Rounds}
use Rattle.network.specs.Demand3.{Supposed, NoneUsedUp, NoneSendsUnder, Rekeyed, handed}
use Rattle.network.specs.RekeyExample.{cafe, line_links}

-- ---- the sets: the old one has a key for beacons (usage 6) and one for data (usage 12); the new one has a key for beacons, one for data
-- (usage 9) and one for both (usage 0)
abbrev pub old_pair : List Key
old_pair = key_of 1 6 (replicate 16 0x11) ∷ key_of 2 12 (replicate 16 0x12) ∷ []

abbrev pub data_key : Key
data_key = key_of 6 9 (replicate 16 0x52)

abbrev pub new_three : List Key
new_three = key_of 5 6 (replicate 16 0x51) ∷ data_key ∷ key_of 7 0 (replicate 16 0x53) ∷ []

-- a node of a form, in a phase, its request last sent at 10,000
abbrev pub wide_node : Version → ℕ → Phase → KeySet → Node
wide_node version role phase pending =
    attempting (keyed (fresh_node version role cafe) (two_sets (with_zero_counters (key_set_of old_pair)) (with_zero_counters pending)))
    (attempt phase 12000 10000 10000 0)

-- the border router waits for its join answer; the far node is of the published form
abbrev pub wide : Network
wide =
    wide_node Draft 1 phase.Waiting no_keys
    ∷ wide_node Draft 0 phase.Joined (key_set_of new_three)
    ∷ wide_node Published 0 phase.Joined (key_set_of new_three)
    ∷ []

-- ---- what happens
-- a configuration with the new set and nothing else
abbrev pub three_keys : List ℕ
three_keys =
    0xA1 ∷ 0x02 ∷ 0x88
    ∷ 0x05 ∷ 0x06 ∷ 0x50
    ∷ (replicate 16 0x51 ++ (0x06 ∷ 0x09 ∷ 0x50 ∷ (replicate 16 0x52 ++ (0x07 ∷ 0x50 ∷ replicate 16 0x53))))

-- before: frames pass; the new set comes to the border router as an update, which is PHASE while it waits
abbrev pub first_wide : List Event
first_wide =
    turning 0 1 0
    ∷ turning 1 2 1
    ∷ calling 0 (delivering Update 13000 three_keys)
    ∷ calling 1 (starting 13000 10000 (replicate 64 0))
    ∷ calling 1 (polling 14000)
    ∷ []

-- the border router takes the new set from its join answer
abbrev pub taken_wide : Network
taken_wide = handed (run wide first_wide) 0 JoinAnswer 20000 three_keys

-- a round in the worst order; between its turns a poll, a start, and an update that is refused (CLOCK)
abbrev pub round_one : List Event
round_one =
    turning 2 1 1
    ∷ calling 1 (polling 21000)
    ∷ turning 1 2 1
    ∷ calling 2 (starting 21000 15000 (replicate 64 0))
    ∷ turning 1 0 1
    ∷ calling 0 (delivering Update 11000 three_keys)
    ∷ turning 0 1 1
    ∷ []

-- and another, with a poll at which the request is due again, a start that is refused (PHASE) and a join answer that is refused (KEYS)
abbrev pub round_two : List Event
round_two =
    turning 2 1 1
    ∷ calling 1 (polling 30000)
    ∷ turning 1 2 1
    ∷ calling 2 (starting 31000 15000 (replicate 64 0))
    ∷ turning 1 0 1
    ∷ calling 1 (delivering JoinAnswer 32000 (0xA1 ∷ 0x02 ∷ 0x80 ∷ []))
    ∷ turning 0 1 1
    ∷ []

abbrev pub second_wide : List Event
second_wide = round_one ++ (round_two ++ [])

pub record WideRekeyExample : Type 0 where
  -- no premise of demand 3 is empty
  pub supposed : Supposed wide 0 new_three 1
  pub before : Admissible wide first_wide
  pub unspent-before : Throughout (NoneUsedUp new_three 1) wide first_wide
  pub takes : Takes JoinAnswer (node_at (run wide first_wide) 0) 20000 three_keys new_three
  pub after : Admissible taken_wide second_wide
  pub unspent-after : Throughout (NoneUsedUp new_three 1) taken_wide second_wide
  pub linked : AllLinked line_links 1 second_wide
  pub rounds : Rounds line_links 1 2 second_wide
  pub hops : Hops (Neighbours line_links) 2 0 2
  -- the border router has joined with the set active; the far node follows in the second round and not in the first
  pub border-joined : (node_at taken_wide 0).attempt.phase ≡ phase.Joined
  pub border-active : active_of (node_at taken_wide 0) ≡ new_three
  pub one-round-active : active_of (node_at (run taken_wide round_one) 2) ≡ old_pair
  pub one-round-pending : pending_of (node_at (run taken_wide round_one) 2) ≡ new_three
  pub two-rounds-active : active_of (node_at (run taken_wide second_wide) 2) ≡ new_three
  pub two-rounds-pending : pending_of (node_at (run taken_wide second_wide) 2) ≡ []
  -- it sends data under the first key that covers them, which is the second of the set, and waits for a join answer since its start
  pub sends-under : (send (node_at (run taken_wide second_wide) 2) 1).key ≡ data_key
  pub far-waits : (node_at (run taken_wide second_wide) 2).attempt.phase ≡ phase.Waiting
  -- the poll at the node between them was due
  pub sent-again : (node_at (run taken_wide second_wide) 1).attempt.count ≡ 1
  -- by demand 3
  pub none-sends : NoneSendsUnder new_three wide first_wide
  pub rekeyed : Rekeyed new_three 1 (node_at (run taken_wide second_wide) 2)
