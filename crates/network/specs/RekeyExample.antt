-- Demand 3 speaks of something: a rekey of three nodes in a line, from the first list to the second round.
use Rattle.std.specs.Prelude.{ℕ, ◌≡◌, true, List, [], ◌∷◌, ◌++◌, replicate}
use Rattle.link_key.specs.set.KeySet.{no_keys}
use Rattle.link_key.specs.declared.Key.{Key}
use Rattle.link_key.specs.declared.set.key_set.KeySet.{KeySet}
use Rattle.link_key.specs.Key.{key_of}
use Rattle.cojp.specs.KeySet.{key_set_of}
use Rattle.cojp.specs.Octets.{octets_of}
use Rattle.protocol_version.specs.declared.Version.{Version}
use Rattle.protocol_version.specs.declared.Version.TheVariants.{Draft, Published}
use Rattle.link_key_counters.specs.Counters.{with_zero_counters}
use Rattle.node_key_sets.specs.Sets.{two_sets}
use Rattle.node_attempt.specs.Attempt.{attempt}
use Rattle.node_attempt.specs.declared.attempt.Phase.TheVariants.{Joined}
use Rattle.node.specs.Node.{active_of, pending_of, fresh_node, attempting, keyed}
use Rattle.node_laws.specs.Calls.{starting, polling, delivering}
use Rattle.node_laws.specs.Laws.{Takes}
use Rattle.node_attempt.specs.declared.delivery.Delivery.TheVariants.{JoinAnswer, Update}
use Rattle.node_parameters.specs.declared.octets.HeldOctets.{HeldOctets}
use Rattle.node.specs.declared.node.Node.{Node}
use Rattle.network.specs.Network.{Network, node_at}
use Rattle.network.specs.Events.{Event, turning, calling, run, Admissible, Throughout}
use Rattle.network.specs.Rounds.{Links, Neighbours, Hops, AllLinked, Rounds}
use Rattle.network.specs.Demand3.{Supposed, NoneUsedUp, NoneSendsUnder, Rekeyed, handed}

-- ---- the nodes: the old set is one key with identifier 1, the new one a key with identifier 5, both for all frames
abbrev pub old_keys : List Key
old_keys = key_of 1 0 (replicate 16 0x11) ∷ []

abbrev pub new_keys : List Key
new_keys = key_of 5 0 (replicate 16 0x22) ∷ []

abbrev pub cafe : HeldOctets
cafe = record { held = true; value = octets_of (0xCA ∷ 0xFE ∷ []) }

-- a node of a form that joined at time 12,000
abbrev pub joined_as : Version → ℕ → KeySet → Node
joined_as version role pending =
    attempting (keyed (fresh_node version role cafe) (two_sets (with_zero_counters (key_set_of old_keys)) (with_zero_counters pending)))
    (attempt Joined 12000 10000 10000 0)

abbrev pub joined : ℕ → KeySet → Node
joined role pending = joined_as Draft role pending

-- the border router, one in the middle, and one far from it, which is of the published form
abbrev pub line : Network
line = joined 1 no_keys ∷ joined 0 (key_set_of new_keys) ∷ joined_as Published 0 (key_set_of new_keys) ∷ []

abbrev pub line_links : Links
line_links = (0, 1) ∷ (1, 2) ∷ []

-- ---- what happens
-- a configuration with the new set and nothing else
abbrev pub payload : List ℕ
payload = 0xA1 ∷ 0x02 ∷ 0x82 ∷ 0x05 ∷ 0x50 ∷ replicate 16 0x22

-- before: frames pass, of known types and of an unknown one; an empty key set is refused (KEYS), and so are the border router's new set
-- where it comes with an old time (CLOCK) and a join answer where none is due (PHASE); the far node starts to join anew and is polled
abbrev pub first : List Event
first =
    turning 0 1 1
    ∷ turning 1 2 0
    ∷ turning 2 0 7
    ∷ calling 1 (delivering Update 13000 (0xA1 ∷ 0x02 ∷ 0x80 ∷ []))
    ∷ calling 0 (delivering Update 11000 payload)
    ∷ calling 1 (delivering JoinAnswer 13000 payload)
    ∷ calling 2 (starting 13000 10000 (replicate 8 0))
    ∷ calling 2 (polling 14000)
    ∷ calling 1 (polling 14000)
    ∷ []

-- the border router takes the new set
abbrev pub taken : Network
taken = handed (run line first) 0 Update 20000 payload

-- a round in the worst order: the farther senders come first
abbrev pub worst : List Event
worst = turning 2 1 1 ∷ turning 1 2 1 ∷ turning 1 0 1 ∷ turning 0 1 1 ∷ []

abbrev pub twice : List Event
twice = worst ++ (worst ++ [])

-- ---- no premise of demand 3 is empty, the second round is needed, and demand 3 says of the far node what comes out
pub record RekeyExample : Type 0 where
  pub supposed : Supposed line 0 new_keys 1
  pub before : Admissible line first
  pub unspent-before : Throughout (NoneUsedUp new_keys 1) line first
  pub takes : Takes Update (node_at (run line first) 0) 20000 payload new_keys
  pub after : Admissible taken twice
  pub unspent-after : Throughout (NoneUsedUp new_keys 1) taken twice
  pub linked : AllLinked line_links 1 twice
  pub rounds : Rounds line_links 1 2 twice
  pub hops : Hops (Neighbours line_links) 2 0 2
  -- after one round the far node still has the set pending, after two it is active
  pub one-round-active : active_of (node_at (run taken worst) 2) ≡ old_keys
  pub one-round-pending : pending_of (node_at (run taken worst) 2) ≡ new_keys
  pub two-rounds-active : active_of (node_at (run taken twice) 2) ≡ new_keys
  pub two-rounds-pending : pending_of (node_at (run taken twice) 2) ≡ []
  -- by demand 3
  pub none-sends : NoneSendsUnder new_keys line first
  pub rekeyed : Rekeyed new_keys 1 (node_at (run taken twice) 2)
