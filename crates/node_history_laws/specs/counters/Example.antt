-- A border router joins with one key and sends with it; then an update brings another key before it and the key again. The key stays, and
-- its next frame has counter 1. Where an update takes the key away and another brings it back, it counts from 0 again.
use Rattle.std.specs.Prelude.{ℕ, ◌<◌, true, List, [], ◌∷◌, ◌++◌, replicate}
use Rattle.link_key.specs.Key.{key_of}
use Rattle.link_key.specs.declared.Key.{Key}
use Rattle.cojp.specs.Octets.{octets_of}
use Rattle.protocol_version.specs.declared.Version.TheVariants.{Draft}
use Rattle.node_attempt.specs.declared.delivery.Delivery.TheVariants.{JoinAnswer, Update}
use Rattle.node_parameters.specs.declared.octets.HeldOctets.{HeldOctets}
use Rattle.node.specs.Node.{made}
use Rattle.node.specs.declared.node.Node.{Node}
use Rattle.node_laws.specs.Calls.{NodeCall, starting, delivering, sending, perform}
use Rattle.node_history_laws.specs.counters.Reserved.{sendings}
use Rattle.node_history_laws.specs.counters.Rising.{after, Answers, Stays}

abbrev pub cafe : HeldOctets
cafe = record { held = true; value = octets_of (0xCA ∷ 0xFE ∷ []) }

-- the key, for all frames; another one for beacons alone
abbrev pub key : Key
key = key_of 1 0 (replicate 16 0x11)

abbrev pub alone : List ℕ
alone = 0xA1 ∷ 0x02 ∷ 0x82 ∷ 0x01 ∷ 0x50 ∷ replicate 16 0x11

abbrev pub beside : List ℕ
beside = 0xA1 ∷ 0x02 ∷ 0x85 ∷ 0x02 ∷ 0x06 ∷ 0x50 ∷ (replicate 16 0x22 ++ (0x01 ∷ 0x50 ∷ replicate 16 0x11))

abbrev pub without : List ℕ
without = 0xA1 ∷ 0x02 ∷ 0x83 ∷ 0x02 ∷ 0x06 ∷ 0x50 ∷ replicate 16 0x22

abbrev pub joining : List NodeCall
joining = starting 1000 10000 (replicate 8 0) ∷ delivering JoinAnswer 2000 alone ∷ []

abbrev pub joined : Node
joined = after (made Draft 1 cafe).node joining

abbrev pub sent : Node
sent = (perform (sending 1) joined).node

abbrev pub kept : List NodeCall
kept = delivering Update 3000 beside ∷ []

abbrev pub left : List NodeCall
left = delivering Update 3000 without ∷ delivering Update 4000 alone ∷ []

pub record CountersExample : Type 0 where
  pub first : Answers joined 1 key 0
  pub stays : Stays key sent kept
  pub second : Answers (after sent kept) 1 key 1
  -- by the law
  pub higher : 0 < 1
  -- three frames are reserved: the third of them, and the first from the stored copy
  pub third : Answers (after joined (sendings (1 ∷ 1 ∷ []))) 1 key 2
  pub from-copy : Answers (after joined (sendings (1 ∷ 1 ∷ 1 ∷ []))) 1 key 3
  pub apart : 2 < 3
  -- the key that left: the law does not speak of it
  pub again : Answers (after sent left) 1 key 0
