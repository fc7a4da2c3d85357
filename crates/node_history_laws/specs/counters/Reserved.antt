-- Counters that a board reserves, so that it stores its node once for many frames (document 02, request 9: no counter is used twice with
-- one key). Before the frames it stores a copy of the node on which the sendings of their types were called; then it sends the frames with
-- the node itself, in that order. After a restart it continues with the stored copy, whether all frames were sent or only some.
use Rattle.std.specs.Prelude.{ℕ, ◌<◌, ◌≡◌, true, List, [], ◌∷◌, ◌++◌}
use Rattle.link_key.specs.Key.{same_secret}
use Rattle.link_key.specs.declared.Key.{Key}
use Rattle.protocol_version.specs.declared.Version.{Version}
use Rattle.node_parameters.specs.declared.octets.HeldOctets.{HeldOctets}
use Rattle.node.specs.Node.{made}
use Rattle.node_laws.specs.Calls.{NodeCall, sending}
use Rattle.node_history_laws.specs.counters.Rising.{after, Answers, Stays}

-- sendings of these frame types, one after another
abbrev pub sendings : List ℕ → List NodeCall
sendings [] = []
sendings (t ∷ ts) = sending t ∷ sendings ts

pub record CountersReserved : Type 0 where
  -- any node that calls lead to; frames `sent` of the reserved ones, then a frame under the key k, `left` are not sent; the stored copy,
  -- any calls on it while the key stays, and a sending under that key: its counter is higher
  pub higher :
      (version : Version) (role : ℕ) (network : HeldOctets) (before : List NodeCall) (sent : List ℕ) (type : ℕ) (left : List ℕ) (k : Key)
      (counter : ℕ) →
      Answers (after (after (made version role network).node before) (sendings sent)) type k counter →
      (later : List NodeCall) →
      Stays k (after (after (made version role network).node before) (sendings (sent ++ type ∷ left))) later →
      (again : ℕ) (l : Key) (next : ℕ) →
      Answers (after (after (after (made version role network).node before) (sendings (sent ++ type ∷ left))) later) again l next →
      same_secret l k ≡ true →
      counter < next
