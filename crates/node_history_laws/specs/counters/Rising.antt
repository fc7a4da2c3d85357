-- No counter is used twice with one key (document 02, request 9), said of calls and answers: from a fresh node on, whatever calls come,
-- each sending under a key answers a higher counter than every one before it, while a key with its identifier and value stays active. A key
-- that left the active set and comes back counts from 0 again, which 02 asks for ("0 on arrival") and no node can tell: Example has one.
use Rattle.std.specs.Prelude.{ℕ, ◌<◌, ◌≡◌, true, List, [], ◌∷◌, Ok}
use Rattle.link_key.specs.Key.{same_secret}
use Rattle.link_key.specs.declared.Key.{Key}
use Rattle.link_key_counters.specs.history.Kept.{Holds}
use Rattle.protocol_version.specs.declared.Version.{Version}
use Rattle.node_parameters.specs.declared.octets.HeldOctets.{HeldOctets}
use Rattle.node.specs.Node.{active_of, made}
use Rattle.node.specs.declared.node.Node.{Node}
use Rattle.node_laws.specs.Calls.{NodeCall, sending, counted, perform}

-- the node after a list of calls, each handed the node that the one before left
abbrev pub after : Node → List NodeCall → Node
after n [] = n
after n (c ∷ cs) = after (perform c n).node cs

-- asked to send, the node answers this key with this counter
pub record Answers (n : Node) (type : ℕ) (k : Key) (counter : ℕ) : Type 0 where
  pub accepted : (perform (sending type) n).verdict ≡ Ok tt
  pub object : (perform (sending type) n).object ≡ counted k counter

-- at every moment of the calls, their start and their end included, the node's active set has a key with that identifier and value
abbrev pub Stays : Key → Node → List NodeCall → Type 0
Stays k n [] = Holds k (active_of n)
Stays k n (c ∷ cs) = Holds k (active_of n) × Stays k (perform c n).node cs

pub record CountersRise : Type 0 where
  -- a fresh node, any calls, a sending; any calls while its key stays; a sending under that key
  pub rises :
      (version : Version) (role : ℕ) (network : HeldOctets) (before : List NodeCall) (type : ℕ) (k : Key) (counter : ℕ) →
      Answers (after (made version role network).node before) type k counter →
      (between : List NodeCall) → Stays k (perform (sending type) (after (made version role network).node before)).node between →
      (again : ℕ) (l : Key) (next : ℕ) →
      Answers (after (perform (sending type) (after (made version role network).node before)).node between) again l next →
      same_secret l k ≡ true →
      counter < next
  -- "4,294,967,295 is never used"
  pub never-last : (n : Node) (type : ℕ) (k : Key) (counter : ℕ) → Answers n type k counter → counter ≡ 4294967295 → ⊥
