-- What the layer above may rely on of a node, whatever the definitions of its calls are; and when a join attempt gives up.
use Rattle.std.specs.Prelude.{ℕ, zero, suc, ◌+◌, ◌*◌, ◌≤◌, ◌≡◌, true, ◌⊎◌, Result, Ok, Err}
use Rattle.std.proofs.Math.Option.{some}
use mathlib.Core.List.{List, [], ◌∷◌, Memᴰ}
use Rattle.refusal.specs.declared.Refusal.{Refusal}
use Rattle.link_key.specs.Key.{covers, same_key}
use Rattle.link_key.specs.set.KeySet.{keys_of, Apart, Covers}
use Rattle.link_key.specs.declared.Key.{Key}
use Rattle.link_key.specs.declared.set.key_set.KeySet.{KeySet}
use Rattle.link_key_counters.specs.Counters.{Slot, slots_of, serves, first_serving, raised}
use Rattle.node_key_sets.specs.Sets.{slots_in, two_sets}
use Rattle.node_key_sets.specs.Frames.{with_key, change_verdict}
use Rattle.node_key_sets.specs.declared.frames.Change.TheVariants as change
use Rattle.node_attempt.specs.Poll as attempt
use Rattle.node_attempt.specs.declared.attempt.Phase.TheVariants as phase
use Rattle.node_attempt.specs.declared.poll.Due.{Due}
use Rattle.node_attempt.specs.declared.poll.Due.TheVariants.{SendAgain, GaveUp}
use Rattle.cojp.specs.declared.configuration.Configuration.{Configuration}
use Rattle.cojp.specs.declared.disposition.Disposition.TheVariants.{Taken}
use Rattle.protocol_version.specs.declared.Version.{Version}
use Rattle.node_parameters.specs.declared.octets.HeldOctets.{HeldOctets}
use Rattle.node.specs.Node.{active_of, pending_of, clock_of, keyed, made}
use Rattle.node.specs.Range.{Valid}
use Rattle.node.specs.Timing.{start, poll}
use Rattle.node.specs.Delivery.{fitted, read_for, deliver}
use Rattle.node.specs.Frames.{send, send_counter, after_send, receive, verified}
use Rattle.node_laws.specs.Calls.{NodeCall, perform}
use Rattle.node_laws.specs.Same.{octets_held}
use Rattle.node_attempt.specs.declared.delivery.Delivery.{Delivery}
use Rattle.node.specs.declared.node.Node.{Node}

-- ---- the words of the laws
-- no key of the list has the identifier
abbrev pub Without : ℕ → List Key → Type 0
Without identifier ks = (l : Key) → Memᴰ l ks → l.identifier ≡ identifier → ⊥

-- the node m has the keys and the role of n, and is valid if n is
pub record KeysStay (n m : Node) : Type 0 where
  pub active : active_of m ≡ active_of n
  pub pending : pending_of m ≡ pending_of n
  pub role : m.role ≡ n.role
  pub valid : Valid n → Valid m

-- what n had pending is active at m, and nothing is pending
pub record Switched (n m : Node) : Type 0 where
  pub active : active_of m ≡ pending_of n
  pub pending : pending_of m ≡ []
  pub role : m.role ≡ n.role
  pub valid : Valid n → Valid m

-- the node holds the key, active or pending, with the counter that is never used
pub record UsedUp (n : Node) (k : Key) : Type 0 where
  pub slot : Slot
  pub member : Memᴰ slot (slots_in n.sets)
  pub key : slot.key ≡ k
  pub last : slot.counter ≡ 4294967295

-- no key of the list that covers the type is used up at the node
abbrev pub Unspent : List Key → ℕ → Node → Type 0
Unspent ks type n = (k : Key) → Memᴰ k ks → covers k type ≡ true → UsedUp n k → ⊥

-- the node can send the type: an active key covers it and is not used up
pub record CanSend (n : Node) (type : ℕ) : Type 0 where
  pub slot : Slot
  pub member : Memᴰ slot (slots_of n.sets.active)
  pub serving : serves type slot ≡ true

-- asked to send the type, the node answers with an active key that covers it
pub record Sends (n : Node) (type : ℕ) : Type 0 where
  pub accepted : (send n type).verdict ≡ Ok tt
  pub member : Memᴰ (send n type).key (active_of n)
  pub covering : covers (send n type).key type ≡ true

-- the first active key that covers the type and is not used up is sent with its counter, which is one higher afterwards; nothing else
-- changes
pub record Counts (n : Node) (type : ℕ) : Type 0 where
  pub slot : Slot
  pub first : first_serving type n.sets.active ≡ some slot
  pub key : (send n type).key ≡ slot.key
  pub counter : send_counter n type ≡ slot.counter
  pub unused : send_counter n type ≡ 4294967295 → ⊥
  pub after : after_send n type ≡ keyed n (two_sets (raised n.sets.active slot) n.sets.pending)

-- the configuration that a payload holds, as the node applies it
abbrev pub configuration_in : Node → List ℕ → Configuration
configuration_in n payload = fitted n (read_for n payload).configuration

-- the key set that a payload holds, as the node reads it
abbrev pub set_in : Node → List ℕ → KeySet
set_in n payload = (read_for n payload).configuration.keys.value

-- the node accepts the payload and takes the key set in it, which has the keys ks
pub record Takes (delivery : Delivery) (n : Node) (time : ℕ) (payload : List ℕ) (ks : List Key) : Type 0 where
  pub accepted : (deliver delivery n time payload).verdict ≡ Ok tt
  pub taken : (deliver delivery n time payload).dispositions.keys ≡ Taken
  pub set : keys_of (set_in n payload) ≡ ks

-- the node m, which n became, has the keys active, and none pending
pub record Installed (ks : List Key) (n m : Node) : Type 0 where
  pub active : active_of m ≡ ks
  pub pending : pending_of m ≡ []
  pub role : m.role ≡ n.role
  pub valid : Valid m

-- the key by which the pending set of n becomes active: pending, covering the type, its identifier not active
pub record Switching (n : Node) (type identifier : ℕ) : Type 0 where
  pub key : Key
  pub identified : key.identifier ≡ identifier
  pub member : Memᴰ key (pending_of n)
  pub covering : covers key type ≡ true
  pub absent : Without identifier (active_of n)

pub record NodeLaws : Type 0 where
  -- a valid node's two sets share no identifier, and a border node has none pending
  pub valid-apart : (n : Node) → Valid n → Apart (active_of n) (pending_of n)
  pub border-none : (n : Node) → Valid n → n.role ≡ 1 → pending_of n ≡ []
  -- every call leaves a valid node valid, and its role and form as they were; a refused one leaves the node
  pub stays-valid : (c : NodeCall) (n : Node) → Valid n → Valid (perform c n).node
  pub role-stays : (c : NodeCall) (n : Node) → (perform c n).node.role ≡ n.role
  pub version-stays : (c : NodeCall) (n : Node) → (perform c n).node.version ≡ n.version
  pub refused-stays : (c : NodeCall) (n : Node) (k : Refusal) → (perform c n).verdict ≡ Err k → (perform c n).node ≡ n
  -- a node that is made is valid, and so is the empty one beside a refusal; it has the form, the role and the network identifier that were
  -- asked for
  pub made-valid : (version : Version) (role : ℕ) (network : HeldOctets) → Valid (made version role network).node
  pub made-version :
      (version : Version) (role : ℕ) (network : HeldOctets) → (made version role network).verdict ≡ Ok tt →
      (made version role network).node.version ≡ version
  pub made-role :
      (version : Version) (role : ℕ) (network : HeldOctets) → (made version role network).verdict ≡ Ok tt →
      (made version role network).node.role ≡ role
  pub made-network :
      (version : Version) (role : ℕ) (network : HeldOctets) → (made version role network).verdict ≡ Ok tt →
      octets_held (made version role network).node.network ≡ octets_held network
  -- a node whose active set covers a type, with no covering key used up, can send it; a node that can sends it; a key that is sent is an
  -- active one and covers the type; sending leaves the keys
  pub covers-can : (n : Node) (type : ℕ) → Covers (active_of n) type → Unspent (active_of n) type n → CanSend n type
  pub can-send : (n : Node) (type : ℕ) → Valid n → CanSend n type → Sends n type
  pub send-from : (n : Node) (type : ℕ) → (send n type).verdict ≡ Ok tt → Sends n type
  pub send-stays : (n : Node) (type : ℕ) → KeysStay n (after_send n type)
  pub send-refused : (n : Node) (type : ℕ) (k : Refusal) → (send n type).verdict ≡ Err k → after_send n type ≡ n
  -- a pending key that covers the type is found by its identifier, where no active key has it
  pub receive-pending :
      (n : Node) (type : ℕ) (k : Key) → Valid n → covers k type ≡ true → Without k.identifier (active_of n) →
      Memᴰ k (pending_of n) → receive n type k.identifier ≡ with_key k
  -- a key that receiving answers is active or pending, has the identifier and covers the type
  pub receive-from :
      (n : Node) (type identifier : ℕ) → (receive n type identifier).verdict ≡ Ok tt →
      (Memᴰ (receive n type identifier).key (active_of n) ⊎ Memᴰ (receive n type identifier).key (pending_of n))
      × ((receive n type identifier).key.identifier ≡ identifier)
      × (covers (receive n type identifier).key type ≡ true)
  -- a verified frame leaves the keys, or the pending set becomes active by a pending key that covers the type; such a key does that
  pub verified-either :
      (n : Node) (type identifier : ℕ) →
      KeysStay n (verified n type identifier).node ⊎ (Switching n type identifier × Switched n (verified n type identifier).node)
  pub verified-switches :
      (n : Node) (type identifier : ℕ) → Valid n → Switching n type identifier → Switched n (verified n type identifier).node
  pub verified-stays : (n : Node) (type identifier : ℕ) → Without identifier (pending_of n) → KeysStay n (verified n type identifier).node
  -- a refused report leaves the node
  pub report-refused :
      (n : Node) (type identifier : ℕ) (k : Refusal) → change_verdict (verified n type identifier).change ≡ Err k →
      (verified n type identifier).node ≡ n
  -- the answer says which of the two
  pub verified-says :
      (n : Node) (type identifier : ℕ) → (verified n type identifier).change ≡ Ok change.Switched →
      Switched n (verified n type identifier).node
  -- a key equals itself
  pub same-key-self : (k : Key) → same_key k k ≡ true
  -- starts and polls, refused or not, leave the keys; a refused join answer or update leaves the node
  pub start-stays : (n : Node) (time timeout : ℕ) (d : List ℕ) → KeysStay n (start n time timeout d).node
  pub poll-stays : (n : Node) (time : ℕ) → KeysStay n (poll n time).node
  pub deliver-refused :
      (delivery : Delivery) (n : Node) (time : ℕ) (payload : List ℕ) (k : Refusal) → (deliver delivery n time payload).verdict ≡ Err k →
      (deliver delivery n time payload).node ≡ n
  -- one that takes no key set leaves both sets, with their counters: what was pending stays so
  pub untaken-stays :
      (delivery : Delivery) (n : Node) (time : ℕ) (payload : List ℕ) → ((deliver delivery n time payload).dispositions.keys ≡ Taken → ⊥) →
      (deliver delivery n time payload).node.sets ≡ n.sets
  -- a border node that accepts a payload and takes its key set has that set active
  pub border-takes :
      (delivery : Delivery) (n : Node) (time : ℕ) (payload : List ℕ) (ks : List Key) → Valid n → n.role ≡ 1 →
      Takes delivery n time payload ks →
      Installed ks n (deliver delivery n time payload).node

-- ---- giving up
-- when a waiting node's next step is due
abbrev pub due_at : Node → ℕ
due_at n = attempt.due_at n.attempt

-- the node after so many polls, each exactly when due, and their answers
abbrev pub after_due : ℕ → Node → Node
after_due zero n = n
after_due (suc polls) n = after_due polls (poll n (due_at n)).node

abbrev pub answers_due : ℕ → Node → List (Result Due Refusal)
answers_due zero n = []
answers_due (suc polls) n = (poll n (due_at n)).due ∷ answers_due polls (poll n (due_at n)).node

-- the node has sent its request with first timeout t at that time: polled exactly when due, it sends four times more, and gives up 31t
-- after, which is 310,000 to 465,000 ms
pub record GaveUpAfter (n : Node) (time timeout : ℕ) : Type 0 where
  pub answers : answers_due 5 n ≡ Ok SendAgain ∷ Ok SendAgain ∷ Ok SendAgain ∷ Ok SendAgain ∷ Ok GaveUp ∷ []
  pub end : (after_due 5 n).attempt.phase ≡ phase.GaveUp
  pub at : clock_of (after_due 5 n) ≡ time + 31 * timeout
  pub earliest : time + 310000 ≤ clock_of (after_due 5 n)
  pub latest : clock_of (after_due 5 n) ≤ time + 465000

abbrev pub GivesUp : Type 0
GivesUp =
    (n : Node) (time timeout : ℕ) (d : List ℕ) → (start n time timeout d).verdict ≡ Ok tt →
    GaveUpAfter (start n time timeout d).node time timeout
