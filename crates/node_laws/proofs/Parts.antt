-- Starts and polls change a node's join attempt alone, sending and verified reports its key sets alone. So a part of the node beside these
-- two stays, but for what join answers and updates bring.
use Rattle.std.specs.Prelude.{Result, Ok, Err}
use Rattle.refusal.specs.declared.Refusal.{Refusal}
use Prim.Native.Nat.{ℕ}
use mathlib.Core.Path.{◌≡◌, refl}
use mathlib.Core.Bool.{Bool, true, false, cond}
use mathlib.Core.List.{List}
use Rattle.refusal.specs.declared.Refusal.TheVariants as refusal
use Rattle.byte_io.specs.Write.{answer}
use Rattle.protocol_version.specs.declared.Version.{Version}
use Rattle.node_attempt.specs.Attempt.{waiting_from}
use Rattle.node_attempt.specs.Poll as attempt
use Rattle.node_attempt.specs.declared.attempt.Attempt.{Attempt}
use Rattle.node_attempt.specs.declared.delivery.Delivery.{Delivery}
use Rattle.node_key_sets.specs.Frames as sets
use Rattle.node_key_sets.specs.Frames.{verified_in}
use Rattle.node_key_sets.specs.declared.sets.KeySets.{KeySets}
use Rattle.node_parameters.specs.Octets.{valid_octets, known_octets}
use Rattle.node_parameters.specs.declared.octets.HeldOctets.{HeldOctets}
use Rattle.node.specs.Delivery.{deliver}
use Rattle.node.specs.Frames as frames
use Rattle.node.specs.Frames.{unsent, sent_by, after_send, reported, reported_by, verified}
use Rattle.node.specs.Node.{valid_role, fresh_node, unmade, made, attempting, keyed}
use Rattle.node.specs.Range.{valid}
use Rattle.node.specs.Timing.{start_plan, started_from, started_by, start, polled, polled_by, poll}
use Rattle.node.specs.declared.node.MakeResult.{MakeResult}
use Rattle.node.specs.declared.node.Node.{Node}
use Rattle.node_laws.specs.Calls.{NodeCall, starting, polling, delivering, asking, sending, receiving, reporting, perform}

-- ---- making: a fresh node, or the refusal with the empty one
pub made-cases :
    (P : MakeResult → Type 0) (version : Version) (role : ℕ) (network : HeldOctets) →
    (valid_role role ≡ true → valid_octets network ≡ true →
    P (record { verdict = Ok tt; node = fresh_node version role (known_octets network) })) →
    P unmade → P (made version role network)
unfolding made
made-cases P version role network fresh none = go (valid_role role) (valid_octets network) refl refl
  where
    go :
        (r o : Bool) → valid_role role ≡ r → valid_octets network ≡ o →
        P (cond r (cond o (record { verdict = Ok tt; node = fresh_node version role (known_octets network) }) unmade) unmade)
    go true true e f = fresh e f
    go true false e f = none
    go false o e f = none

module _ {X : Type 0} (part : Node → X) (n : Node) where
  -- ---- a part that is not of the join attempt
  module _ (stays : (a : Attempt) → part (attempting n a) ≡ part n) where
    pub start-part : (time timeout : ℕ) (d : List ℕ) → part (start n time timeout d).node ≡ part n
    unfolding start
    start-part time timeout d = go (answer (start_plan n time timeout) d)
      where
        go : (w : Result ℕ Refusal) → part (started_by w n (started_from n time timeout)).node ≡ part n
        go (Err k) = refl
        go (Ok l) = stays (waiting_from time timeout)

    pub poll-part : (time : ℕ) → part (poll n time).node ≡ part n
    unfolding poll
    poll-part time = go (valid n)
      where
        go : (v : Bool) → part (cond v (polled_by n (attempt.poll n.attempt time)) (polled (Err refusal.Range) n)).node ≡ part n
        go true = stays (attempt.poll n.attempt time).attempt
        go false = refl

  -- ---- a part that is not of the key sets
  module _ (stays : (s : KeySets) → part (keyed n s) ≡ part n) where
    pub send-part : (type : ℕ) → part (after_send n type) ≡ part n
    unfolding after_send frames.sending
    send-part type = go (valid n)
      where
        go : (v : Bool) → part (cond v (sent_by n (sets.sending n.sets type)) (unsent n)).node ≡ part n
        go true = stays (sets.sending n.sets type).sets
        go false = refl

    pub report-part : (type identifier : ℕ) → part (verified n type identifier).node ≡ part n
    unfolding verified
    report-part type identifier = go (valid n)
      where
        go :
            (v : Bool) →
            part (cond v (reported_by n (verified_in n.sets type identifier)) (reported (Err refusal.Range) n)).node ≡ part n
        go true = stays (verified_in n.sets type identifier).sets
        go false = refl

  -- ---- a part of neither, which no join answer and no update changes
  pub call-part :
      ((a : Attempt) → part (attempting n a) ≡ part n) → ((s : KeySets) → part (keyed n s) ≡ part n) →
      ((delivery : Delivery) (time : ℕ) (payload : List ℕ) → part (deliver delivery n time payload).node ≡ part n) → (c : NodeCall) →
      part (perform c n).node ≡ part n
  unfolding perform
  call-part a k f (starting time timeout d) = start-part a time timeout d
  call-part a k f (polling time) = poll-part a time
  call-part a k f (delivering delivery time payload) = f delivery time payload
  call-part a k f (asking time) = refl
  call-part a k f (sending type) = send-part k type
  call-part a k f (receiving type identifier) = refl
  call-part a k f (reporting type identifier) = report-part k type identifier
