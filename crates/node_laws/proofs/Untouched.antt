-- Each call's definition gives, beside a refusal, the node it was handed and the empty object, and a refused start writes nothing.
use Rattle.std.specs.Prelude.{Result, Ok, Err}
use Prim.Native.Nat.{ℕ}
use mathlib.Core.Path.{◌≡◌, refl, ap}
use mathlib.Core.Bool.{Bool, true, false, cond}
use mathlib.Core.List.{List, ◌++◌}
use lib.Dec.{leb}
use lib.ListN.{length, drop}
use Rattle.refusal.specs.RefusalLemmas.{accepted-not}
use Rattle.refusal.specs.declared.Refusal.{Refusal}
use Rattle.refusal.specs.declared.Refusal.TheVariants as refusal
use Rattle.byte_io.specs.Write.{Plan, refuse, emit, answer, after}
use Rattle.link_key.specs.Key.{no_key}
use Rattle.protocol_version.specs.declared.Version.{Version}
use Rattle.node_key_sets.specs.Frames as sets-spec
use Rattle.node_key_sets.specs.Frames.{without_key, receiving_key, verified_in, change_verdict}
use Rattle.node_key_sets.specs.declared.frames.KeyAnswer.{KeyAnswer}
use Rattle.node_key_sets.proofs.Untouched as sets
use Rattle.node_attempt.specs.Poll as attempt
use Rattle.node_attempt.proofs.Attempts.{poll-untouched}
use Rattle.node_parameters.specs.Octets.{valid_octets}
use Rattle.node.specs.Node.{empty_node, valid_role, attempting, keyed, made}
use Rattle.node.specs.Range.{valid}
use Rattle.node.specs.Timing.{start_plan, started_from, started_by, start, start_after, polled, polled_by, poll}
use Rattle.node.specs.Frames as frames
use Rattle.node.specs.Frames.{unsent, sent_by, send, send_counter, after_send, receive, reported, reported_by, verified}
use Rattle.node.specs.Lease.{holds, holding_verdict}
use Rattle.node_laws.specs.Calls.{NodeCall, starting, polling, delivering, asking, sending, receiving, reporting, nothing, written}
use Rattle.node_laws.specs.Calls.{reports, key, counted, due_object, holding_object, change_object, perform, Untouched, Demand1}
use Rattle.node.specs.declared.frames.VerifyResult.{VerifyResult}
use Rattle.node.specs.declared.frames.SendResult.{SendResult}
use Rattle.node.specs.declared.lease.LeaseStatus.{LeaseStatus}
use Rattle.node.specs.declared.lease.LeaseStatus.TheVariants as holding
use Rattle.node_parameters.specs.declared.octets.HeldOctets.{HeldOctets}
use Rattle.node.specs.declared.node.MakeResult.{MakeResult}
use Rattle.node.specs.declared.node.Node.{Node}
use Rattle.node_laws.proofs.Deliveries.{deliver-leaves}

-- ---- starting
module _ (n m : Node) (d : List ℕ) (k : Refusal) where
  room :
      (b : Bool) (l : ℕ) (p : List ℕ) → (started_by (cond b (Ok l) (Err refusal.Room)) n m).verdict ≡ Err k →
      ((started_by (cond b (Ok l) (Err refusal.Room)) n m).node ≡ n)
      × (cond b p d ≡ d) × ((started_by (cond b (Ok l) (Err refusal.Room)) n m).length ≡ 0)
  room true l p e = accepted-not k e
  room false l p e = (refl, refl, refl)

  start-untouched :
      (p : Plan) → (started_by (answer p d) n m).verdict ≡ Err k →
      ((started_by (answer p d) n m).node ≡ n) × (after p d ≡ d) × ((started_by (answer p d) n m).length ≡ 0)
  start-untouched (refuse j) e = (refl, refl, refl)
  start-untouched (emit p) e = room (leb (length p) (length d)) (length p) (p ++ drop (length p) d) e

-- ---- polling
node-polled :
    (n : Node) (time : ℕ) (k : Refusal) → attempt.due_verdict (poll n time).due ≡ Err k →
    ((poll n time).node ≡ n) × (due_object (poll n time).due ≡ nothing)
unfolding poll
node-polled n time k = go (valid n)
  where
    go :
        (b : Bool) → attempt.due_verdict (cond b (polled_by n (attempt.poll n.attempt time)) (polled (Err refusal.Range) n)).due
        ≡ Err k →
        ((cond b (polled_by n (attempt.poll n.attempt time)) (polled (Err refusal.Range) n)).node ≡ n)
        × (due_object (cond b (polled_by n (attempt.poll n.attempt time)) (polled (Err refusal.Range) n)).due ≡ nothing)
    go true e = let u = poll-untouched n.attempt time k e in (ap (attempting n) u.0, ap due_object u.1)
    go false e = (refl, refl)

-- ---- the answers that are one of several
holding-untouched : (h : Result LeaseStatus Refusal) (k : Refusal) → holding_verdict h ≡ Err k → holding_object h ≡ nothing
holding-untouched (Err j) k e = refl
holding-untouched (Ok holding.Valid) k e = accepted-not k e
holding-untouched (Ok holding.Expired) k e = accepted-not k e

abbrev Unanswered : KeyAnswer → Type 0
Unanswered x = (k : Refusal) → x.verdict ≡ Err k → x.key ≡ no_key

range-or : (b : Bool) (x : KeyAnswer) → Unanswered x → Unanswered (cond b x (without_key refusal.Range))
range-or true x p = p
range-or false x p = λ k e. refl

send-untouched :
    (n : Node) (type : ℕ) (k : Refusal) → (send n type).verdict ≡ Err k →
    (after_send n type ≡ n) × (counted (send n type).key (send_counter n type) ≡ counted no_key 0)
unfolding send send_counter after_send frames.sending
send-untouched n type k = go (valid n)
  where
    asked : Bool → SendResult
    asked b = cond b (sent_by n (sets-spec.sending n.sets type)) (unsent n)

    go :
        (b : Bool) → (asked b).answer.verdict ≡ Err k →
        ((asked b).node ≡ n) × (counted (asked b).answer.key (asked b).counter ≡ counted no_key 0)
    go true e = let u = sets.send-untouched n.sets type k e in (ap (keyed n) u.sets, rw (u.key, u.counter))
    go false e = (refl, refl)

receive-untouched : (n : Node) (type identifier : ℕ) → Unanswered (receive n type identifier)
unfolding receive
receive-untouched n type identifier =
    range-or (valid n) (receiving_key n.sets type identifier) (sets.receive-untouched n.sets type identifier)

report-untouched :
    (n : Node) (type identifier : ℕ) (k : Refusal) → change_verdict (verified n type identifier).change ≡ Err k →
    ((verified n type identifier).node ≡ n) × (change_object (verified n type identifier).change ≡ nothing)
unfolding verified
report-untouched n type identifier k = go (valid n)
  where
    told : Bool → VerifyResult
    told b = cond b (reported_by n (verified_in n.sets type identifier)) (reported (Err refusal.Range) n)

    go : (b : Bool) → change_verdict (told b).change ≡ Err k → ((told b).node ≡ n) × (change_object (told b).change ≡ nothing)
    go true e = let u = sets.verified-untouched n.sets type identifier k e in (ap (keyed n) u.0, ap change_object u.1)
    go false e = (refl, refl)

-- ---- all calls
untouched : (c : NodeCall) (n : Node) (k : Refusal) → (perform c n).verdict ≡ Err k → Untouched c n (perform c n)
unfolding perform start start_after
untouched (starting time timeout d) n k e =
    let u = start-untouched n (started_from n time timeout) d k (start_plan n time timeout) e in
    record { node = u.0; lent = u.1; object = ap written u.2 }
untouched (polling time) n k e = let u = node-polled n time k e in record { node = u.0; lent = refl; object = u.1 }
untouched (delivering delivery time payload) n k e =
    let u = deliver-leaves n delivery time payload k e in record { node = u.0; lent = refl; object = ap reports u.1 }
untouched (asking time) n k e = record { node = refl; lent = refl; object = holding-untouched (holds n time) k e }
untouched (sending type) n k e = let u = send-untouched n type k e in record { node = u.0; lent = refl; object = u.1 }
untouched (receiving type identifier) n k e =
    record { node = refl; lent = refl; object = ap key (receive-untouched n type identifier k e) }
untouched (reporting type identifier) n k e =
    let u = report-untouched n type identifier k e in
    record { node = u.0; lent = refl; object = u.1 }

cond-made :
    (b : Bool) (x y : MakeResult) (k : Refusal) → (x.verdict ≡ Err k → x.node ≡ empty_node) →
    (y.verdict ≡ Err k → y.node ≡ empty_node) → (cond b x y).verdict ≡ Err k → (cond b x y).node ≡ empty_node
cond-made true x y k p q e = p e
cond-made false x y k p q e = q e

made-empty :
    (version : Version) (role : ℕ) (network : HeldOctets) (k : Refusal) → (made version role network).verdict ≡ Err k →
    (made version role network).node ≡ empty_node
unfolding made
made-empty version role network k e =
    cond-made (valid_role role) _ _ k
    (λ f. cond-made (valid_octets network) _ _ k (λ g. accepted-not k g) (λ g. refl) f)
    (λ f. refl)
    e

pub node-demand1 : Demand1
node-demand1 = record { calls = untouched; made-empty = made-empty }
