-- A call's definition changes the phase in three places alone:
-- a start that writes its request, a poll that gives up, an accepted join answer.
use Rattle.std.specs.Prelude.{Result, Ok, Err}
use Prim.Native.Nat.{ℕ}
use mathlib.Core.Path.{◌≡◌, refl, sym, ◌∙◌, ap}
use mathlib.Core.Bool.{Bool, true, false, cond}
use mathlib.Core.List.{List}
use lib.Dec.{leb}
use lib.ListN.{length}
use Rattle.refusal.specs.declared.Refusal.{Refusal}
use Rattle.refusal.specs.declared.Refusal.TheVariants as refusal
use Rattle.refusal.specs.Verdict.{Verdict}
use Rattle.byte_io.specs.Write.{answer}
use Rattle.refusal.specs.RefusalLemmas.{refused-not}
use Rattle.cojp.specs.declared.configuration.Configuration.{Configuration}
use Rattle.cojp.specs.declared.configuration.ConfigurationRead.{ConfigurationRead}
use Rattle.protocol_version.specs.declared.Version.{Version}
use Rattle.node_attempt.specs.Attempt.{is_waiting}
use Rattle.node_attempt.specs.Attempt as attempts
use Rattle.node_attempt.specs.Poll as attempt
use Rattle.node_attempt.specs.declared.attempt.Attempt.{Attempt}
use Rattle.node_attempt.specs.declared.poll.AttemptResult.{AttemptResult}
use Rattle.node_attempt.specs.delivery.Delivery.{attempt_after, belongs, may_come}
use Rattle.node_attempt.specs.declared.delivery.Delivery.{Delivery}
use Rattle.node_attempt.specs.declared.delivery.Delivery.TheVariants.{JoinAnswer, Update}
use Rattle.node_key_sets.specs.declared.sets.KeySets.{KeySets}
use Rattle.node_parameters.specs.declared.octets.HeldOctets.{HeldOctets}
use Rattle.node.specs.Node.{made}
use Rattle.node.specs.Range.{valid}
use Rattle.node.specs.Timing.{start_plan, started_from, started_by, start, polled, polled_by, poll}
use Rattle.node.specs.Delivery.{placement_of, fitted, placed_by, configured, undelivered, owes_identifier}
use Rattle.node.specs.Delivery.{apply, deliver_verdict, apply_read, deliver_by, read_for, deliver}
use Rattle.node.specs.Frames.{after_send, verified}
use Rattle.node.specs.declared.delivery.DeliveryResult.{DeliveryResult}
use Rattle.node.specs.declared.node.MakeResult.{MakeResult}
use Rattle.node.specs.declared.node.Node.{Node}
use Rattle.node_laws.specs.Phases.{waits, PhaseLaws}
use Rattle.node_laws.proofs.Parts.{made-cases, send-part, report-part}
use Rattle.node_laws.proofs.Deliveries.{deliver-leaves}

-- ---- making, starting, polling, verified frames
made-idle : (version : Version) (role : ℕ) (network : HeldOctets) → waits (made version role network).node ≡ false
made-idle version role network = made-cases (λ (m : MakeResult). waits m.node ≡ false) version role network (λ _ _. refl) refl

start-refused :
    (n : Node) (time timeout : ℕ) (d : List ℕ) (k : Refusal) → (start n time timeout d).verdict ≡ Err k →
    waits (start n time timeout d).node ≡ waits n
unfolding start
start-refused n time timeout d k e = go (answer (start_plan n time timeout) d) e
  where
    go : (w : Result ℕ Refusal) → (started_by w n (started_from n time timeout)).verdict ≡ Err k
        → waits (started_by w n (started_from n time timeout)).node ≡ waits n
    go (Err j) e = refl
    go (Ok l) e = refused-not k (sym e)

attempt-idle : (a : Attempt) (time : ℕ) → is_waiting a.phase ≡ false → (attempt.poll a time).attempt ≡ a
unfolding attempt.poll
attempt-idle a time w = rw w (go (attempts.valid a) (leb a.clock time))
  where
    go :
        (f t : Bool) →
        (cond f (cond t (attempt.step (Err refusal.Phase) a) (attempt.step (Err refusal.Clock) a))
        (attempt.step (Err refusal.Range) a)).attempt
        ≡ a
    go true true = refl
    go true false = refl
    go false t = refl

poll-idle : (n : Node) (time : ℕ) → waits n ≡ false → waits (poll n time).node ≡ false
unfolding poll
poll-idle n time w = go (valid n) (attempt.poll n.attempt time) (attempt-idle n.attempt time w)
  where
    go : (v : Bool) (s : AttemptResult) → s.attempt ≡ n.attempt
        → waits (cond v (polled_by n s) (polled (Err refusal.Range) n)).node ≡ false
    go true s e = ap (λ (a : Attempt). is_waiting a.phase) e ∙ w
    go false s e = w

verified-keeps : (n : Node) (type identifier : ℕ) → waits (verified n type identifier).node ≡ waits n
verified-keeps n type identifier = report-part waits n (λ s. refl) type identifier

send-keeps : (n : Node) (type : ℕ) → waits (after_send n type) ≡ waits n
send-keeps n type = send-part waits n (λ s. refl) type

-- ---- join answers and updates: an accepted one leaves the attempt that the call names
module _ (call : Delivery) (n : Node) (time : ℕ) where
  abbrev Moves : DeliveryResult → Type 0
  Moves m = m.verdict ≡ Ok tt → m.node.attempt ≡ attempt_after call n.attempt time

  no-moves : (k : Refusal) → Moves (undelivered k n)
  no-moves k e = refused-not k e

  cond-moves : (b : Bool) (x y : DeliveryResult) → Moves x → Moves y → Moves (cond b x y)
  cond-moves true x y p q = p
  cond-moves false x y p q = q

  placed_moves : (c : Configuration) (v : Verdict) (sets : KeySets) → Moves (placed_by v call n time c sets)
  unfolding configured
  placed_moves c (Err k) sets = no-moves k
  placed_moves c (Ok tt) sets = λ e. refl

  apply-moves : (c : Configuration) → Moves (apply call n time c)
  unfolding apply
  apply-moves c =
      cond-moves (owes_identifier call n c.network.disposition) _ _ (no-moves refusal.Owed)
      (placed_moves c (placement_of n c.keys).verdict (placement_of n c.keys).sets)

  read-moves : (v : Verdict) (c : Configuration) → Moves (apply_read v call n time c)
  read-moves (Err k) c = no-moves k
  read-moves (Ok tt) c = apply-moves (fitted n c)

  by-moves : (v : Verdict) (r : ConfigurationRead) → Moves (deliver_by v call n time r)
  by-moves (Err k) r = no-moves k
  by-moves (Ok tt) r = read-moves r.verdict r.configuration

  deliver-moves : (payload : List ℕ) → Moves (deliver call n time payload)
  unfolding deliver
  deliver-moves payload = by-moves (deliver_verdict call n time (length payload)) (read_for n payload)

  may-come : (v : Verdict) (r : ConfigurationRead) → (deliver_by v call n time r).verdict ≡ Ok tt → v ≡ Ok tt
  may-come (Err k) r e = refused-not k e
  may-come (Ok tt) r e = refl

  in-phase : (len : ℕ) → deliver_verdict call n time len ≡ Ok tt → belongs call n.attempt.phase ≡ true
  unfolding deliver_verdict may_come
  in-phase len = go (valid n) (attempts.valid n.attempt) (leb len 256) (leb n.attempt.clock time) (belongs call n.attempt.phase)
    where
      go :
          (v a l t b : Bool) →
          ◌≡◌ {A = Verdict}
          (cond v
          (cond a (cond l (cond t (cond b (Ok tt) (Err refusal.Phase)) (Err refusal.Clock))
          (Err refusal.Long)) (Err refusal.Range))
          (Err refusal.Range))
          (Ok tt) → b ≡ true
      go false a l t b e = refused-not refusal.Range e
      go true false l t b e = refused-not refusal.Range e
      go true true false t b e = refused-not refusal.Long e
      go true true true false b e = refused-not refusal.Clock e
      go true true true true true e = refl
      go true true true true false e = refused-not refusal.Phase e

  belongs-then : (payload : List ℕ) → (deliver call n time payload).verdict ≡ Ok tt → belongs call n.attempt.phase ≡ true
  unfolding deliver
  belongs-then payload e = in-phase (length payload) (may-come (deliver_verdict call n time (length payload)) (read_for n payload) e)

phase-after : (call : Delivery) (a : Attempt) (time : ℕ) → is_waiting a.phase ≡ false
    → is_waiting (attempt_after call a time).phase ≡ false
phase-after JoinAnswer a time w = refl
phase-after Update a time w = w

deliver-idle : (call : Delivery) (n : Node) (time : ℕ) (payload : List ℕ) → waits n ≡ false
    → waits (deliver call n time payload).node ≡ false
deliver-idle call n time payload w = go (deliver call n time payload).verdict refl
  where
    go : (v : Verdict) → (deliver call n time payload).verdict ≡ v → waits (deliver call n time payload).node ≡ false
    go (Err k) e = ap waits (deliver-leaves n call time payload k e).0 ∙ w
    go (Ok tt) e =
        ap (λ (a : Attempt). is_waiting a.phase) (deliver-moves call n time payload e) ∙ phase-after call n.attempt time w

pub phases : PhaseLaws
phases = record {
  made-idle = made-idle;
  start-refused = start-refused;
  deliver-idle = deliver-idle;
  verified-keeps = verified-keeps;
  send-keeps = send-keeps;
  poll-idle = poll-idle;
  answer-waits = λ n time payload e. belongs-then JoinAnswer n time payload e;
  answer-ends = λ n time payload e. ap (λ (a : Attempt). is_waiting a.phase) (deliver-moves JoinAnswer n time payload e);
}
