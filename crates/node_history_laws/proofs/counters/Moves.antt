-- What a call may make of a node's key sets: it leaves them, counts one sending, installs a set, or switches. Each call's definition says
-- which.
use Rattle.std.specs.Prelude.{Result, Ok, Err}
use Rattle.refusal.specs.declared.Refusal.{Refusal}
use Prim.Native.Nat.{ℕ}
use mathlib.Core.Path.{◌≡◌, refl, ap}
use mathlib.Core.Bool.{Bool, true, false, cond}
use mathlib.Core.List.{List}
use mathlib.Core.Option.{some}
use Rattle.refusal.specs.declared.Refusal.TheVariants as refusal
use Rattle.refusal.specs.Verdict.{Verdict}
use Rattle.byte_io.specs.Write.{answer}
use Rattle.link_key.specs.set.KeySet.{has}
use Rattle.link_key.specs.declared.set.key_set.KeySet.{KeySet}
use Rattle.link_key_counters.specs.Counters.{Slot, first_serving, raised}
use Rattle.cojp.specs.Reading.{if_taken}
use Rattle.cojp.specs.declared.configuration.Configuration.{Configuration}
use Rattle.cojp.specs.declared.configuration.ConfigurationRead.{ConfigurationRead}
use Rattle.cojp.specs.declared.disposition.Disposition.{Disposition}
use Rattle.cojp.specs.declared.disposition.Disposition.TheVariants.{Absent, Taken, Discarded}
use Rattle.node_key_sets.specs.Sets.{active_in, two_sets, placed, install}
use Rattle.node_key_sets.specs.Frames.{receiving_key, switched, effect_by, verified_in}
use Rattle.node_key_sets.specs.declared.sets.KeySets.{KeySets}
use Rattle.node_attempt.specs.Poll as attempt
use Rattle.node_attempt.specs.declared.delivery.Delivery.{Delivery}
use Rattle.node.specs.Delivery.{placement_of, fitted, configured, undelivered, owes_identifier, placed_by}
use Rattle.node.specs.Delivery.{apply, deliver_verdict, apply_read, deliver_by, read_for, deliver}
use Rattle.node.specs.Frames.{send, reported, reported_by, verified}
use Rattle.node.specs.Node.{is_border}
use Rattle.node.specs.Range.{valid}
use Rattle.node.specs.Timing.{start_plan, started_from, started_by, start, polled, polled_by, poll}
use Rattle.node.specs.declared.node.Node.{Node}
use Rattle.node_laws.specs.Answers.{AnswersSay}
use Rattle.node_laws.specs.Calls.{NodeCall, starting, polling, delivering, asking, sending, receiving, reporting, perform}
use Rattle.node_laws.specs.Laws.{NodeLaws}

pub data Move (border : Bool) (s t : KeySets) : Type 0 where
  stays : t ≡ s → Move border s t
  counts : (type : ℕ) (x : Slot) → first_serving type s.active ≡ some x → t ≡ two_sets (raised s.active x) s.pending
      → Move border s t
  installs : (set : KeySet) → t ≡ (install border s set).sets → Move border s t
  switches : t ≡ switched s → Move border s t

-- ---- starts and polls
start-moves : (w : Result ℕ Refusal) (n : Node) (time timeout : ℕ) → (started_by w n (started_from n time timeout)).node.sets ≡ n.sets
start-moves (Err k) n time timeout = refl
start-moves (Ok l) n time timeout = refl

poll-moves : (n : Node) (time : ℕ) → (poll n time).node.sets ≡ n.sets
unfolding poll
poll-moves n time = go (valid n)
  where
    go : (b : Bool) → (cond b (polled_by n (attempt.poll n.attempt time)) (polled (Err refusal.Range) n)).node.sets ≡ n.sets
    go true = refl
    go false = refl

-- ---- join answers and updates
module _ (delivery : Delivery) (n : Node) (time : ℕ) where
  abbrev Moved : KeySets → Type 0
  Moved t = Move (is_border n) n.sets t

  taken-moves : (r : Disposition) (set : KeySet) → Moved (if_taken r (install (is_border n) n.sets set) (placed n.sets)).sets
  taken-moves Absent set = stays refl
  taken-moves Discarded set = stays refl
  taken-moves Taken set = installs set refl

  placed_moves : (v : Verdict) (c : Configuration) (t : KeySets) → Moved t → Moved (placed_by v delivery n time c t).node.sets
  unfolding configured
  placed_moves (Err k) c t m = stays refl
  placed_moves (Ok tt) c t m = m

  apply-moves : (c : Configuration) → Moved (apply delivery n time c).node.sets
  unfolding apply
  apply-moves c = go (owes_identifier delivery n c.network.disposition)
    where
      go :
          (b : Bool) →
          Moved
          (cond b (undelivered refusal.Owed n)
          (placed_by (placement_of n c.keys).verdict delivery n time c (placement_of n c.keys).sets)).node.sets
      go true = stays refl
      go false = placed_moves (placement_of n c.keys).verdict c (placement_of n c.keys).sets
          (taken-moves c.keys.disposition c.keys.value)

  read-moves : (v : Verdict) (c : Configuration) → Moved (apply_read v delivery n time c).node.sets
  read-moves (Err k) c = stays refl
  read-moves (Ok tt) c = apply-moves (fitted n c)

  by-moves : (v : Verdict) (r : ConfigurationRead) → Moved (deliver_by v delivery n time r).node.sets
  by-moves (Err k) r = stays refl
  by-moves (Ok tt) r = read-moves r.verdict r.configuration

  deliver-moves : (payload : List ℕ) → Moved (deliver delivery n time payload).node.sets
  unfolding deliver
  deliver-moves payload = by-moves (deliver_verdict delivery n time _) (read_for n payload)

-- ---- verified frames
effect-moves : (border : Bool) (s : KeySets) (v : Verdict) (active : Bool) → Move border s (effect_by v active s).sets
effect-moves border s (Err k) active = stays refl
effect-moves border s (Ok tt) true = stays refl
effect-moves border s (Ok tt) false = switches refl

report-moves : (n : Node) (type identifier : ℕ) → Move (is_border n) n.sets (verified n type identifier).node.sets
unfolding verified verified_in
report-moves n type identifier = go (valid n)
  where
    go :
        (b : Bool) →
        Move (is_border n) n.sets
        (cond b (reported_by n (verified_in n.sets type identifier)) (reported (Err refusal.Range) n)).node.sets
    go true = effect-moves (is_border n) n.sets (receiving_key n.sets type identifier).verdict (has identifier (active_in n.sets))
    go false = stays refl

-- ---- every call
module _ (L : NodeLaws) (A : AnswersSay) where
  send-moves : (n : Node) (type : ℕ) (v : Verdict) → (send n type).verdict ≡ v
      → Move (is_border n) n.sets (perform (sending type) n).node.sets
  unfolding perform
  send-moves n type (Ok tt) e =
      let c = A.send-counts n type e in counts type c.slot c.first (ap (λ (m : Node). m.sets) c.after)
  send-moves n type (Err k) e = stays (ap (λ (m : Node). m.sets) (L.send-refused n type k e))

  pub moves : (c : NodeCall) (n : Node) → Move (is_border n) n.sets (perform c n).node.sets
  unfolding perform start
  moves (starting time timeout d) n = stays (start-moves (answer (start_plan n time timeout) d) n time timeout)
  moves (polling time) n = stays (poll-moves n time)
  moves (delivering delivery time payload) n = deliver-moves delivery n time payload
  moves (asking time) n = stays refl
  moves (sending type) n = send-moves n type (send n type).verdict refl
  moves (receiving type identifier) n = stays refl
  moves (reporting type identifier) n = report-moves n type identifier
