-- Keys for frames: a valid node answers as its key sets do, and a verified frame leaves the sets or switches them.
use Rattle.std.specs.Prelude.{Ok, Err}
use Prim.Native.Nat.{ℕ}
use native.Mathlib.Omega.{arith}
use mathlib.Core.Path.{◌≡◌, refl, sym, ◌∙◌, ap}
use mathlib.Core.Bool.{Bool, true, false, cond, not, ◌||◌}
use mathlib.Core.Option.{some}
use borrow.Author.Tests.{eqb-false, not-true}
use mathlib.Core.Logic.{◌⊎◌, inl, inr, ⊎_elim}
use mathlib.Core.List.Memᴰ
use mathlib.Core.List.{Memᴰ}
use Rattle.refusal.specs.RefusalLemmas.{refused-not}
use Rattle.refusal.specs.declared.Refusal.TheVariants as refusal
use Rattle.link_key.specs.Key.{covers}
use Rattle.link_key.specs.set.KeySet.{keys_of, Covers}
use Rattle.link_key.specs.declared.Key.{Key}
use Rattle.link_key_counters.specs.CounterLaws.{CounterLaws}
use Rattle.link_key_counters.specs.Counters.{Slot, slots_of, last_counter, is_used_up, first_serving, raised}
use Rattle.link_key_counters.specs.declared.CountedSet.{CountedSet}
use Rattle.lemmas.specs.logic.Tests.{both_right}
use Rattle.protocol_version.specs.Version.{allows_additional_info}
use Rattle.node_key_sets.specs.Sets.{two_sets, plain_in}
use Rattle.node_key_sets.specs.Frames as sets-spec
use Rattle.node_key_sets.specs.Frames.{with_key, without_key, receiving_key, verified_in, switched}
use Rattle.node_key_sets.specs.declared.frames.Change.TheVariants as change
use Rattle.node_key_sets.specs.declared.frames.KeyAnswer.{KeyAnswer}
use Rattle.node_key_sets.specs.declared.sets.KeySets.{KeySets}
use Rattle.link_key.specs.set.KeyLaws.{KeyLaws}
use Rattle.node_key_sets.proofs.Valid.{switched-valid, switched-plain}
use Rattle.node_key_sets.proofs.FrameKeys as sets
use Rattle.node.specs.Node.{active_of, pending_of, is_border, keyed}
use Rattle.node.specs.Range.{version_valid, valid, Valid}
use Rattle.node.specs.Frames.{unsent, sent_by, sending, send, send_counter, after_send, receive, reported, reported_by, verified}
use Rattle.node_laws.specs.Laws.{Without, KeysStay, Switched, Unspent, CanSend, Sends, Counts, Switching}
use Rattle.node.specs.declared.frames.VerifyResult.{VerifyResult}
use Rattle.node.specs.declared.frames.SendResult.{SendResult}
use Rattle.node.specs.declared.node.Node.{Node}
use Rattle.node_laws.proofs.Valid.{keys-valid, keys-plain, attempt-valid, address-valid, others-valid, valid-by}
use Rattle.node_laws.proofs.KeysStay.{stay-self, stay-keyed}

-- an accepted answer comes of a valid node
answered-valid : (b : Bool) (x : KeyAnswer) → (cond b x (without_key refusal.Range)).verdict ≡ Ok tt → b ≡ true
answered-valid true x e = refl
answered-valid false x e = absurd (let z : ◌≡◌ {A = ℕ} 0 1 = cc in omega arith)

-- whether keys have additional information goes by the keys alone
same-plain :
    (i : Bool) (s t : KeySets) → t.active.set ≡ s.active.set → t.pending ≡ s.pending → (i || plain_in s) ≡ true
    → (i || plain_in t) ≡ true
same-plain i s t a p e = rw (a, p) e

-- ---- sending, by the laws of counted sets
module _ (C : CounterLaws) (n : Node) (type : ℕ) where
  abbrev asked : Bool → SendResult
  asked b = cond b (sent_by n (sets-spec.sending n.sets type)) (unsent n)

  send-is : Valid n → send n type ≡ (sets-spec.sending n.sets type).answer
  unfolding send sending
  send-is v = ap (λ (b : Bool). (asked b).answer) v

  asked-from :
      (b : Bool) → (asked b).answer.verdict ≡ Ok tt →
      Memᴰ (asked b).answer.key (active_of n) × (covers (asked b).answer.key type ≡ true)
  asked-from true a = sets.sent-from C n.sets type a
  asked-from false a = refused-not refusal.Range a

  pub send-from : (send n type).verdict ≡ Ok tt → Sends n type
  unfolding send sending
  send-from a = let s = asked-from (valid n) a in record { accepted = a; member = s.0; covering = s.1 }

  pub can-send : KeyLaws → Valid n → CanSend n type → Sends n type
  can-send K v c =
      send-from (rw (send-is v) (sets.can-send C K n.sets type (record { slot = c.slot; member = c.member; serving = c.serving })))

  pub covers-can : Covers (active_of n) type → Unspent (active_of n) type n → CanSend n type
  covers-can c unspent =
      let s = sets.covers-serves C n.sets type c fresh in record { slot = s.slot; member = s.member; serving = s.serving }
    where
      fresh : (x : Slot) → Memᴰ x (slots_of n.sets.active) → covers x.key type ≡ true → x.counter ≡ last_counter → ⊥
      fresh x m e f =
          unspent x.key (C.slot-key n.sets.active x m) e
          (record { slot = x; member = Memᴰ.append_left (slots_of n.sets.pending) m; key = refl; last = f })

  asked-counts :
      (b : Bool) → (asked b).answer.verdict ≡ Ok tt →
      (x : Slot) × (first_serving type n.sets.active ≡ some x) × ((asked b).answer.key ≡ x.key) × ((asked b).counter ≡ x.counter)
      × ((asked b).node ≡ keyed n (two_sets (raised n.sets.active x) n.sets.pending))
  asked-counts true a = let c = sets.sent-counts C n.sets type a in (c.slot, c.first, c.key, c.counter, ap (keyed n) c.sets)
  asked-counts false a = refused-not refusal.Range a

  pub send-counts : (send n type).verdict ≡ Ok tt → Counts n type
  unfolding send send_counter after_send sending
  send-counts a =
      let c = asked-counts (valid n) a in
      let test = both_right (covers c.0.key type) (not (is_used_up c.0)) (C.first-serves type n.sets.active c.0 c.1).1 in
      record {
        slot = c.0;
        first = c.1;
        key = c.2;
        counter = c.3;
        unused = λ e. eqb-false c.0.counter last_counter (not-true (is_used_up c.0) test) (sym c.3 ∙ e);
        after = c.4;
      }

  -- only a counter rises
  stay-sent : KeysStay n (keyed n (sets-spec.sending n.sets type).sets)
  unfolding version_valid
  stay-sent =
      let k = sets.sent-keys C n.sets type in
      let after = keyed n (sets-spec.sending n.sets type).sets in
      record {
        active = ap keys_of k.0;
        pending = ap (λ (s : CountedSet). keys_of s.set) k.1;
        role = refl;
        valid =
            λ v. valid-by after (sets.sent-valid C (is_border n) n.sets type (keys-valid n v))
            (same-plain (allows_additional_info n.version) n.sets after.sets k.0 k.1 (keys-plain n v)) (attempt-valid n v)
            (address-valid n v)
            (others-valid n v);
      }

  pub send-stays : KeysStay n (after_send n type)
  unfolding after_send sending
  send-stays = go (valid n)
    where
      go : (b : Bool) → KeysStay n (asked b).node
      go true = stay-sent
      go false = stay-self n

-- ---- by the laws of keys
module _ (K : KeyLaws) where
  -- ---- receiving
  module _ (n : Node) (type identifier : ℕ) where
    receive-is : Valid n → receive n type identifier ≡ receiving_key n.sets type identifier
    unfolding receive
    receive-is v = rw v

    pub receive-from :
        (receive n type identifier).verdict ≡ Ok tt →
        (Memᴰ (receive n type identifier).key (active_of n) ⊎ Memᴰ (receive n type identifier).key (pending_of n))
        × ((receive n type identifier).key.identifier ≡ identifier)
        × (covers (receive n type identifier).key type ≡ true)
    unfolding receive
    receive-from a =
        let v : Valid n = answered-valid (valid n) (receiving_key n.sets type identifier) a in
        rw v (sets.receive-from K n.sets type identifier (rw v at a))

  pub receive-pending :
      (n : Node) (type : ℕ) (k : Key) → Valid n → covers k type ≡ true → Without k.identifier (active_of n) →
      Memᴰ k (pending_of n) → receive n type k.identifier ≡ with_key k
  receive-pending n type k v c absent member =
      receive-is n type k.identifier v ∙ sets.receive-pending K (is_border n) n.sets type k (keys-valid n v) c absent member

  -- ---- the verified report
  switched-keyed : (n : Node) (s : KeySets) → s ≡ switched n.sets → Switched n (keyed n s)
  unfolding version_valid
  switched-keyed n s e =
      rw e
      (record {
        active = refl;
        pending = refl;
        role = refl;
        valid =
            λ v. valid-by (keyed n (switched n.sets)) (switched-valid K (is_border n) n.sets (keys-valid n v))
            (switched-plain (allows_additional_info n.version) n.sets (keys-plain n v)) (attempt-valid n v) (address-valid n v)
            (others-valid n v);
      })

  module _ (n : Node) (type identifier : ℕ) where
    abbrev reported_sets : KeySets
    reported_sets = (verified_in n.sets type identifier).sets

    verified-is : Valid n → verified n type identifier ≡ reported_by n (verified_in n.sets type identifier)
    unfolding verified
    verified-is v = rw v

    -- the sets' word for the key by which they switch is the node's
    switching : sets.Switching n.sets type identifier → Switching n type identifier
    switching s = record { key = s.key; identified = s.identified; member = s.member; covering = s.covering; absent = s.absent }

    either-by : KeysStay n (keyed n reported_sets) ⊎ (Switching n type identifier × Switched n (keyed n reported_sets))
    either-by =
        ⊎_elim (λ e. inl (stay-keyed n reported_sets e)) (λ s. inr (switching s.0, switched-keyed n reported_sets s.1))
        (sets.verified-either K n.sets type identifier)

    abbrev report_by : Bool → VerifyResult
    report_by b = cond b (reported_by n (verified_in n.sets type identifier)) (reported (Err refusal.Range) n)

    pub verified-either : KeysStay n (verified n type identifier).node
        ⊎ (Switching n type identifier × Switched n (verified n type identifier).node)
    unfolding verified
    verified-either = go (valid n)
      where
        go : (b : Bool) → KeysStay n (report_by b).node ⊎ (Switching n type identifier × Switched n (report_by b).node)
        go true = either-by
        go false = inl (stay-self n)

    pub verified-stays : Without identifier (pending_of n) → KeysStay n (verified n type identifier).node
    verified-stays without = ⊎_elim (λ k. k) (λ s. absurd (without s.0.key s.0.member s.0.identified)) verified-either

    pub verified-switches : Valid n → Switching n type identifier → Switched n (verified n type identifier).node
    verified-switches v s =
        rw (verified-is v)
        (switched-keyed n reported_sets
        (sets.verified-switches K (is_border n) n.sets type identifier (keys-valid n v)
        (record { key = s.key; identified = s.identified; member = s.member; covering = s.covering; absent = s.absent })))

    pub verified-says : (verified n type identifier).change ≡ Ok change.Switched → Switched n (verified n type identifier).node
    unfolding verified
    verified-says = go (valid n)
      where
        go : (b : Bool) → (report_by b).change ≡ Ok change.Switched → Switched n (report_by b).node
        go true e = switched-keyed n reported_sets (sets.verified-says K n.sets type identifier e)
        go false e = absurd (let z : ◌≡◌ {A = ℕ} 0 1 = cc in omega arith)
