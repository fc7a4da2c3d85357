-- Keys for frames: what is sent comes from the active set, what is received from either,
-- and a verified frame switches by a pending key alone.
use Rattle.std.specs.Prelude.{Ok, Err}
use Prim.Native.Nat.{ℕ}
use native.Mathlib.Omega.{arith}
use mathlib.Core.Path.{◌≡◌, refl, ap, subst}
use mathlib.Core.Bool.{Bool, true, false, cond, not, ◌&&◌}
use mathlib.Core.Logic.{◌⊎◌, inl, inr, ⊎_elim}
use mathlib.Core.Option.{Option, none, some}
use mathlib.Core.List.{List, Memᴰ}
use borrow.Author.Tests.{le-leb, ne_eqb}
use lib.Dec.{eqb}
use Rattle.refusal.specs.RefusalLemmas.{refused-not}
use Rattle.refusal.specs.declared.Refusal.TheVariants as refusal
use Rattle.refusal.specs.Verdict.{Verdict}
use Rattle.link_key.specs.Key.{valid_key, covers}
use Rattle.link_key.specs.set.KeySet.{has, Covers, find_key}
use Rattle.link_key.specs.usage.Usage.{known_type}
use Rattle.link_key.specs.declared.Key.{Key}
use Rattle.link_key.specs.set.KeyLaws.{KeyLaws}
use Rattle.link_key_counters.specs.CounterLaws.{CounterLaws}
use Rattle.link_key_counters.specs.declared.TakenCounter.{TakenCounter}
use Rattle.link_key_counters.specs.Counters.{Slot, slots_of, last_counter, is_used_up, serves}
use Rattle.link_key_counters.specs.Counters.{first_serving, raised, taken_counter_on, take_counter}
use Rattle.node_key_sets.specs.Sets.{active_in, pending_in, two_sets, valid}
use Rattle.node_key_sets.specs.Frames.{with_key, without_key, unsent, sent_with, sending, or_else}
use Rattle.node_key_sets.specs.Frames.{if_covers, receiving_key, switched, effect_by, verified_in}
use Rattle.node_key_sets.specs.declared.frames.Change.TheVariants as change
use Rattle.node_key_sets.specs.declared.frames.KeyAnswer.{KeyAnswer}
use Rattle.node_key_sets.specs.declared.frames.SendKeyResult.{SendKeyResult}
use Rattle.node_key_sets.specs.declared.sets.KeySets.{KeySets}
use Rattle.lemmas.specs.logic.Tests.{both, both_left}
use Rattle.node_key_sets.proofs.Valid.{pending-valid, member-valid, same-valid}

-- no key of the list has the identifier
abbrev pub Without : ℕ → List Key → Type 0
Without identifier ks = (l : Key) → Memᴰ l ks → l.identifier ≡ identifier → ⊥

-- a key that receiving answers
record Received (s : KeySets) (type identifier : ℕ) (k : Key) : Type 0 where
  member : Memᴰ k (active_in s) ⊎ Memᴰ k (pending_in s)
  identified : k.identifier ≡ identifier
  covering : covers k type ≡ true

-- the key by which the pending set becomes active: pending, covering the type, its identifier not active
pub record Switching (s : KeySets) (type identifier : ℕ) : Type 0 where
  pub key : Key
  pub identified : key.identifier ≡ identifier
  pub member : Memᴰ key (pending_in s)
  pub covering : covers key type ≡ true
  pub absent : Without identifier (active_in s)

-- a key that covers the type and is not used up
pub record Serving (s : KeySets) (type : ℕ) : Type 0 where
  pub slot : Slot
  pub member : Memᴰ slot (slots_of s.active)
  pub serving : serves type slot ≡ true

-- an accepted sending: the first that serves, its key and counter, and the sets with that counter one higher
pub record Counted (s : KeySets) (type : ℕ) (x : SendKeyResult) : Type 0 where
  pub slot : Slot
  pub first : first_serving type s.active ≡ some slot
  pub key : x.answer.key ≡ slot.key
  pub counter : x.counter ≡ slot.counter
  pub sets : x.sets ≡ two_sets (raised s.active slot) s.pending

-- ---- sending, by the laws of counted sets
module _ (C : CounterLaws) where
  -- a set that covers the type, where none of its keys that do is used up
  pub covers-serves :
      (s : KeySets) (type : ℕ) → Covers (active_in s) type →
      ((x : Slot) → Memᴰ x (slots_of s.active) → covers x.key type ≡ true → x.counter ≡ last_counter → ⊥) → Serving s type
  covers-serves s type c fresh =
      let held = C.key-slot s.active c.key c.member in
      let covering : covers held.slot.key type ≡ true = rw held.key c.covering in
      record {
        slot = held.slot;
        member = held.member;
        serving =
            both (covers held.slot.key type) (not (is_used_up held.slot)) covering
            (rw (ne_eqb held.slot.counter last_counter (fresh held.slot held.member covering)));
      }

  pub can-send : KeyLaws → (s : KeySets) (type : ℕ) → Serving s type → (sending s type).answer.verdict ≡ Ok tt
  unfolding sending
  can-send K s type c =
      let covering = both_left (covers c.slot.key type) (not (is_used_up c.slot)) c.serving in
      let known : known_type type ≡ true = le-leb type 1 (K.covers-known-type c.slot.key type covering) in
      rw (known, C.spends type s.active c.slot c.member c.serving)

  -- what sending gives, by the answers to its tests: is the type known, does a key serve
  module _ (s : KeySets) (type : ℕ) where
    abbrev sent : Bool → Bool → SendKeyResult
    sent known found =
        let x = take_counter type s.active in
        cond known
        (cond found (record { answer = with_key x.key; counter = x.counter; sets = two_sets x.set s.pending })
        (unsent refusal.Silent s))
        (unsent refusal.Range s)

    sent-by :
        (t b : Bool) → (take_counter type s.active).found ≡ b → (sent t b).answer.verdict ≡ Ok tt →
        Memᴰ (sent t b).answer.key (active_in s) × (covers (sent t b).answer.key type ≡ true)
    sent-by true true f a = C.spent-from type s.active f
    sent-by true false f a = refused-not refusal.Silent a
    sent-by false b f a = refused-not refusal.Range a

    pub sent-from :
        (sending s type).answer.verdict ≡ Ok tt →
        Memᴰ (sending s type).answer.key (active_in s) × (covers (sending s type).answer.key type ≡ true)
    unfolding sending
    sent-from a = sent-by (known_type type) (take_counter type s.active).found refl a

    counted-by :
        (t : Bool) (o : Option Slot) → first_serving type s.active ≡ o →
        (cond t (sent_with s (taken_counter_on s.active o)) (unsent refusal.Range s)).answer.verdict ≡ Ok tt →
        Counted s type (cond t (sent_with s (taken_counter_on s.active o)) (unsent refusal.Range s))
    counted-by true (some x) f a = record { slot = x; first = f; key = refl; counter = refl; sets = refl }
    counted-by true none f a = refused-not refusal.Silent a
    counted-by false o f a = refused-not refusal.Range a

    sent-first : sending s type
        ≡ cond (known_type type) (sent_with s (taken_counter_on s.active (first_serving type s.active))) (unsent refusal.Range s)
    unfolding sending
    sent-first = ap (λ (x : TakenCounter). cond (known_type type) (sent_with s x) (unsent refusal.Range s)) (C.spend-first type s.active)

    pub sent-counts : (sending s type).answer.verdict ≡ Ok tt → Counted s type (sending s type)
    sent-counts a = rw sent-first (counted-by (known_type type) (first_serving type s.active) refl (rw sent-first at a))

    -- sending leaves the keys: only a counter of the active set rises
    keys-by : (t b : Bool) → ((sent t b).sets.active.set ≡ s.active.set) × ((sent t b).sets.pending ≡ s.pending)
    keys-by true true = (C.spend-keys type s.active, refl)
    keys-by true false = (refl, refl)
    keys-by false b = (refl, refl)

    pub sent-keys : ((sending s type).sets.active.set ≡ s.active.set) × ((sending s type).sets.pending ≡ s.pending)
    unfolding sending
    sent-keys = keys-by (known_type type) (take_counter type s.active).found

  pub sent-valid : (border : Bool) (s : KeySets) (type : ℕ) → valid border s ≡ true → valid border (sending s type).sets ≡ true
  sent-valid border s type e = let k = sent-keys s type in same-valid border s (sending s type).sets k.0 k.1 e

-- ---- by the laws of keys
module _ (K : KeyLaws) where
  -- ---- receiving
  module _ (border : Bool) (s : KeySets) (type : ℕ) (k : Key) (ok : valid border s ≡ true) (covering : covers k type ≡ true)
      (absent : Without k.identifier (active_in s)) (member : Memᴰ k (pending_in s)) where
    limits : valid_key k ≡ true
    limits = K.valid-each (pending_in s) (member-valid K s.pending.set k (pending-valid border s ok) member) k member

    not-zero : eqb k.identifier 0 ≡ false
    not-zero = let least = K.valid-identifier k limits in ne_eqb k.identifier 0 (omega arith)

    pub receive-pending : receiving_key s type k.identifier ≡ with_key k
    unfolding receiving_key
    receive-pending =
        let known : known_type type ≡ true = le-leb type 1 (K.covers-known-type k type covering) in
        let allowed = member-valid K s.pending.set k (pending-valid border s ok) member in
        rw (
          known,
          not-zero,
          K.none-find k.identifier (active_in s) (K.none_has k.identifier (active_in s) absent),
          K.find-own (pending_in s) k member (K.valid-none-twice (pending_in s) allowed),
          covering,
        )

  module _ (s : KeySets) (type identifier : ℕ) (x : KeyAnswer) (a : x.verdict ≡ Ok tt) where
    cover-cases :
        (k : Key) (b : Bool) → covers k type ≡ b → Memᴰ k (active_in s) ⊎ Memᴰ k (pending_in s) → k.identifier ≡ identifier →
        x ≡ cond b (with_key k) (without_key refusal.Silent) → Received s type identifier x.key
    cover-cases k true c m i e = rw e (record { member = m; identified = i; covering = c })
    cover-cases k false c m i e = refused-not refusal.Silent (rw e at a)

    received-by :
        (t : Bool) (o p : Option Key) → find_key identifier (active_in s) ≡ o → find_key identifier (pending_in s) ≡ p →
        x ≡ cond t (if_covers type (or_else o p)) (without_key refusal.Range) → Received s type identifier x.key
    received-by false o p f g e = refused-not refusal.Range (rw e at a)
    received-by true none none f g e = refused-not refusal.Silent (rw e at a)
    received-by true (some k) p f g e =
        let found = K.find-found identifier (active_in s) k f in
        cover-cases k (covers k type) refl (inl found.0) found.1 e
    received-by true none (some k) f g e =
        let found = K.find-found identifier (pending_in s) k g in
        cover-cases k (covers k type) refl (inr found.0) found.1 e

  received :
      (s : KeySets) (type identifier : ℕ) → (receiving_key s type identifier).verdict ≡ Ok tt →
      Received s type identifier (receiving_key s type identifier).key
  received s type identifier a =
      received-by s type identifier (receiving_key s type identifier) a (known_type type && not (eqb identifier 0))
      (find_key identifier (active_in s)) (find_key identifier (pending_in s)) refl refl (unfold receiving_key in refl)

  pub receive-from :
      (s : KeySets) (type identifier : ℕ) → (receiving_key s type identifier).verdict ≡ Ok tt →
      (Memᴰ (receiving_key s type identifier).key (active_in s) ⊎ Memᴰ (receiving_key s type identifier).key (pending_in s))
      × ((receiving_key s type identifier).key.identifier ≡ identifier)
      × (covers (receiving_key s type identifier).key type ≡ true)
  receive-from s type identifier a = let r = received s type identifier a in (r.member, r.identified, r.covering)

  -- ---- the verified report
  -- the key of an accepted frame is pending where no active key has its identifier
  switching-by :
      (s : KeySets) (type identifier : ℕ) (k : Key) → Received s type identifier k → has identifier (active_in s) ≡ false
      → Switching s type identifier
  switching-by s type identifier k r e =
      record {
        key = k;
        identified = r.identified;
        member = ⊎_elim (λ m. absurd (K.has-none identifier (active_in s) e k m r.identified)) (λ m. m) r.member;
        covering = r.covering;
        absent = K.has-none identifier (active_in s) e;
      }

  either-by :
      (s : KeySets) (type identifier : ℕ) (w : Verdict) (b : Bool) → (receiving_key s type identifier).verdict ≡ w →
      has identifier (active_in s) ≡ b →
      ((effect_by w b s).sets ≡ s) ⊎ (Switching s type identifier × ((effect_by w b s).sets ≡ switched s))
  either-by s type identifier (Err k) b e f = inl refl
  either-by s type identifier (Ok tt) true e f = inl refl
  either-by s type identifier (Ok tt) false e f =
      inr (switching-by s type identifier (receiving_key s type identifier).key (received s type identifier e) f, refl)

  pub verified-either :
      (s : KeySets) (type identifier : ℕ) →
      ((verified_in s type identifier).sets ≡ s) ⊎ (Switching s type identifier × ((verified_in s type identifier).sets ≡ switched s))
  unfolding verified_in
  verified-either s type identifier =
      either-by s type identifier (receiving_key s type identifier).verdict (has identifier (active_in s)) refl refl

  pub verified-switches :
      (border : Bool) (s : KeySets) (type identifier : ℕ) → valid border s ≡ true → Switching s type identifier →
      (verified_in s type identifier).sets ≡ switched s
  unfolding verified_in
  verified-switches border s type identifier ok w =
      let absent : Without w.key.identifier (active_in s) = rw w.identified w.absent in
      let r = receive-pending border s type w.key ok w.covering absent w.member in
      let answer = subst (λ (i : ℕ). receiving_key s type i ≡ with_key w.key) w.identified r in
      rw (answer, K.none_has identifier (active_in s) w.absent)

  says-by : (s : KeySets) (w : Verdict) (b : Bool) → (effect_by w b s).change ≡ Ok change.Switched → (effect_by w b s).sets ≡ switched s
  says-by s (Err k) b e = absurd (let z : ◌≡◌ {A = ℕ} 0 1 = cc in omega arith)
  says-by s (Ok tt) true e = absurd (let z : ◌≡◌ {A = ℕ} 0 1 = cc in omega arith)
  says-by s (Ok tt) false e = refl

  pub verified-says :
      (s : KeySets) (type identifier : ℕ) → (verified_in s type identifier).change ≡ Ok change.Switched →
      (verified_in s type identifier).sets ≡ switched s
  unfolding verified_in
  verified-says s type identifier e = says-by s (receiving_key s type identifier).verdict (has identifier (active_in s)) e
