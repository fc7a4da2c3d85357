-- While the key stays, no move of the sets lowers its counter, and a sending under it answers the counter and leaves one more.
use Rattle.std.specs.Prelude.{Ok}
use Prim.Native.Nat.{ℕ, ◌≤◌, ◌<◌}
use native.Mathlib.Omega.{arith}
use mathlib.Core.Path.{◌≡◌, refl, sym, ap, subst, ◌∙◌}
use mathlib.Core.Bool.{Bool, true, false, cond}
use mathlib.Core.List.{List, [], ◌∷◌, Memᴰ}
use mathlib.Core.Option.{some}
use lib.ListN.{length}
use Rattle.refusal.specs.Verdict.{verdict_number}
use Rattle.refusal.specs.declared.Refusal.TheVariants as refusal
use Rattle.lemmas.specs.logic.Tests.{first}
use Rattle.link_key.specs.Key.{same_secret}
use Rattle.link_key.specs.declared.Key.{Key}
use Rattle.link_key.specs.set.KeyLaws.{KeyLaws}
use Rattle.link_key.specs.set.KeySet.{keys_of, no_keys, valid_set, same_keys, shares}
use Rattle.link_key.specs.declared.set.key_set.KeySet.{KeySet}
use Rattle.link_key_counters.specs.CounterLaws.{CounterLaws}
use Rattle.link_key_counters.specs.Counters.{Slot, first_serving, raised, kept_counter}
use Rattle.link_key_counters.specs.declared.CountedSet.{CountedSet}
use Rattle.link_key_counters.specs.history.Kept.{Holds, Sound, KeptLaws}
use Rattle.node_key_sets.specs.Sets as sets
use Rattle.node_key_sets.specs.Sets.{active_in, two_sets, unplaced, decide_install, install}
use Rattle.node_key_sets.specs.declared.sets.KeySets.{KeySets}
use Rattle.node_key_sets.proofs.Valid.{active-valid, member-valid, as-valid}
use Rattle.protocol_version.specs.Version.{allows_additional_info}
use Rattle.protocol_version.specs.declared.Version.{Version}
use Rattle.node_parameters.specs.declared.octets.HeldOctets.{HeldOctets}
use Rattle.node_attempt.specs.Attempt as attempt
use Rattle.node_parameters.specs.Lease.{valid_address}
use Rattle.node_parameters.specs.Octets.{valid_octets, known_octets}
use Rattle.node.specs.Frames.{send, send_counter}
use Rattle.node.specs.Node.{active_of, is_border, clock_of, valid_role, fresh_node, unmade, made}
use Rattle.node.specs.Range.{valid, others_valid, Valid}
use Rattle.node.specs.declared.node.Node.{Node}
use Rattle.node_laws.specs.Answers.{AnswersSay}
use Rattle.node_laws.specs.Calls.{NodeCall, sending, counted, perform}
use Rattle.node_laws.specs.Laws.{NodeLaws}
use Rattle.node_history_laws.specs.counters.Rising.{after, Answers, Stays, CountersRise}
use Rattle.node_history_laws.proofs.counters.Moves.{Move, stays, counts, installs, switches, moves}

-- a valid node's sets are valid
keys-valid : (n : Node) → Valid n → sets.valid (is_border n) n.sets ≡ true
unfolding valid
keys-valid n v =
    as-valid (allows_additional_info n.version) (is_border n) n.sets
    (first (sets.valid_as (allows_additional_info n.version) (is_border n) n.sets) (attempt.valid n.attempt)
    (valid_address (clock_of n) n.address)
    (others_valid n) v)

-- ---- both sets have eight counters
record Sized (s : KeySets) : Type 0 where
  active : length s.active.counters ≡ 8
  pending : length s.pending.counters ≡ 8

made-sized : (version : Version) (role : ℕ) (network : HeldOctets) → Sized (made version role network).node.sets
unfolding made
made-sized version role network = go (valid_role role) (valid_octets network)
  where
    go :
        (r o : Bool) →
        Sized
        (cond r (cond o (record { verdict = Ok tt; node = fresh_node version role (known_octets network) }) unmade) unmade).node.sets
    go true true = record { active = refl; pending = refl }
    go true false = record { active = refl; pending = refl }
    go false o = record { active = refl; pending = refl }

-- an install, by whether the set is within its limits and by the three questions of its placing
abbrev place_by : KeySets → KeySet → Bool → Bool → Bool → Bool → KeySets
place_by s set ok border equals shared = (cond ok (decide_install s set border equals shared) (unplaced refusal.Range s)).sets

module _ (P : KeptLaws) where
  place-sized :
      (s : KeySets) (set : KeySet) → Sized s → (ok border equals shared : Bool) → valid_set set ≡ ok →
      Sized (place_by s set ok border equals shared)
  place-sized s set z false border equals shared e = z
  place-sized s set z true true equals shared e =
      record { active = P.succeeded-size s.active set e; pending = P.arrived-size no_keys }
  place-sized s set z true false true shared e = record { active = z.active; pending = P.arrived-size no_keys }
  place-sized s set z true false false true e = z
  place-sized s set z true false false false e = record { active = z.active; pending = P.arrived-size set }

  install-sized : (border : Bool) (s : KeySets) (set : KeySet) → Sized s → Sized (install border s set).sets
  unfolding install
  install-sized border s set z =
      place-sized s set z (valid_set set) border (same_keys (keys_of set) (active_in s)) (shares (keys_of set) (active_in s)) refl

  move-sized : (border : Bool) (s t : KeySets) → Sized s → Move border s t → Sized t
  move-sized border s t z (stays e) = rw e z
  move-sized border s t z (counts type x f e) =
      rw e (record { active = P.raised-size s.active x z.active; pending = z.pending })
  move-sized border s t z (installs set e) = rw e (install-sized border s set z)
  move-sized border s t z (switches e) = rw e (record { active = z.pending; pending = P.arrived-size no_keys })

-- ---- the counter of one key
module _ (K : KeyLaws) (C : CounterLaws) (P : KeptLaws) (L : NodeLaws) (A : AnswersSay) where
  after-sized : (n : Node) (cs : List NodeCall) → Sized n.sets → Sized (after n cs).sets
  after-sized n [] z = z
  after-sized n (c ∷ cs) z =
      after-sized (perform c n).node cs (move-sized P (is_border n) n.sets (perform c n).node.sets z (moves L A c n))

  after-valid : (n : Node) (cs : List NodeCall) → Valid n → Valid (after n cs)
  after-valid n [] v = v
  after-valid n (c ∷ cs) v = after-valid (perform c n).node cs (L.stays-valid c n v)

  -- an active set with a key in it is within its limits
  sound : (n : Node) → Valid n → Sized n.sets → (l : Key) → Memᴰ l (active_of n) → Sound n.sets.active
  sound n v z l m =
      let ok = member-valid K n.sets.active.set l (active-valid (is_border n) n.sets (keys-valid n v)) m in
      record { none-twice = K.valid-none-twice (active_of n) ok; few = K.valid-few (active_of n) ok; counters = z.active }

  module _ (k : Key) where
    abbrev counter_of : KeySets → ℕ
    counter_of s = kept_counter s.active k

    place-keeps :
        (s : KeySets) (set : KeySet) (ok border equals shared : Bool) → Holds k (active_in (place_by s set ok border equals shared)) →
        counter_of (place_by s set ok border equals shared) ≡ counter_of s
    place-keeps s set false border equals shared h = refl
    place-keeps s set true true equals shared h =
        P.succeeded-keeps s.active set k (subst (λ (x : CountedSet). Holds k (keys_of x.set)) (C.succeeded-is s.active set) h)
    place-keeps s set true false true shared h = refl
    place-keeps s set true false false true h = refl
    place-keeps s set true false false false h = refl

    install-keeps : (border : Bool) (s : KeySets) (set : KeySet) → Holds k (active_in (install border s set).sets)
        → counter_of (install border s set).sets ≡ counter_of s
    unfolding install
    install-keeps border s set h =
        place-keeps s set (valid_set set) border (same_keys (keys_of set) (active_in s)) (shares (keys_of set) (active_in s)) h

    count-rises :
        (s : CountedSet) (type : ℕ) (x : Slot) → Sound s → first_serving type s ≡ some x → (b : Bool) → same_secret x.key k ≡ b →
        kept_counter s k ≤ kept_counter (raised s x) k
    count-rises s type x w f true e =
        let was = P.first-counter type s x k w f e in
        let is = P.raised-same type s x k w f e in
        omega (arith, was, is)
    count-rises s type x w f false e = let is = P.raised-other type s x k f e in omega (arith, is)

    -- the key is in the set before and after
    module _ (n : Node) (v : Valid n) (z : Sized n.sets) (h : Holds k (active_of n)) where
      rising : (t : KeySets) → Move (is_border n) n.sets t → Holds k (active_in t) → counter_of n.sets ≤ counter_of t
      rising t (stays e) g = let is = ap counter_of e in omega (arith, is)
      rising t (counts type x f e) g =
          let is = ap counter_of e in
          let up = count-rises n.sets.active type x (sound n v z h.key h.member) f (same_secret x.key k) refl in
          omega (arith, is, up)
      rising t (installs set e) g =
          let is = ap counter_of e in
          let same = install-keeps (is_border n) n.sets set (subst (λ (u : KeySets). Holds k (active_in u)) e g) in
          omega (arith, is, same)
      rising t (switches e) g =
          let there = subst (λ (u : KeySets). Holds k (active_in u)) e g in
          let names = P.secret-identifier h.key k h.same ∙ sym (P.secret-identifier there.key k there.same) in
          absurd (L.valid-apart n v h.key there.key h.member there.member names)

    held_first : (n : Node) (cs : List NodeCall) → Stays k n cs → Holds k (active_of n)
    held_first n [] h = h
    held_first n (c ∷ cs) h = h.0

    run-rises : (n : Node) (cs : List NodeCall) → Valid n → Sized n.sets → Stays k n cs
        → counter_of n.sets ≤ counter_of (after n cs).sets
    run-rises n [] v z h = omega arith
    run-rises n (c ∷ cs) v z h =
        let m = (perform c n).node in
        let move = moves L A c n in
        let one = rising n v z h.0 m.sets move (held_first m cs h.1) in
        let rest = run-rises m cs (L.stays-valid c n v) (move-sized P (is_border n) n.sets m.sets z move) h.1 in
        omega (arith, one, rest)

  -- ---- what a sending answers
  valid-by-answer : (n : Node) (type : ℕ) (b : Bool) → valid n ≡ b → (perform (sending type) n).verdict ≡ Ok tt → Valid n
  valid-by-answer n type true e a = e
  valid-by-answer n type false e a = let z : ◌≡◌ {A = ℕ} 0 13 = sym (ap verdict_number a) ∙ A.invalid (sending type) n e in
      absurd (omega (arith, z))

  -- the key and the counter are those of the first active key that serves
  record Told (n : Node) (type : ℕ) (k : Key) (counter : ℕ) : Type 0 where
    valid : Valid n
    slot : Slot
    first : first_serving type n.sets.active ≡ some slot
    key : slot.key ≡ k
    is : counter ≡ slot.counter
    unused : counter ≡ 4294967295 → ⊥
    member : Memᴰ k (active_of n)
    sets : (perform (sending type) n).node.sets ≡ two_sets (raised n.sets.active slot) n.sets.pending

  counted_same : (k l : Key) (c d : ℕ) → counted k c ≡ counted l d → (k ≡ l) × (c ≡ d)
  counted_same k l c d e = (cc, cc)

  told : (n : Node) (type : ℕ) (k : Key) (counter : ℕ) → Answers n type k counter → Told n type k counter
  unfolding perform
  told n type k counter a =
      let c = A.send-counts n type a.accepted in
      let same = counted_same (send n type).key k (send_counter n type) counter a.object in
      record {
        valid = valid-by-answer n type (valid n) refl a.accepted;
        slot = c.slot;
        first = c.first;
        key = sym c.key ∙ same.0;
        is = sym same.1 ∙ c.counter;
        unused = λ e. c.unused (same.1 ∙ e);
        member = subst (λ (l : Key). Memᴰ l (active_of n)) same.0 (L.send-from n type a.accepted).member;
        sets = ap (λ (m : Node). m.sets) c.after;
      }

  rises-from :
      (n : Node) → Sized n.sets → (type : ℕ) (k : Key) (counter : ℕ) → Answers n type k counter → (between : List NodeCall) →
      Stays k (perform (sending type) n).node between → (again : ℕ) (l : Key) (next : ℕ) →
      Answers (after (perform (sending type) n).node between) again l next → same_secret l k ≡ true → counter < next
  rises-from n z type k counter a between h again l next b same =
      let one = told n type k counter a in
      let m = (perform (sending type) n).node in
      let w = sound n one.valid z k one.member in
      let own : same_secret one.slot.key k ≡ true = subst (λ (x : Key). same_secret x k ≡ true) (sym one.key) (P.secret-self k) in
      let up = ap (counter_of k) one.sets ∙ P.raised-same type n.sets.active one.slot k w one.first own in
      let zm = move-sized P (is_border n) n.sets m.sets z (moves L A (sending type) n) in
      let vm = L.stays-valid (sending type) n one.valid in
      let on = run-rises k m between vm zm h in
      let o = after m between in
      let two = told o again l next b in
      let v = sound o two.valid (after-sized m between zm) l two.member in
      let other : same_secret two.slot.key k ≡ true = subst (λ (x : Key). same_secret x k ≡ true) (sym two.key) same in
      let at = P.first-counter again o.sets.active two.slot k v two.first other in
      let begin = one.is in
      let end = two.is in
      omega (arith, begin, up, on, at, end)

  pub counters-rise : CountersRise
  counters-rise = record {
    rises = λ version role network before type k counter.
        rises-from (after (made version role network).node before)
        (after-sized (made version role network).node before (made-sized version role network)) type k counter;
    never-last = λ n type k counter a. (told n type k counter a).unused;
  }
