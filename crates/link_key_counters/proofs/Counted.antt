-- Laws of counted sets: what the slots say of the keys, and what is sent comes from the set and leaves its keys.
use Prim.Native.Nat.{ℕ, ◌+◌}
use native.Mathlib.Omega.{arith}
use mathlib.Core.Path.{◌≡◌, refl, ap}
use mathlib.Core.Bool.{true, not}
use mathlib.Core.List.{List, [], ◌∷◌, Memᴰ}
use mathlib.Core.Option.{Option, none, some}
use lib.ListN.{get_or}
use Rattle.link_key.specs.Key.{covers}
use Rattle.link_key.specs.declared.Key.{Key}
use Rattle.lemmas.specs.logic.Tests.{both_left}
use Rattle.link_key.specs.set.KeySet.{keys_of}
use Rattle.link_key.specs.declared.set.key_set.KeySet.{KeySet}
use Rattle.link_key.proofs.set.Lists.{any-one, first-is, first_finds}
use Rattle.link_key_counters.specs.Counters.{Slot, slot, slots_from, slots_of, counted_set, is_used_up}
use Rattle.link_key_counters.specs.Counters.{serves, first_serving, taken_counter_on, take_counter}
use Rattle.link_key_counters.specs.Counters.{kept_counters, inherit_counters}
use Rattle.link_key_counters.specs.CounterLaws.{SlotOf, CounterLaws}
use Rattle.link_key_counters.specs.declared.CountedSet.{CountedSet}

-- ---- slots and keys
slot-key : (i : ℕ) (cs : List ℕ) (ks : List Key) (x : Slot) → Memᴰ x (slots_from i cs ks) → Memᴰ x.key ks
slot-key i cs [] x m = elim m [ ]
slot-key i cs (k ∷ ks) x (Memᴰ.head p) = Memᴰ.head (ap (λ (y : Slot). y.key) p)
slot-key i cs (k ∷ ks) x (Memᴰ.tail m) = Memᴰ.tail (slot-key (i + 1) cs ks x m)

slot_of : (k : Key) (i : ℕ) (cs : List ℕ) (ks : List Key) → Memᴰ k ks → (x : Slot) × Memᴰ x (slots_from i cs ks) × (x.key ≡ k)
slot_of k i cs [] m = elim m [ ]
slot_of k i cs (l ∷ ks) (Memᴰ.head p) = (slot i l (get_or cs i 0), Memᴰ.head refl, rw p)
slot_of k i cs (l ∷ ks) (Memᴰ.tail m) =
    let below = slot_of k (i + 1) cs ks m in
    (below.0, Memᴰ.tail below.1, below.2)

key-slot : (s : CountedSet) (k : Key) → Memᴰ k (keys_of s.set) → SlotOf k s
key-slot s k m = let x = slot_of k 0 s.counters (keys_of s.set) m in record { slot = x.0; member = x.1; key = x.2 }

-- ---- what is sent
spent-by :
    (type : ℕ) (s : CountedSet) (o : Option Slot) → first_serving type s ≡ o → (taken_counter_on s o).found ≡ true →
    Memᴰ (taken_counter_on s o).key (keys_of s.set) × (covers (taken_counter_on s o).key type ≡ true)
spent-by type s (some x) e f =
    let found = first-is (serves type) (slots_of s) x e in
    (slot-key 0 s.counters (keys_of s.set) x found.0, both_left (covers x.key type) (not (is_used_up x)) found.1)
spent-by type s none e f = absurd (let z : ◌≡◌ {A = ℕ} 0 1 = cc in omega arith)

-- a key that is found is one of the set and covers the type
spent-from :
    (type : ℕ) (s : CountedSet) → (take_counter type s).found ≡ true →
    Memᴰ (take_counter type s).key (keys_of s.set) × (covers (take_counter type s).key type ≡ true)
unfolding take_counter
spent-from type s f = spent-by type s (first_serving type s) refl f

-- one that serves is found
spends : (type : ℕ) (s : CountedSet) (x : Slot) → Memᴰ x (slots_of s) → serves type x ≡ true → (take_counter type s).found ≡ true
unfolding take_counter
spends type s x m e = rw (first_finds (serves type) (slots_of s) (any-one (serves type) m e)).1

-- the keys stay
keys-by : (s : CountedSet) (o : Option Slot) → (taken_counter_on s o).set.set ≡ s.set
keys-by s none = refl
keys-by s (some x) = refl

spend-keys : (type : ℕ) (s : CountedSet) → (take_counter type s).set.set ≡ s.set
unfolding take_counter
spend-keys type s = keys-by s (first_serving type s)

spend-first : (type : ℕ) (s : CountedSet) → take_counter type s ≡ taken_counter_on s (first_serving type s)
unfolding take_counter
spend-first type s = refl

-- ---- a set that replaces another one
succeeded-is : (s : CountedSet) (keys : KeySet) → inherit_counters s keys ≡ counted_set keys (kept_counters s (keys_of keys))
unfolding inherit_counters
succeeded-is s keys = refl

pub counter-laws : CounterLaws
counter-laws =
    record {
      key-slot = key-slot;
      slot-key = λ s x m. slot-key 0 s.counters (keys_of s.set) x m;
      spend-first = spend-first;
      first-serves = λ type s x e. first-is (serves type) (slots_of s) x e;
      spent-from = spent-from;
      spends = spends;
      spend-keys = spend-keys;
      succeeded-is = succeeded-is;
    }
