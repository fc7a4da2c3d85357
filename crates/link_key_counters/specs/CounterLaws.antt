-- What the layers above may rely on of counted sets, whatever their definitions are.
use Rattle.std.specs.Prelude.{ℕ, ◌≡◌, true}
use mathlib.Core.List.{Memᴰ}
use Rattle.std.proofs.Math.Option.{some}
use Rattle.link_key.specs.Key.{covers}
use Rattle.link_key.specs.declared.Key.{Key}
use Rattle.link_key.specs.set.KeySet.{keys_of}
use Rattle.link_key.specs.declared.set.key_set.KeySet.{KeySet}
use Rattle.link_key_counters.specs.Counters.{Slot, slots_of, counted_set, serves, first_serving}
use Rattle.link_key_counters.specs.Counters.{taken_counter_on, take_counter, kept_counters, inherit_counters}
use Rattle.link_key_counters.specs.declared.CountedSet.{CountedSet}

-- a key of the set with its counter
pub record SlotOf (k : Key) (s : CountedSet) : Type 0 where
  pub slot : Slot
  pub member : Memᴰ slot (slots_of s)
  pub key : slot.key ≡ k

pub record CounterLaws : Type 0 where
  pub key-slot : (s : CountedSet) (k : Key) → Memᴰ k (keys_of s.set) → SlotOf k s
  pub slot-key : (s : CountedSet) (x : Slot) → Memᴰ x (slots_of s) → Memᴰ x.key (keys_of s.set)
  -- sending: by the first that serves; a key that is found is one of the set and covers the type; one that serves is found; the keys stay
  pub spend-first : (type : ℕ) (s : CountedSet) → take_counter type s ≡ taken_counter_on s (first_serving type s)
  pub first-serves :
      (type : ℕ) (s : CountedSet) (x : Slot) → first_serving type s ≡ some x → Memᴰ x (slots_of s) × (serves type x ≡ true)
  pub spent-from :
      (type : ℕ) (s : CountedSet) → (take_counter type s).found ≡ true →
      Memᴰ (take_counter type s).key (keys_of s.set) × (covers (take_counter type s).key type ≡ true)
  pub spends : (type : ℕ) (s : CountedSet) (x : Slot) → Memᴰ x (slots_of s) → serves type x ≡ true → (take_counter type s).found ≡ true
  pub spend-keys : (type : ℕ) (s : CountedSet) → (take_counter type s).set.set ≡ s.set
  -- a set that replaces another one has its own keys, with the counters that they keep
  pub succeeded-is : (s : CountedSet) (keys : KeySet) → inherit_counters s keys ≡ counted_set keys (kept_counters s (keys_of keys))
