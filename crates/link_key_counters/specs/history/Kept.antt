-- How the counter of a key goes on: one higher where the key is sent with, else as it was, also where another set with the key comes in the
-- place of its set. A key is known by its identifier and value.
use Rattle.std.specs.Prelude.{ℕ, ◌+◌, ◌≤◌, ◌≡◌, true, false, length}
use mathlib.Core.List.{List, Memᴰ}
use Rattle.std.proofs.Math.Option.{some}
use Rattle.link_key.specs.Key.{same_secret}
use Rattle.link_key.specs.declared.Key.{Key}
use Rattle.link_key.specs.set.KeySet.{keys_of, valid_set, none_twice}
use Rattle.link_key.specs.declared.set.key_set.KeySet.{KeySet}
use Rattle.link_key_counters.specs.Counters.{Slot, first_serving, raised, with_zero_counters, kept_counter, inherit_counters}
use Rattle.link_key_counters.specs.declared.CountedSet.{CountedSet}

-- one of the keys has the identifier and the value of this one
pub record Holds (k : Key) (ks : List Key) : Type 0 where
  pub key : Key
  pub member : Memᴰ key ks
  pub same : same_secret key k ≡ true

-- a set as a node holds one: no identifier twice, at most eight keys, eight counters
pub record Sound (s : CountedSet) : Type 0 where
  pub none-twice : none_twice (keys_of s.set) ≡ true
  pub few : length (keys_of s.set) ≤ 8
  pub counters : length s.counters ≡ 8

pub record KeptLaws : Type 0 where
  pub secret-self : (k : Key) → same_secret k k ≡ true
  pub secret-identifier : (k l : Key) → same_secret k l ≡ true → k.identifier ≡ l.identifier
  -- sending answers the key's counter, which is one higher then, and no other key's counter moves
  pub first-counter :
      (type : ℕ) (s : CountedSet) (x : Slot) (k : Key) → Sound s → first_serving type s ≡ some x → same_secret x.key k ≡ true →
      kept_counter s k ≡ x.counter
  pub raised-same :
      (type : ℕ) (s : CountedSet) (x : Slot) (k : Key) → Sound s → first_serving type s ≡ some x → same_secret x.key k ≡ true →
      kept_counter (raised s x) k ≡ x.counter + 1
  pub raised-other :
      (type : ℕ) (s : CountedSet) (x : Slot) (k : Key) → first_serving type s ≡ some x → same_secret x.key k ≡ false →
      kept_counter (raised s x) k ≡ kept_counter s k
  -- in a set that replaces this one at once a key has the counter that it had
  pub succeeded-keeps :
      (s : CountedSet) (keys : KeySet) (k : Key) → Holds k (keys_of keys) → kept_counter (inherit_counters s keys) k ≡ kept_counter s k
  -- there are eight counters always
  pub raised-size : (s : CountedSet) (x : Slot) → length s.counters ≡ 8 → length (raised s x).counters ≡ 8
  pub arrived-size : (keys : KeySet) → length (with_zero_counters keys).counters ≡ 8
  pub succeeded-size : (s : CountedSet) (keys : KeySet) → valid_set keys ≡ true → length (inherit_counters s keys).counters ≡ 8
