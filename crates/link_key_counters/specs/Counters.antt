-- Key sets whose keys have frame counters: which key a frame is sent with, and which counters a set that replaces another one keeps.
use Rattle.std.specs.Prelude.{ℕ, ◌+◌, ◌-◌, Bool, true, false, not, ◌&&◌, List, [], ◌∷◌, ◌++◌, map, eqb, length, get_or, set, replicate}
use Rattle.std.proofs.Math.Option.{Option, none, some}
use Rattle.std.specs.declared.option.Option.{Option as Found}
use Rattle.std.specs.declared.option.Option.TheVariants.{None, Some}
use Rattle.link_key.specs.Key.{no_key, same_secret, covers}
use Rattle.link_key.specs.declared.Key.{Key}
use Rattle.link_key.specs.set.Lists.{first_of}
use Rattle.link_key.specs.set.KeySet.{keys_of, no_keys}
use Rattle.link_key.specs.declared.set.key_set.KeySet.{KeySet}
use Rattle.link_key_counters.specs.declared.CountedSet.{CountedSet}
use Rattle.link_key_counters.specs.declared.TakenCounter.{TakenCounter}

-- ---- a set's keys with their counters
-- a key with its place in the set and its next counter
pub record Slot : Type 0 where
  pub place : ℕ
  pub key : Key
  pub counter : ℕ

abbrev pub slot : ℕ → Key → ℕ → Slot
slot place key counter = record { place = place; key = key; counter = counter }

-- the keys that stand from a place on
abbrev pub slots_from : ℕ → List ℕ → List Key → List Slot
slots_from place counters [] = []
slots_from place counters (k ∷ ks) = slot place k (get_or counters place 0) ∷ slots_from (place + 1) counters ks

abbrev pub slots_of : CountedSet → List Slot
slots_of s = slots_from 0 s.counters (keys_of s.set)

abbrev pub counted_set : KeySet → List ℕ → CountedSet
counted_set keys counters = record { set = keys; counters = counters }

-- "0 on arrival"
abbrev pub with_zero_counters : KeySet → CountedSet
with_zero_counters keys = counted_set keys (replicate 8 0)

abbrev pub no_counted : CountedSet
no_counted = with_zero_counters no_keys

-- ---- sending: the first key that covers the type and whose counter is not the last one; its counter rises by one
-- the counter that is never used
abbrev pub last_counter : ℕ
last_counter = 4294967295

abbrev pub is_used_up : Slot → Bool
is_used_up x = eqb x.counter last_counter

abbrev pub serves : ℕ → Slot → Bool
serves type x = (covers x.key type && not (is_used_up x))

abbrev pub first_serving : ℕ → CountedSet → Option Slot
first_serving type s = first_of (serves type) (slots_of s)

-- the place of a key that was found, as code has it
abbrev pub place_of : Option Slot → Found ℕ
place_of none = None
place_of (some x) = Some x.place

abbrev pub raised : CountedSet → Slot → CountedSet
raised s x = counted_set s.set (set s.counters x.place (x.counter + 1))

abbrev pub taken_counter_on : CountedSet → Option Slot → TakenCounter
taken_counter_on s none = record { found = false; key = no_key; counter = 0; set = s }
taken_counter_on s (some x) = record { found = true; key = x.key; counter = x.counter; set = raised s x }

unfoldable pub take_counter : ℕ → CountedSet → TakenCounter
take_counter type s = taken_counter_on s (first_serving type s)

-- ---- a set that replaces another one at once: a key keeps the counter of the key with its identifier and value
abbrev pub counter_in : Option Slot → ℕ
counter_in none = 0
counter_in (some x) = x.counter

abbrev pub kept_counter : CountedSet → Key → ℕ
kept_counter s k = counter_in (first_of (λ (x : Slot). same_secret x.key k) (slots_of s))

abbrev pub kept_counters : CountedSet → List Key → List ℕ
kept_counters s ks = map (kept_counter s) ks ++ replicate (8 - length ks) 0

unfoldable pub inherit_counters : CountedSet → KeySet → CountedSet
inherit_counters s keys = counted_set keys (kept_counters s (keys_of keys))
