-- The claim with sleepers speaks of something. Node 0 is the border router, 1 hears it and had the new set, as did 6, which hears 1 alone.
-- 2 hears the border router too and missed the keys; 3, which had them, hears 2 alone. 4 and 5 lack the set and hear each other: 5 has a
-- third set active, which 4 has pending. 1 is of the published form, the others of the draft.
use Rattle.std.specs.Prelude.{ℕ, ◌≡◌, Bool, not, ◌||◌, List, [], ◌∷◌, ◌++◌, eqb, replicate}
use Rattle.link_key.specs.set.KeySet.{no_keys}
use Rattle.link_key.specs.Key.{key_of}
use Rattle.link_key.specs.declared.Key.{Key}
use Rattle.link_key_counters.specs.Counters.{with_zero_counters}
use Rattle.cojp.specs.KeySet.{key_set_of}
use Rattle.protocol_version.specs.declared.Version.TheVariants.{Published}
use Rattle.node_key_sets.specs.Sets.{two_sets}
use Rattle.node.specs.Node.{active_of, pending_of, keyed}
use Rattle.node.specs.Frames.{send_counter}
use Rattle.node.specs.declared.node.Node.{Node}
use Rattle.node_laws.specs.Laws.{Takes}
use Rattle.node_attempt.specs.declared.delivery.Delivery.TheVariants.{Update}
use Rattle.network.specs.Network.{Network, node_at}
use Rattle.network.specs.Events.{Event, turning, run, Admissible, Throughout}
use Rattle.network.specs.Rounds.{Links, Neighbours, Towards, Hops, AllLinked, Rounds}
use Rattle.network.specs.Demand3.{NoneUsedUp, NoneSendsUnder, Rekeyed, handed}
use Rattle.network.specs.PartialRekey.{SupposedSome, Followed, FullCase}
use Rattle.network.specs.RekeyExample.{old_keys, new_keys, joined_as, joined, payload}

abbrev pub third_keys : List Key
third_keys = key_of 9 0 (replicate 16 0x33) ∷ []

-- which nodes had the set
abbrev pub had_pending : ℕ → Bool
had_pending i = not (eqb i 2 || eqb i 4 || eqb i 5)

-- a node with the third set active
abbrev pub third : Node
third = keyed (joined 0 no_keys) (two_sets (with_zero_counters (key_set_of third_keys)) (with_zero_counters no_keys))

abbrev pub building : Network
building =
    joined 1 no_keys
    ∷ joined_as Published 0 (key_set_of new_keys)
    ∷ joined 0 no_keys
    ∷ joined 0 (key_set_of new_keys)
    ∷ joined 0 (key_set_of third_keys)
    ∷ third
    ∷ joined 0 (key_set_of new_keys)
    ∷ []

abbrev pub building_links : Links
building_links = (0, 1) ∷ (0, 2) ∷ (2, 3) ∷ (4, 5) ∷ (1, 6) ∷ []

-- before: frames under the old set
abbrev pub beforehand : List Event
beforehand = turning 0 1 1 ∷ turning 2 3 0 ∷ turning 4 0 1 ∷ []

abbrev pub taken_in : Network
taken_in = handed (run building beforehand) 0 Update 20000 payload

-- a round: each ordered pair of neighbours, the farther senders first
abbrev pub around : List Event
around =
    turning 6 1 1
    ∷ turning 1 6 1
    ∷ turning 3 2 1
    ∷ turning 2 3 1
    ∷ turning 2 0 1
    ∷ turning 0 2 1
    ∷ turning 1 0 1
    ∷ turning 0 1 1
    ∷ turning 5 4 1
    ∷ turning 4 5 1
    ∷ []

abbrev pub around_twice : List Event
around_twice = around ++ around

abbrev pub at_end : Network
at_end = run taken_in around_twice

-- ---- no premise is empty, and what the claim says of each node is what comes out
pub record PartialRekeyExample : Type 0 where
  pub supposed : SupposedSome had_pending building 0 new_keys 1
  pub before : Admissible building beforehand
  pub unspent-before : Throughout (NoneUsedUp new_keys 1) building beforehand
  pub takes : Takes Update (node_at (run building beforehand) 0) 20000 payload new_keys
  pub after : Admissible taken_in around_twice
  pub unspent-after : Throughout (NoneUsedUp new_keys 1) taken_in around_twice
  pub linked : AllLinked building_links 1 around_twice
  pub rounds : Rounds building_links 1 2 around_twice
  -- 1 and 6 are within two of the claim's hops; 6 is at two, and after one round it waits still
  pub near : Hops (Towards building_links had_pending) 2 0 1
  pub far : Hops (Towards building_links had_pending) 2 0 6
  pub one-round : pending_of (node_at (run taken_in around) 6) ≡ new_keys
  -- 3 is within two plain hops, but one leads over a sleeper: it is at no number of the claim's hops, and waits still after two rounds
  pub plain : Hops (Neighbours building_links) 2 0 3
  pub behind : (h : ℕ) → Hops (Towards building_links had_pending) h 0 3 → ⊥
  pub waits : pending_of (node_at at_end 3) ≡ new_keys
  -- 4 has switched to the third set, of which the claim says nothing
  pub switched : active_of (node_at at_end 4) ≡ third_keys
  -- by the claim: nobody sends under the set beforehand, and what the lists leave; so 1 and 6 have followed, and the sleepers 2 and 5
  -- have their sets
  pub none-sends : NoneSendsUnder new_keys building beforehand
  pub followed : Followed had_pending building 0 new_keys 1 building_links 2 at_end
  pub rekeyed : Rekeyed new_keys 1 (node_at at_end 1)
  pub rekeyed-far : Rekeyed new_keys 1 (node_at at_end 6)
  pub lacked : active_of (node_at at_end 2) ≡ old_keys
  pub lacked-too : active_of (node_at at_end 5) ≡ third_keys
  -- the sleeper's set is that of the start, its counter is not
  pub counter-before : send_counter (node_at building 2) 1 ≡ 0
  pub counter-after : send_counter (node_at at_end 2) 1 ≡ 5
  -- and where nobody sleeps, the claim supposes and counts what demand 3 does
  pub where-all-had : FullCase
