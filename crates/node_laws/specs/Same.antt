-- The same objects do the same to a node: what a configuration holds beside what is taken does not count.
use Rattle.std.specs.Prelude.{ℕ, ◌≡◌, true, cond, List}
use Rattle.std.proofs.Math.Option.{Option, none, some}
use Rattle.link_key_counters.specs.Counters.{slots_of}
use Rattle.cojp.specs.Lists.{bytes_in as list_bytes}
use Rattle.cojp.specs.Octets.{bytes_in}
use Rattle.cojp.specs.Same.{lease_of, SameConfiguration}
use Rattle.cojp.specs.Writing.{keys_in_range}
use Rattle.cojp.specs.declared.configuration.Configuration.{Configuration}
use Rattle.node_parameters.specs.declared.address.HeldAddress.{HeldAddress}
use Rattle.node.specs.Node.{active_of, pending_of}
use Rattle.node.specs.Delivery.{fitted, apply}
use Rattle.node_attempt.specs.declared.delivery.Delivery.{Delivery}
use Rattle.node.specs.declared.delivery.DeliveryResult.{DeliveryResult}
use Rattle.node_parameters.specs.declared.blacklist.HeldList.{HeldList}
use Rattle.node_parameters.specs.declared.octets.HeldOctets.{HeldOctets}
use Rattle.node_parameters.specs.declared.rate.HeldRate.{HeldRate}
use Rattle.node.specs.declared.node.Node.{Node}

-- ---- what is held
abbrev pub octets_held : HeldOctets → Option (List ℕ)
octets_held h = cond h.held (some (bytes_in h.value)) none

-- an address, its lease, and when it was received
abbrev pub address_held : HeldAddress → Option (List ℕ × Option ℕ × ℕ)
address_held a = cond a.held (some (a.value.bytes, lease_of a.value, a.received)) none

-- a blacklist's entries as they are written
abbrev pub list_held : HeldList → Option (ℕ × List ℕ)
list_held h = cond h.held (some (h.value.count, list_bytes h.value)) none

abbrev pub rate_held : HeldRate → Option ℕ
rate_held h = cond h.held (some h.value) none

-- two nodes that differ at most in places that are never looked at, in their counters, and in what they report (`faults`)
pub record SameNode (n m : Node) : Type 0 where
  pub role : n.role ≡ m.role
  pub attempt : n.attempt ≡ m.attempt
  pub active : active_of n ≡ active_of m
  pub pending : pending_of n ≡ pending_of m
  pub address : address_held n.address ≡ address_held m.address
  pub jrc : octets_held n.jrc ≡ octets_held m.jrc
  pub network : octets_held n.network ≡ octets_held m.network
  pub prefix : octets_held n.prefix ≡ octets_held m.prefix
  pub version : n.version ≡ m.version
  pub blacklist : list_held n.blacklist ≡ list_held m.blacklist
  pub rate : rate_held n.rate ≡ rate_held m.rate

-- their keys have the same counters too
pub record SameCounters (n m : Node) : Type 0 where
  pub active : slots_of n.sets.active ≡ slots_of m.sets.active
  pub pending : slots_of n.sets.pending ≡ slots_of m.sets.pending

pub record SameOutcome (x y : DeliveryResult) : Type 0 where
  pub verdict : x.verdict ≡ y.verdict
  pub node : SameNode x.node y.node
  pub counters : SameCounters x.node y.node

-- both with key sets within their limits, as every configuration that was read has
abbrev pub AppliesAlike : Type 0
AppliesAlike =
    (delivery : Delivery) (n : Node) (time : ℕ) (c d : Configuration) → keys_in_range c.keys ≡ true → keys_in_range d.keys ≡ true →
    SameConfiguration c d → SameOutcome (apply delivery n time (fitted n c)) (apply delivery n time (fitted n d))
