-- Equal taken parameters are both taken or both not; where they are taken, what they mean is equal, and nothing else of them is looked at.
use Rattle.std.specs.Prelude.{Ok, Err}
use Prim.Native.Nat.{ℕ}
use native.Mathlib.Omega.{arith}
use mathlib.Core.Path.{◌≡◌, refl, sym, ◌∙◌, ap}
use mathlib.Core.Bool.{Bool, true, false, cond, not, ◌&&◌}
use mathlib.Core.List.{List}
use mathlib.Core.Option.{Option, none, some}
use Rattle.refusal.specs.declared.Refusal.TheVariants as refusal
use Rattle.refusal.specs.Verdict.{Verdict}
use Rattle.link_key.specs.set.KeySet.{keys_of, valid_set}
use Rattle.link_key.specs.declared.set.key_set.KeySet.{KeySet}
use Rattle.link_key_counters.specs.CounterLaws.{CounterLaws}
use Rattle.link_key_counters.specs.Counters.{slots_of}
use Rattle.node_key_sets.specs.Sets.{active_in, pending_in, placed, install}
use Rattle.node_key_sets.specs.declared.sets.InstallResult.{InstallResult}
use Rattle.node_key_sets.proofs.Alike.{install-alike}
use Rattle.node_parameters.specs.declared.address.HeldAddress.{HeldAddress}
use Rattle.cojp.specs.Reading.{if_taken}
use Rattle.cojp.specs.Octets.{bytes_in}
use Rattle.cojp.specs.Lists.{bytes_in as list_bytes}
use Rattle.cojp.specs.Same.{lease_of, address_taken, list_taken, rate_taken, SameConfiguration}
use Rattle.protocol_version.specs.Version.{by_version}
use Rattle.cojp.specs.Writing.{keys_in_range}
use Rattle.cojp.specs.declared.address.AddressParameter.{AddressParameter}
use Rattle.cojp.specs.declared.address.ShortAddress.{ShortAddress}
use Rattle.cojp.specs.declared.configuration.Configuration.{Configuration}
use Rattle.cojp.specs.declared.list.ListParameter.{ListParameter}
use Rattle.cojp.specs.declared.octets.Octets.{Octets}
use Rattle.cojp.specs.declared.rate.RateParameter.{RateParameter}
use Rattle.cojp.specs.declared.disposition.Disposition.{Disposition}
use Rattle.cojp.specs.declared.disposition.Disposition.TheVariants.{Absent, Taken, Discarded}
use Rattle.protocol_version.specs.declared.Version.{Version}
use Rattle.protocol_version.specs.declared.Version.TheVariants.{Draft, Published}
use Rattle.node_parameters.specs.Blacklist.{list_after}
use Rattle.node_parameters.specs.Lease.{address_after}
use Rattle.node_parameters.specs.Octets.{octets_after}
use Rattle.node_parameters.specs.Rate.{rate_after}
use Rattle.node_parameters.specs.Dispositions.{discarded, dispositions_of}
use Rattle.node.specs.Node.{is_border}
use Rattle.node.specs.Delivery.{placement_of, fitted_by, fitted, configured, undelivered, owes_identifier, placed_by, apply}
use Rattle.node_attempt.specs.delivery.Delivery.{asks_identifier}
use Rattle.node_laws.specs.Same.{octets_held, address_held, list_held, rate_held, SameNode, SameCounters, SameOutcome, AppliesAlike}
use Rattle.node_attempt.specs.declared.delivery.Delivery.{Delivery}
use Rattle.node_parameters.specs.declared.blacklist.HeldList.{HeldList}
use Rattle.node_parameters.specs.declared.octets.HeldOctets.{HeldOctets}
use Rattle.node_parameters.specs.declared.rate.HeldRate.{HeldRate}
use Rattle.node.specs.declared.node.Node.{Node}
use Rattle.node_laws.proofs.Forms.{fitted-keys}

-- ---- two parameters that agree in what is taken
alike :
    {A X : Type 0} (R : X → X → Type 0) (r s : Disposition) (a b : A) (x y k : X) → if_taken r (some a) none ≡ if_taken s (some b) none →
    (r ≡ Taken → s ≡ Taken → a ≡ b → R x y) → R k k → R (if_taken r x k) (if_taken s y k)
alike R Absent Absent a b x y k e f g = g
alike R Absent Discarded a b x y k e f g = g
alike R Absent Taken a b x y k e f g = absurd (let z : ◌≡◌ {A = ℕ} 0 1 = cc in omega arith)
alike R Discarded Absent a b x y k e f g = g
alike R Discarded Discarded a b x y k e f g = g
alike R Discarded Taken a b x y k e f g = absurd (let z : ◌≡◌ {A = ℕ} 0 1 = cc in omega arith)
alike R Taken Absent a b x y k e f g = absurd (let z : ◌≡◌ {A = ℕ} 0 1 = cc in omega arith)
alike R Taken Discarded a b x y k e f g = absurd (let z : ◌≡◌ {A = ℕ} 0 1 = cc in omega arith)
alike R Taken Taken a b x y k e f g = f refl refl (cc)

-- ---- key sets
record SamePlace (p q : InstallResult) : Type 0 where
  verdict : p.verdict ≡ q.verdict
  active : active_in p.sets ≡ active_in q.sets
  pending : pending_in p.sets ≡ pending_in q.sets
  active-slots : slots_of p.sets.active ≡ slots_of q.sets.active
  pending-slots : slots_of p.sets.pending ≡ slots_of q.sets.pending

install-same :
    CounterLaws → (n : Node) (u v : KeySet) → valid_set u ≡ true → valid_set v ≡ true → keys_of u ≡ keys_of v →
    SamePlace (install (is_border n) n.sets u) (install (is_border n) n.sets v)
install-same C n u v p q e =
    let a = install-alike C (is_border n) n.sets u v (p ∙ sym q) e in
    record { verdict = a.0; active = a.1; pending = a.2; active-slots = a.3; pending-slots = a.4 }

-- ---- the other parameters
octets-same :
    (r s : Disposition) (o p : Octets) (old : HeldOctets) → if_taken r (some (bytes_in o)) none ≡ if_taken s (some (bytes_in p)) none →
    octets_held (octets_after r o old) ≡ octets_held (octets_after s p old)
octets-same r s o p old e =
    alike (λ (h g : HeldOctets). octets_held h ≡ octets_held g) r s (bytes_in o) (bytes_in p) (record { held = true; value = o })
    (record { held = true; value = p }) old e (λ p q f. ap some f) refl

discarded-keeps : {X : Type 0} (r : Disposition) (x k : X) → if_taken (discarded r) x k ≡ k
discarded-keeps Absent x k = refl
discarded-keeps Taken x k = refl
discarded-keeps Discarded x k = refl

border-same :
    (border : Bool) (r s : Disposition) (o p : Octets) (old : HeldOctets) →
    if_taken r (some (bytes_in o)) none ≡ if_taken s (some (bytes_in p)) none →
    octets_held (octets_after (cond border r (discarded r)) o old) ≡ octets_held (octets_after (cond border s (discarded s)) p old)
border-same true r s o p old e = octets-same r s o p old e
border-same false r s o p old e =
    ap octets_held
    (discarded-keeps r (record { held = true; value = o }) old ∙ sym (discarded-keeps s (record { held = true; value = p }) old))

abbrev meant : ShortAddress → List ℕ × Option ℕ
meant a = (a.bytes, lease_of a)

held_as : List ℕ × Option ℕ → ℕ → Option (List ℕ × Option ℕ × ℕ)
held_as m time = some (m.0, m.1, time)

address_same :
    (time : ℕ) (p q : AddressParameter) (old : HeldAddress) → address_taken p ≡ address_taken q →
    address_held (address_after time p old) ≡ address_held (address_after time q old)
unfolding held_as
address_same time p q old e =
    alike (λ (h g : HeldAddress). address_held h ≡ address_held g) p.disposition q.disposition (meant p.value) (meant q.value)
    (record { held = true; value = p.value; received = time }) (record { held = true; value = q.value; received = time }) old e
    (λ p q f. ap (λ (m : List ℕ × Option ℕ). held_as m time) f) refl

list_same :
    (p q : ListParameter) (old : HeldList) → list_taken p ≡ list_taken q → list_held (list_after p old) ≡ list_held (list_after q old)
list_same p q old e =
    alike (λ (h g : HeldList). list_held h ≡ list_held g) p.disposition q.disposition (p.value.count, list_bytes p.value)
    (q.value.count, list_bytes q.value) (record { held = true; value = p.value }) (record { held = true; value = q.value }) old e
    (λ r s f. ap some f) refl

rate-same :
    (p q : RateParameter) (old : HeldRate) → rate_taken p ≡ rate_taken q →
    rate_held (rate_after p old) ≡ rate_held (rate_after q old)
rate-same p q old e =
    alike (λ (h g : HeldRate). rate_held h ≡ rate_held g) p.disposition q.disposition p.value q.value
    (record { held = true; value = p.value }) (record { held = true; value = q.value }) old e (λ r s f. ap some f) refl

-- ---- applying
same_self : (n : Node) → SameNode n n
same_self n = record {
  role = refl;
  attempt = refl;
  active = refl;
  pending = refl;
  address = refl;
  jrc = refl;
  network = refl;
  prefix = refl;
  version = refl;
  blacklist = refl;
  rate = refl;
}

same-counters : (n : Node) → SameCounters n n
same-counters n = record { active = refl; pending = refl }

module _ (C : CounterLaws) (delivery : Delivery) (n : Node) (time : ℕ) (c d : Configuration)
    (p : keys_in_range c.keys ≡ true) (q : keys_in_range d.keys ≡ true) (h : SameConfiguration c d) where
  places : SamePlace (placement_of n c.keys) (placement_of n d.keys)
  places =
      alike SamePlace c.keys.disposition d.keys.disposition (keys_of c.keys.value) (keys_of d.keys.value)
      (install (is_border n) n.sets c.keys.value) (install (is_border n) n.sets d.keys.value) (placed n.sets) h.keys
      (λ e f. install-same C n c.keys.value d.keys.value (rw e at p) (rw f at q))
      (record { verdict = refl; active = refl; pending = refl; active-slots = refl; pending-slots = refl })

  owing : if_taken c.network.disposition true false ≡ if_taken d.network.disposition true false
  owing =
      alike (λ (x y : Bool). x ≡ y) c.network.disposition d.network.disposition (bytes_in c.network.value)
      (bytes_in d.network.value)
      true true false h.network (λ p q f. refl) refl

  owes_same : owes_identifier delivery n c.network.disposition ≡ owes_identifier delivery n d.network.disposition
  owes_same = ap (λ (b : Bool). asks_identifier delivery && is_border n && not n.network.held && not b) owing

  node-same :
      SameNode (configured delivery n time c (placement_of n c.keys).sets (dispositions_of (is_border n) c))
      (configured delivery n time d (placement_of n d.keys).sets (dispositions_of (is_border n) d))
  unfolding configured dispositions_of
  node-same = record {
    role = refl;
    attempt = refl;
    active = places.active;
    pending = places.pending;
    address = address_same time c.address d.address n.address h.address;
    jrc = octets-same c.jrc.disposition d.jrc.disposition c.jrc.value d.jrc.value n.jrc h.jrc;
    network = border-same (is_border n) c.network.disposition d.network.disposition c.network.value d.network.value
        n.network h.network;
    prefix = border-same (is_border n) c.prefix.disposition d.prefix.disposition c.prefix.value d.prefix.value
        n.prefix h.prefix;
    version = refl;
    blacklist = list_same c.blacklist d.blacklist n.blacklist h.blacklist;
    rate = rate-same c.rate d.rate n.rate h.rate;
  }

  counters-same :
      SameCounters (configured delivery n time c (placement_of n c.keys).sets (dispositions_of (is_border n) c))
      (configured delivery n time d (placement_of n d.keys).sets (dispositions_of (is_border n) d))
  unfolding configured dispositions_of
  counters-same = record { active = places.active-slots; pending = places.pending-slots }

  outcomes :
      (o : Bool) (v : Verdict) →
      SameOutcome (cond o (undelivered refusal.Owed n) (placed_by v delivery n time c (placement_of n c.keys).sets))
      (cond o (undelivered refusal.Owed n) (placed_by v delivery n time d (placement_of n d.keys).sets))
  outcomes true v = record { verdict = refl; node = same_self n; counters = same-counters n }
  outcomes false (Err k) = record { verdict = refl; node = same_self n; counters = same-counters n }
  outcomes false (Ok tt) = record { verdict = refl; node = node-same; counters = counters-same }

  applied-alike : SameOutcome (apply delivery n time c) (apply delivery n time d)
  unfolding apply
  applied-alike =
      rw (owes_same, places.verdict) (outcomes (owes_identifier delivery n d.network.disposition) (placement_of n d.keys).verdict)

  -- a set that cannot be placed is left out of both
  fitted-same : SameConfiguration (fitted n c) (fitted n d)
  unfolding fitted
  fitted-same = rw places.verdict (go n.version (placement_of n d.keys).verdict)
    where
      go : (v : Version) (w : Verdict) → SameConfiguration (by_version v c (fitted_by w c)) (by_version v d (fitted_by w d))
      go Draft w = h
      go Published (Ok tt) = h
      go Published (Err k) = record {
        keys = refl;
        address = h.address;
        jrc = h.jrc;
        network = h.network;
        prefix = h.prefix;
        blacklist = h.blacklist;
        rate = h.rate;
      }

pub applies-alike : CounterLaws → AppliesAlike
applies-alike C delivery n time c d p q h =
    applied-alike C delivery n time (fitted n c) (fitted n d) (fitted-keys n c p) (fitted-keys n d q)
    (fitted-same C delivery n time c d p q h)
