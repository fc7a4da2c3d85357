-- Parameter by parameter: what the second takes overrides the first, what it does not take leaves what the first left. A key set's place
-- goes by the active set alone, which an accepted set leaves at an ordinary node, and at a border router by nothing that is held but the
-- counters.
use Rattle.std.specs.Prelude.{Ok, Err}
use Prim.Native.Nat.{ℕ}
use mathlib.Core.Path.{◌≡◌, refl, ap, sym, ◌∙◌}
use mathlib.Core.Bool.{Bool, true, false, cond}
use native.Mathlib.Omega.{arith}
use Rattle.refusal.specs.declared.Refusal.TheVariants as refusal
use Rattle.refusal.specs.Verdict.{Verdict}
use Rattle.link_key.specs.set.KeySet.{keys_of, valid_set, same_keys, shares}
use Rattle.link_key.specs.declared.set.key_set.KeySet.{KeySet}
use Rattle.link_key_counters.specs.CounterLaws.{CounterLaws}
use Rattle.link_key_counters.specs.Counters.{with_zero_counters, no_counted, inherit_counters}
use Rattle.link_key_counters.specs.declared.CountedSet.{CountedSet}
use Rattle.cojp.specs.DispositionLemmas.{missing-keeps}
use Rattle.cojp.specs.ErrorReports.{no_error_reports}
use Rattle.cojp.specs.Reading.{if_taken}
use Rattle.cojp.specs.Reported.{error_reports_of}
use Rattle.cojp.specs.Writing.{missing}
use Rattle.cojp.specs.declared.address.AddressParameter.{AddressParameter}
use Rattle.cojp.specs.declared.configuration.Configuration.{Configuration}
use Rattle.cojp.specs.declared.error_report.ErrorReports.{ErrorReports}
use Rattle.cojp.specs.declared.key_set.KeysParameter.{KeysParameter}
use Rattle.cojp.specs.declared.list.ListParameter.{ListParameter}
use Rattle.cojp.specs.declared.octets.Octets.{Octets}
use Rattle.cojp.specs.declared.octets.OctetsParameter.{OctetsParameter}
use Rattle.cojp.specs.declared.rate.RateParameter.{RateParameter}
use Rattle.cojp.specs.declared.disposition.Disposition.{Disposition}
use Rattle.cojp.specs.declared.disposition.Disposition.TheVariants.{Absent, Taken, Discarded}
use Rattle.cojp_merge.specs.Merge.{merged}
use Rattle.node_attempt.specs.delivery.Delivery.{attempt_after}
use Rattle.node_attempt.specs.declared.delivery.Delivery.TheVariants.{Update}
use Rattle.node_key_sets.specs.Sets.{active_in, two_sets, placed, unplaced, install}
use Rattle.node_key_sets.specs.declared.sets.KeySets.{KeySets}
use Rattle.node_key_sets.specs.declared.sets.InstallResult.{InstallResult}
use Rattle.node_parameters.specs.Blacklist.{list_after}
use Rattle.node_parameters.specs.Lease.{address_after}
use Rattle.node_parameters.specs.Octets.{octets_after}
use Rattle.node_parameters.specs.Rate.{rate_after}
use Rattle.node_parameters.specs.Dispositions.{border_only, dispositions_of}
use Rattle.node_parameters.specs.declared.address.HeldAddress.{HeldAddress}
use Rattle.node_parameters.specs.declared.blacklist.HeldList.{HeldList}
use Rattle.node_parameters.specs.declared.octets.HeldOctets.{HeldOctets}
use Rattle.node_parameters.specs.declared.rate.HeldRate.{HeldRate}
use Rattle.node.specs.Delivery.{apply, configured, placement_of, placed_by, delivered}
use Rattle.node.specs.Node.{is_border, attempting, keyed}
use Rattle.node.specs.declared.delivery.DeliveryResult.{DeliveryResult}
use Rattle.node.specs.declared.node.Node.{Node}
use Rattle.node_history_laws.specs.merge.Merged.{uncounted, OfDraft, MergedApplies}

-- ---- the parameters but the key set
address-as-one : (time : ℕ) (f s : AddressParameter) (old : HeldAddress) (r : Disposition) → s.disposition ≡ r
    → address_after time (if_taken s.disposition s f) old ≡ address_after time s (address_after time f old)
address-as-one time f s old Absent e = rw e
address-as-one time f s old Taken e = rw e
address-as-one time f s old Discarded e = rw e

-- an ordinary node discards network identifier and prefix
pub leaves : (o : Octets) (old : HeldOctets) (r : Disposition) → octets_after (border_only false r) o old ≡ old
leaves o old Absent = refl
leaves o old Taken = refl
leaves o old Discarded = refl

octets-as-one : (border : Bool) (f s : OctetsParameter) (old : HeldOctets) (r : Disposition) → s.disposition ≡ r
    → octets_after (border_only border (if_taken s.disposition s f).disposition) (if_taken s.disposition s f).value old
    ≡ octets_after (border_only border s.disposition) s.value (octets_after (border_only border f.disposition) f.value old)
octets-as-one true f s old Absent e = rw e
octets-as-one true f s old Taken e = rw e
octets-as-one true f s old Discarded e = rw e
octets-as-one false f s old Absent e = rw e
octets-as-one false f s old Taken e = rw e (sym (leaves f.value old f.disposition))
octets-as-one false f s old Discarded e = rw e

jrc-as-one : (f s : OctetsParameter) (old : HeldOctets) (r : Disposition) → s.disposition ≡ r
    → octets_after (if_taken s.disposition s f).disposition (if_taken s.disposition s f).value old
    ≡ octets_after s.disposition s.value (octets_after f.disposition f.value old)
jrc-as-one f s old r e = octets-as-one true f s old r e

-- ---- what the draft has not: nothing is taken of it, and nothing is reported
list-stays : (p : ListParameter) (old : HeldList) → missing p.disposition ≡ true → list_after p old ≡ old
list-stays p old e = missing-keeps p.disposition (record { held = true; value = p.value }) old e

rate-stays : (p : RateParameter) (old : HeldRate) → missing p.disposition ≡ true → rate_after p old ≡ old
rate-stays p old e = missing-keeps p.disposition (record { held = true; value = p.value }) old e

pub none-reported : (c : Configuration) → c.labels.count ≡ 0 → error_reports_of c ≡ no_error_reports
unfolding error_reports_of
none-reported c e = rw e

-- ---- the key set
-- the same keys, and at an ordinary node the same counters
record SameSets (border : Bool) (u v : KeySets) : Type 0 where
  active : u.active.set ≡ v.active.set
  pending : u.pending.set ≡ v.pending.set
  ordinary : border ≡ false → u ≡ v

record SamePlace (border : Bool) (p q : InstallResult) : Type 0 where
  verdict : p.verdict ≡ q.verdict
  sets : SameSets border p.sets q.sets

equal-place : (border : Bool) (p q : InstallResult) → p ≡ q → SamePlace border p q
equal-place border p q e = record {
  verdict = ap (λ (x : InstallResult). x.verdict) e;
  sets =
      record {
        active = ap (λ (x : InstallResult). x.sets.active.set) e;
        pending = ap (λ (x : InstallResult). x.sets.pending.set) e;
        ordinary = λ b. ap (λ (x : InstallResult). x.sets) e;
      };
}

-- an ordinary node's answer to a set, by whether the set is within its limits, equal to the active one, or shares an identifier with it
abbrev ordinary_place : KeySets → KeySet → Bool → Bool → Bool → InstallResult
ordinary_place sets set allowed same shared =
    cond allowed
    (cond same (placed (two_sets sets.active no_counted))
    (cond shared (unplaced refusal.Clash sets) (placed (two_sets sets.active (with_zero_counters set)))))
    (unplaced refusal.Range sets)

-- an accepted set leaves an ordinary node's active set
ordinary-stays :
    (sets : KeySets) (set : KeySet) (allowed same shared : Bool) → (ordinary_place sets set allowed same shared).verdict ≡ Ok tt →
    (ordinary_place sets set allowed same shared).sets.active ≡ sets.active
ordinary-stays sets set false same shared e = absurd (let z : ◌≡◌ {A = ℕ} 0 1 = cc in omega arith)
ordinary-stays sets set true true shared e = refl
ordinary-stays sets set true false true e = absurd (let z : ◌≡◌ {A = ℕ} 0 1 = cc in omega arith)
ordinary-stays sets set true false false e = refl

active-stays : (sets : KeySets) (set : KeySet) → (install false sets set).verdict ≡ Ok tt
    → (install false sets set).sets.active ≡ sets.active
unfolding install
active-stays sets set e =
    ordinary-stays sets set (valid_set set) (same_keys (keys_of set) (active_in sets)) (shares (keys_of set) (active_in sets)) e

-- two pairs of sets with the same active one take an accepted set alike
alike-by :
    (a b : KeySets) (set : KeySet) (allowed same shared : Bool) → b.active ≡ a.active →
    (ordinary_place b set allowed same shared).verdict ≡ Ok tt →
    ordinary_place a set allowed same shared ≡ ordinary_place b set allowed same shared
alike-by a b set false same shared h e = absurd (let z : ◌≡◌ {A = ℕ} 0 1 = cc in omega arith)
alike-by a b set true true shared h e = rw h
alike-by a b set true false true h e = absurd (let z : ◌≡◌ {A = ℕ} 0 1 = cc in omega arith)
alike-by a b set true false false h e = rw h

install-alike :
    (a b : KeySets) (set : KeySet) → b.active ≡ a.active → (install false b set).verdict ≡ Ok tt
    → install false a set ≡ install false b set
unfolding install
install-alike a b set h e =
    let keys : active_in b ≡ active_in a = ap (λ (s : CountedSet). keys_of s.set) h in
    let t = alike-by a b set (valid_set set) (same_keys (keys_of set) (active_in a)) (shares (keys_of set) (active_in a)) h
    in t (rw keys at e) ∙ rw keys

accepted-placement : (p : InstallResult) → p.verdict ≡ Ok tt → p ≡ placed p.sets
accepted-placement p e = ap (λ (v : Verdict). record { verdict = v; sets = p.sets }) e

module _ (C : CounterLaws) where
  -- a border router's set is the new one, whatever it held
  border-by :
      (a b : KeySets) (set : KeySet) (allowed : Bool) →
      (cond allowed (placed (two_sets (inherit_counters b.active set) no_counted)) (unplaced refusal.Range b)).verdict ≡ Ok tt →
      SamePlace true (cond allowed (placed (two_sets (inherit_counters a.active set) no_counted)) (unplaced refusal.Range a))
      (cond allowed (placed (two_sets (inherit_counters b.active set) no_counted)) (unplaced refusal.Range b))
  border-by a b set true e = record {
    verdict = refl;
    sets =
        record {
          active = rw (C.succeeded-is a.active set, C.succeeded-is b.active set);
          pending = refl;
          ordinary = λ h. absurd (let z : ◌≡◌ {A = ℕ} 0 1 = cc in omega arith);
        };
  }
  border-by a b set false e = absurd (let z : ◌≡◌ {A = ℕ} 0 1 = cc in omega arith)

  border-alike : (a b : KeySets) (set : KeySet) → (install true b set).verdict ≡ Ok tt
      → SamePlace true (install true a set) (install true b set)
  unfolding install
  border-alike a b set e = border-by a b set (valid_set set) e

  -- the second's set, installed after the first's or at once
  both-taken :
      (border : Bool) (sets : KeySets) (f s : KeySet) → (install border sets f).verdict ≡ Ok tt →
      (install border (install border sets f).sets s).verdict ≡ Ok tt →
      SamePlace border (install border sets s) (install border (install border sets f).sets s)
  both-taken true sets f s e h = border-alike sets (install true sets f).sets s h
  both-taken false sets f s e h =
      equal-place false (install false sets s) (install false (install false sets f).sets s)
      (install-alike sets (install false sets f).sets s (active-stays sets f e) h)

  -- what the first made of the sets, and what the second makes of those
  abbrev once : Bool → KeySets → KeysParameter → Disposition → InstallResult
  once border sets f q = if_taken q (install border sets f.value) (placed sets)

  abbrev twice : Bool → KeySets → KeysParameter → KeysParameter → Disposition → Disposition → InstallResult
  twice border sets f s q r =
      if_taken r (install border (once border sets f q).sets s.value) (placed (once border sets f q).sets)

  keys-by :
      (border : Bool) (sets : KeySets) (f s : KeysParameter) (q r : Disposition) → (once border sets f q).verdict ≡ Ok tt →
      (twice border sets f s q r).verdict ≡ Ok tt →
      SamePlace border (if_taken r (install border sets s.value) (once border sets f q)) (twice border sets f s q r)
  keys-by border sets f s Absent Absent e h = equal-place border _ _ refl
  keys-by border sets f s Discarded Absent e h = equal-place border _ _ refl
  keys-by border sets f s Taken Absent e h = equal-place border _ _ (accepted-placement (install border sets f.value) e)
  keys-by border sets f s Absent Taken e h = equal-place border _ _ refl
  keys-by border sets f s Discarded Taken e h = equal-place border _ _ refl
  keys-by border sets f s Taken Taken e h = both-taken border sets f.value s.value e h
  keys-by border sets f s Absent Discarded e h = equal-place border _ _ refl
  keys-by border sets f s Discarded Discarded e h = equal-place border _ _ refl
  keys-by border sets f s Taken Discarded e h = equal-place border _ _ (accepted-placement (install border sets f.value) e)

merged-place : (border : Bool) (sets : KeySets) (f s : KeysParameter) (r : Disposition) → s.disposition ≡ r
    → if_taken (if_taken s.disposition s f).disposition (install border sets (if_taken s.disposition s f).value) (placed sets)
    ≡ if_taken s.disposition (install border sets s.value) (if_taken f.disposition (install border sets f.value) (placed sets))
merged-place border sets f s Absent e = rw e
merged-place border sets f s Taken e = rw e
merged-place border sets f s Discarded e = rw e

-- ---- the node
placed-accepted : (v : Verdict) (n : Node) (time : ℕ) (c : Configuration) (sets : KeySets)
    → (placed_by v Update n time c sets).verdict ≡ Ok tt → v ≡ Ok tt
placed-accepted (Ok tt) n time c sets e = refl
placed-accepted (Err k) n time c sets e = absurd (let z : ◌≡◌ {A = ℕ} 0 1 = cc in omega arith)

pub placement-accepted : (n : Node) (time : ℕ) (c : Configuration) → (apply Update n time c).verdict ≡ Ok tt
    → (placement_of n c.keys).verdict ≡ Ok tt
unfolding apply
placement-accepted n time c e = placed-accepted (placement_of n c.keys).verdict n time c (placement_of n c.keys).sets e

abbrev pub after : Node → ℕ → Configuration → Node
after n time c = configured Update n time c (placement_of n c.keys).sets (dispositions_of (is_border n) c)

placed_by_lem : (v : Verdict) (n : Node) (time : ℕ) (c : Configuration) (sets : KeySets) → v ≡ Ok tt
    → placed_by v Update n time c sets
    ≡ delivered (dispositions_of (is_border n) c) (configured Update n time c sets (dispositions_of (is_border n) c))
placed_by_lem v n time c sets e = rw e

pub apply-is : (n : Node) (time : ℕ) (c : Configuration) → (placement_of n c.keys).verdict ≡ Ok tt
    → apply Update n time c ≡ delivered (dispositions_of (is_border n) c) (after n time c)
unfolding apply
apply-is n time c e = placed_by_lem (placement_of n c.keys).verdict n time c (placement_of n c.keys).sets e

-- the form stays, whatever comes
pub version-stays : (n : Node) (time : ℕ) (c : Configuration) → (apply Update n time c).node.version ≡ n.version
unfolding apply configured
version-stays n time c = go (placement_of n c.keys).verdict
  where
    go : (v : Verdict) → (placed_by v Update n time c (placement_of n c.keys).sets).node.version ≡ n.version
    go (Ok tt) = refl
    go (Err k) = refl

-- two nodes that differ at most in these fields are equal where the fields are
module _ (base : Node) where
  abbrev pub node_with : KeySets → HeldAddress → HeldOctets → HeldOctets → HeldOctets → HeldList → HeldRate → ErrorReports → Node
  node_with sets address jrc network prefix blacklist rate faults = record {
    role = base.role;
    attempt = base.attempt;
    sets = sets;
    address = address;
    jrc = jrc;
    network = network;
    prefix = prefix;
    version = base.version;
    blacklist = blacklist;
    rate = rate;
    errors = faults;
  }

  pub node_of :
      {u v : KeySets} {a b : HeldAddress} {j i n m p q : HeldOctets} {k l : HeldList} {r s : HeldRate} {f g : ErrorReports} →
      u ≡ v → a ≡ b → j ≡ i → n ≡ m → p ≡ q → k ≡ l → r ≡ s → f ≡ g → node_with u a j n p k r f ≡ node_with v b i m q l s g
  node_of e f g h o x y z = rw (e, f, g, h, o, x, y, z)

module _ (C : CounterLaws) (n : Node) (time : ℕ) (f s : Configuration) (x : OfDraft f) (y : OfDraft s)
    (e : (placement_of n f.keys).verdict ≡ Ok tt) where
  same_place :
      (placement_of (after n time f) s.keys).verdict ≡ Ok tt →
      SamePlace (is_border n) (placement_of n (merged f s).keys) (placement_of (after n time f) s.keys)
  unfolding configured
  same_place h =
      rw (merged-place (is_border n) n.sets f.keys s.keys s.keys.disposition refl)
      (keys-by C (is_border n) n.sets f.keys s.keys f.keys.disposition s.keys.disposition e h)

  module _ (sets : SameSets (is_border n) (placement_of n (merged f s).keys).sets (placement_of (after n time f) s.keys).sets) where
    -- the sets of the two nodes, seen as they are or with their counters at 0
    seen_alike :
        (seen : KeySets → KeySets) → seen (placement_of n (merged f s).keys).sets ≡ seen (placement_of (after n time f) s.keys).sets →
        keyed (after n time (merged f s)) (seen (after n time (merged f s)).sets)
        ≡ keyed (after (after n time f) time s) (seen (after (after n time f) time s).sets)
    unfolding configured dispositions_of
    seen_alike seen same =
        node_of (attempting n (attempt_after Update n.attempt time)) same
        (address-as-one time f.address s.address n.address s.address.disposition refl)
        (jrc-as-one f.jrc s.jrc n.jrc s.jrc.disposition refl)
        (octets-as-one (is_border n) f.network s.network n.network s.network.disposition refl)
        (octets-as-one (is_border n) f.prefix s.prefix n.prefix s.prefix.disposition refl)
        (sym (list-stays s.blacklist (list_after f.blacklist n.blacklist) y.blacklist
        ∙ list-stays f.blacklist n.blacklist x.blacklist))
        (sym (rate-stays s.rate (rate_after f.rate n.rate) y.rate ∙ rate-stays f.rate n.rate x.rate))
        (none-reported (merged f s) refl ∙ sym (none-reported s y.met))

    same_after : uncounted (after n time (merged f s)) ≡ uncounted (after (after n time f) time s)
    same_after = seen_alike (λ (x : KeySets). two_sets (with_zero_counters x.active.set) (with_zero_counters x.pending.set))
        (rw (sets.active, sets.pending))

    ordinary-after : is_border n ≡ false → after n time (merged f s) ≡ after (after n time f) time s
    ordinary-after b = seen_alike (λ (x : KeySets). x) (sets.ordinary b)

pub merged-applies : CounterLaws → MergedApplies
merged-applies C n time f s x y e h =
    let first = placement-accepted n time f e in
    let between : (apply Update n time f).node ≡ after n time f = ap (λ (d : DeliveryResult). d.node) (apply-is n time f first) in
    let second = placement-accepted (after n time f) time s (rw between at h) in
    let place = same_place C n time f s x y first second in
    let joined = ap (λ (d : DeliveryResult). d.node) (apply-is n time (merged f s) (place.verdict ∙ second)) in
    let parted : after (after n time f) time s ≡ (apply Update (apply Update n time f).node time s).node =
    sym (ap (λ (d : DeliveryResult). d.node) (apply-is (after n time f) time s second))
    ∙ ap (λ (m : Node). (apply Update m time s).node) (sym between) in
    record {
      accepted = ap (λ (d : DeliveryResult). d.verdict) (apply-is n time (merged f s) (place.verdict ∙ second));
      node =
          record {
            but-counters = ap uncounted joined ∙ same_after C n time f s x y first place.sets ∙ ap uncounted parted;
            ordinary = λ b. joined ∙ ordinary-after C n time f s x y first place.sets b ∙ parted;
          };
    }
