-- A refused configuration leaves the node; an accepted one leaves a valid node valid, since what it holds is in range and its key set
-- is placed by the three rules; a border node has the set active at once.
use Rattle.std.specs.Prelude.{Ok, Err}
use Prim.Native.Nat.{ℕ, ◌≤◌}
use native.Mathlib.Omega.{arith}
use mathlib.Core.Path.{◌≡◌, refl, sym, ◌∙◌, ap}
use mathlib.Core.Bool.{Bool, true, false, cond, ◌||◌}
use mathlib.Core.List.{List}
use borrow.Author.Tests.{leb-true, le-leb, eq-eqb}
use lib.Dec.{leb, eqb}
use lib.ListN.{length}
use Rattle.refusal.specs.RefusalLemmas.{refused-not}
use Rattle.refusal.specs.declared.Refusal.{Refusal}
use Rattle.refusal.specs.declared.Refusal.TheVariants as refusal
use Rattle.refusal.specs.Verdict.{Verdict}
use Rattle.link_key.specs.declared.Key.{Key}
use Rattle.link_key.specs.set.KeySet.{keys_of, additional_info_allowed}
use Rattle.link_key.specs.declared.set.key_set.KeySet.{KeySet}
use Rattle.link_key_counters.specs.Counters.{no_counted, inherit_counters}
use Rattle.node_key_sets.specs.Sets.{two_sets, plain_in, placed, install}
use Rattle.node_key_sets.specs.Sets as sets
use Rattle.node_key_sets.specs.declared.sets.KeySets.{KeySets}
use Rattle.link_key.specs.set.KeyLaws.{KeyLaws}
use Rattle.link_key_counters.specs.CounterLaws.{CounterLaws}
use Rattle.node_key_sets.proofs.Valid.{install-valid, install-plain, border-installs}
use Rattle.node_attempt.specs.Attempt as attempt
use Rattle.node_parameters.specs.Lease.{valid_address}
use Rattle.node_attempt.specs.declared.attempt.Attempt.{Attempt}
use Rattle.node_parameters.specs.declared.address.HeldAddress.{HeldAddress}
use Rattle.node_attempt.proofs.Attempts.{moved-valid, joined-valid}
use Rattle.node_parameters.proofs.Leases.{later}
use Rattle.cojp.specs.Reading.{if_taken}
use Rattle.short_address.specs.Address.{is_address}
use Rattle.cojp.specs.InRange.{InRange, ReadsInRange, ErrorReportsValid}
use Rattle.protocol_version.specs.Version.{allows_additional_info}
use Rattle.cojp.specs.declared.address.ShortAddress.{ShortAddress}
use Rattle.cojp.specs.declared.configuration.Configuration.{Configuration}
use Rattle.cojp.specs.declared.configuration.ConfigurationRead.{ConfigurationRead}
use Rattle.cojp.specs.declared.key_set.KeysParameter.{KeysParameter}
use Rattle.cojp.specs.declared.octets.Octets.{Octets}
use Rattle.cojp.specs.declared.disposition.Disposition.{Disposition}
use Rattle.cojp.specs.declared.disposition.Disposition.TheVariants.{Absent, Taken, Discarded}
use Rattle.node_parameters.specs.Octets.{valid_octets, valid_jrc, octets_after}
use Rattle.node_parameters.specs.Dispositions.{no_dispositions, dispositions_of}
use Rattle.node.specs.Node.{is_border, clock_of, valid_role}
use Rattle.node.specs.Range.{version_valid, others_valid, valid, Valid}
use Rattle.node.specs.Delivery.{placement_of, fitted, configured, undelivered, delivered, owes_identifier}
use Rattle.node.specs.Delivery.{placed_by, apply, deliver_verdict, apply_read, deliver_by, read_for, deliver}
use Rattle.node_attempt.specs.delivery.Delivery.{attempt_after, belongs, may_come}
use Rattle.node_laws.specs.Laws.{configuration_in, Takes, Installed}
use Rattle.node_attempt.specs.declared.delivery.Delivery.{Delivery}
use Rattle.node_attempt.specs.declared.delivery.Delivery.TheVariants.{JoinAnswer, Update}
use Rattle.node.specs.declared.delivery.DeliveryResult.{DeliveryResult}
use Rattle.node_parameters.specs.declared.dispositions.Dispositions.{Dispositions}
use Rattle.node_parameters.specs.declared.octets.HeldOctets.{HeldOctets}
use Rattle.node.specs.declared.node.Node.{Node}
use Rattle.lemmas.specs.logic.Tests.{all-four, first, second, third, fourth, both}
use Rattle.node_laws.proofs.Valid.{Plain, keys-valid, keys-plain, attempt-valid, address-valid, others-valid, valid-by}
use Rattle.node_laws.proofs.Forms.{fitted-taken, fitted-range, may-inform, octets-after, form-after}

-- ---- refusals
-- where it is refused, the node is as it was, and the report is empty
abbrev Leaves : Node → DeliveryResult → Type 0
Leaves n m = (k : Refusal) → m.verdict ≡ Err k → (m.node ≡ n) × (m.dispositions ≡ no_dispositions)

module _ (n : Node) where
  no-leaves : (k : Refusal) → Leaves n (undelivered k n)
  no-leaves k j e = (refl, refl)

  yes-leaves : (r : Dispositions) (m : Node) → Leaves n (delivered r m)
  yes-leaves r m k e = absurd (let z : ◌≡◌ {A = ℕ} 0 1 = cc in omega arith)

  cond-leaves : (b : Bool) (x y : DeliveryResult) → Leaves n x → Leaves n y → Leaves n (cond b x y)
  cond-leaves true x y p q = p
  cond-leaves false x y p q = q

  placed-leaves : (v : Verdict) (delivery : Delivery) (time : ℕ) (c : Configuration) (s : KeySets)
      → Leaves n (placed_by v delivery n time c s)
  placed-leaves (Err k) delivery time c s = no-leaves k
  placed-leaves (Ok tt) delivery time c s =
      yes-leaves (dispositions_of (is_border n) c) (configured delivery n time c s (dispositions_of (is_border n) c))

  apply-leaves : (delivery : Delivery) (time : ℕ) (c : Configuration) → Leaves n (apply delivery n time c)
  unfolding apply
  apply-leaves delivery time c =
      cond-leaves (owes_identifier delivery n c.network.disposition) _ _ (no-leaves refusal.Owed)
      (placed-leaves (placement_of n c.keys).verdict delivery time c (placement_of n c.keys).sets)

  read-leaves : (v : Verdict) (delivery : Delivery) (time : ℕ) (c : Configuration) → Leaves n (apply_read v delivery n time c)
  read-leaves (Err k) delivery time c = no-leaves k
  read-leaves (Ok tt) delivery time c = apply-leaves delivery time (fitted n c)

  by-leaves : (v : Verdict) (delivery : Delivery) (time : ℕ) (r : ConfigurationRead) → Leaves n (deliver_by v delivery n time r)
  by-leaves (Err k) delivery time r = no-leaves k
  by-leaves (Ok tt) delivery time r = read-leaves r.verdict delivery time r.configuration

  pub deliver-leaves : (delivery : Delivery) (time : ℕ) (payload : List ℕ) → Leaves n (deliver delivery n time payload)
  unfolding deliver
  deliver-leaves delivery time payload = by-leaves (deliver_verdict delivery n time (length payload)) delivery time (read_for n payload)

-- ---- an accepted configuration
-- the tests before it passed
record Passed (delivery : Delivery) (n : Node) (time : ℕ) (payload : List ℕ) : Type 0 where
  later : clock_of n ≤ time
  read : (read_for n payload).verdict ≡ Ok tt
  placed : (placement_of n (configuration_in n payload).keys).verdict ≡ Ok tt
  is :
      deliver delivery n time payload
      ≡ delivered (dispositions_of (is_border n) (configuration_in n payload))
      (configured delivery n time (configuration_in n payload) (placement_of n (configuration_in n payload).keys).sets
      (dispositions_of (is_border n) (configuration_in n payload)))

-- a test that refuses where it is true did not
failed : (b : Bool) (x : DeliveryResult) (k : Refusal) (n : Node) → (cond b (undelivered k n) x).verdict ≡ Ok tt → b ≡ false
failed true x k n e = refused-not k e
failed false x k n e = refl

accepted-placed :
    (v : Verdict) (delivery : Delivery) (n : Node) (time : ℕ) (c : Configuration) (s : KeySets) →
    (placed_by v delivery n time c s).verdict ≡ Ok tt → v ≡ Ok tt
accepted-placed (Err k) delivery n time c s e = refused-not k e
accepted-placed (Ok tt) delivery n time c s e = refl

accepted-read :
    (v : Verdict) (delivery : Delivery) (n : Node) (time : ℕ) (c : Configuration) →
    (apply_read v delivery n time c).verdict ≡ Ok tt → v ≡ Ok tt
accepted-read (Err k) delivery n time c e = refused-not k e
accepted-read (Ok tt) delivery n time c e = refl

accepted-by :
    (v : Verdict) (delivery : Delivery) (n : Node) (time : ℕ) (r : ConfigurationRead) →
    (deliver_by v delivery n time r).verdict ≡ Ok tt → v ≡ Ok tt
accepted-by (Err k) delivery n time r e = refused-not k e
accepted-by (Ok tt) delivery n time r e = refl

not-early : (delivery : Delivery) (n : Node) (time len : ℕ) → deliver_verdict delivery n time len ≡ Ok tt
    → leb (clock_of n) time ≡ true
unfolding deliver_verdict may_come
not-early delivery n time len =
    go (valid n) (attempt.valid n.attempt) (leb len 256) (leb (clock_of n) time) (belongs delivery n.attempt.phase)
  where
    go :
        (v f l t b : Bool) →
        ◌≡◌ {A = Verdict}
        (cond v
        (cond f
        (cond l (cond t (cond b (Ok tt) (Err refusal.Phase)) (Err refusal.Clock))
        (Err refusal.Long))
        (Err refusal.Range))
        (Err refusal.Range))
        (Ok tt) → t ≡ true
    go false f l t b e = refused-not refusal.Range e
    go true false l t b e = refused-not refusal.Range e
    go true true false t b e = refused-not refusal.Long e
    go true true true false b e = refused-not refusal.Clock e
    go true true true true b e = refl

module _ (delivery : Delivery) (n : Node) (time : ℕ) (payload : List ℕ) where
  abbrev c : Configuration
  c = configuration_in n payload

  accepted-passed : (deliver delivery n time payload).verdict ≡ Ok tt → Passed delivery n time payload
  unfolding deliver apply
  accepted-passed e =
      let v = accepted-by (deliver_verdict delivery n time (length payload)) delivery n time (read_for n payload) e in
      let e1 = rw v at e in
      let r = accepted-read (read_for n payload).verdict delivery n time (read_for n payload).configuration e1 in
      let e2 = rw r at e1 in
      let o = failed (owes_identifier delivery n c.network.disposition) _ refusal.Owed n e2 in
      let e3 = rw o at e2 in
      let p = accepted-placed (placement_of n c.keys).verdict delivery n time c (placement_of n c.keys).sets e3 in
      record {
        later = leb-true (clock_of n) time (not-early delivery n time (length payload) v);
        read = r;
        placed = p;
        is = rw (v, r, o, p);
      }

pub accepted-is :
    (delivery : Delivery) (n : Node) (time : ℕ) (payload : List ℕ) → (deliver delivery n time payload).verdict ≡ Ok tt →
    deliver delivery n time payload
    ≡ delivered (dispositions_of (is_border n) (configuration_in n payload))
    (configured delivery n time (configuration_in n payload) (placement_of n (configuration_in n payload).keys).sets
    (dispositions_of (is_border n) (configuration_in n payload)))
accepted-is delivery n time payload e = (accepted-passed delivery n time payload e).is

pub accepted-reports :
    (delivery : Delivery) (n : Node) (time : ℕ) (payload : List ℕ) → (deliver delivery n time payload).verdict ≡ Ok tt →
    (deliver delivery n time payload).dispositions ≡ dispositions_of (is_border n) (configuration_in n payload)
accepted-reports delivery n time payload e = ap (λ (m : DeliveryResult). m.dispositions) (accepted-passed delivery n time payload e).is

pub accepted-reading :
    (delivery : Delivery) (n : Node) (time : ℕ) (payload : List ℕ) → (deliver delivery n time payload).verdict ≡ Ok tt →
    (read_for n payload).verdict ≡ Ok tt
accepted-reading delivery n time payload e = (accepted-passed delivery n time payload e).read

-- ---- the other parameters
address-after :
    (clock time : ℕ) (r : Disposition) (value : ShortAddress) (old : HeldAddress) → clock ≤ time →
    if_taken r (is_address value.bytes) true ≡ true →
    valid_address clock old ≡ true →
    valid_address time (if_taken r (record { held = true; value = value; received = time }) old) ≡ true
address-after clock time Absent value old h e f = later clock time old h f
address-after clock time Discarded value old h e f = later clock time old h f
address-after clock time Taken value old h e f = both (is_address value.bytes) (leb time time) e (le-leb time time (omega arith))

jrc-after :
    (r : Disposition) (o : Octets) (old : HeldOctets) → if_taken r (eqb o.len 16) true ≡ true → valid_jrc old ≡ true →
    valid_jrc (octets_after r o old) ≡ true
jrc-after Absent o old e f = f
jrc-after Discarded o old e f = f
jrc-after Taken o old e f = e

attempt-after : (delivery : Delivery) (a : Attempt) (time : ℕ) → a.clock ≤ time → attempt.valid a ≡ true
    → attempt.valid (attempt_after delivery a time) ≡ true
attempt-after JoinAnswer a time h e = joined-valid a time h e
attempt-after Update a time h e = moved-valid a time h e

-- a part of the node that no configuration changes
deliver-part :
    {X : Type 0} (part : Node → X) (delivery : Delivery) (n : Node) (time : ℕ) (payload : List ℕ) →
    ((c : Configuration) (s : KeySets) (r : Dispositions) → part (configured delivery n time c s r) ≡ part n) →
    part (deliver delivery n time payload).node ≡ part n
deliver-part part delivery n time payload f = go (deliver delivery n time payload).verdict refl
  where
    go : (w : Verdict) → (deliver delivery n time payload).verdict ≡ w → part (deliver delivery n time payload).node ≡ part n
    go (Err k) e = ap part (deliver-leaves n delivery time payload k e).0
    go (Ok tt) e = ap (λ (m : DeliveryResult). part m.node) (accepted-passed delivery n time payload e).is ∙ f _ _ _

pub deliver-role : (delivery : Delivery) (n : Node) (time : ℕ) (payload : List ℕ) → (deliver delivery n time payload).node.role ≡ n.role
unfolding configured
deliver-role delivery n time payload = deliver-part (λ (m : Node). m.role) delivery n time payload (λ c s r. refl)

pub deliver-version :
    (delivery : Delivery) (n : Node) (time : ℕ) (payload : List ℕ) → (deliver delivery n time payload).node.version ≡ n.version
unfolding configured
deliver-version delivery n time payload = deliver-part (λ (m : Node). m.version) delivery n time payload (λ c s r. refl)

-- ---- a payload of which no set is taken
untaken-place :
    (n : Node) (r : Disposition) (set : KeySet) → (r ≡ Taken → ⊥) →
    (if_taken r (install (is_border n) n.sets set) (placed n.sets)).sets ≡ n.sets
untaken-place n Absent set f = refl
untaken-place n Discarded set f = refl
untaken-place n Taken set f = absurd (f refl)

pub untaken-stays :
    (delivery : Delivery) (n : Node) (time : ℕ) (payload : List ℕ) → ((deliver delivery n time payload).dispositions.keys ≡ Taken → ⊥) →
    (deliver delivery n time payload).node.sets ≡ n.sets
unfolding configured dispositions_of
untaken-stays delivery n time payload f = go (deliver delivery n time payload).verdict refl
  where
    go : (w : Verdict) → (deliver delivery n time payload).verdict ≡ w → (deliver delivery n time payload).node.sets ≡ n.sets
    go (Err k) e = ap (λ (m : Node). m.sets) (deliver-leaves n delivery time payload k e).0
    go (Ok tt) e =
        let is = accepted-is delivery n time payload e in
        let c = configuration_in n payload in
        ap (λ (m : DeliveryResult). m.node.sets) is
        ∙ untaken-place n c.keys.disposition c.keys.value (λ t. f (ap (λ (m : DeliveryResult). m.dispositions.keys) is ∙ t))

-- ---- a border node that takes a set
border-place :
    (n : Node) (r : Disposition) (set : KeySet) → n.role ≡ 1 → r ≡ Taken →
    (if_taken r (install (is_border n) n.sets set) (placed n.sets)).verdict ≡ Ok tt →
    (if_taken r (install (is_border n) n.sets set) (placed n.sets)).sets ≡ two_sets (inherit_counters n.sets.active set) no_counted
border-place n r set b e a =
    let border = eq-eqb n.role 1 b in
    rw (e, border) (border-installs n.sets set (rw (e, border) at a))

-- ---- by the laws of keys, of counted sets, of what is read and of its reports
module _ (K : KeyLaws) (C : CounterLaws) (R : ReadsInRange) (F : ErrorReportsValid) where
  placement-valid :
      (n : Node) (r : Disposition) (set : KeySet) → sets.valid (is_border n) n.sets ≡ true →
      sets.valid (is_border n) (if_taken r (install (is_border n) n.sets set) (placed n.sets)).sets ≡ true
  placement-valid n Absent set v = v
  placement-valid n Discarded set v = v
  placement-valid n Taken set v = install-valid K C (is_border n) n.sets set v

  placement-plain :
      (n : Node) (r : Disposition) (set : KeySet) →
      if_taken r (additional_info_allowed (allows_additional_info n.version) (keys_of set)) true ≡ true → Plain n →
      (allows_additional_info n.version || plain_in (if_taken r (install (is_border n) n.sets set) (placed n.sets)).sets) ≡ true
  placement-plain n Absent set e v = v
  placement-plain n Discarded set e v = v
  placement-plain n Taken set e v = install-plain (allows_additional_info n.version) n.sets v C set e (is_border n)

  -- ---- the node stays valid
  module _ (delivery : Delivery) (n : Node) (time : ℕ) (c : Configuration) (v : Valid n) (h : clock_of n ≤ time)
      (r : InRange n.version c) where
    abbrev after : Node
    after = configured delivery n time c (placement_of n c.keys).sets (dispositions_of (is_border n) c)

    others-after : others_valid after ≡ true
    unfolding configured dispositions_of
    others-after =
        let o = others-valid n v in
        let part1 = valid_role n.role in
        let part2 = valid_jrc n.jrc in
        let part3 = valid_octets n.network in
        let part4 = version_valid n in
        all-four (valid_role n.role) (valid_jrc after.jrc) (valid_octets after.network) (version_valid after)
        (first part1 part2 part3 part4 o)
        (jrc-after c.jrc.disposition c.jrc.value n.jrc r.jrc (second part1 part2 part3 part4 o))
        (octets-after (is_border n) c.network.disposition c.network.value n.network r.network
        (third part1 part2 part3 part4 o))
        (form-after delivery n time c (placement_of n c.keys).sets r (fourth part1 part2 part3 part4 o) F)

    configured-valid : Valid after
    configured-valid =
        valid-by after
        (unfold configured in placement-valid n c.keys.disposition c.keys.value (keys-valid n v))
        (unfold configured in
        placement-plain n c.keys.disposition c.keys.value (may-inform n.version c r.form) (keys-plain n v))
        (unfold configured in attempt-after delivery n.attempt time h (attempt-valid n v))
        (unfold configured in
        address-after (clock_of n) time c.address.disposition c.address.value n.address h r.address (address-valid n v))
        others-after

  pub deliver-valid : (delivery : Delivery) (n : Node) (time : ℕ) (payload : List ℕ) → Valid n
      → Valid (deliver delivery n time payload).node
  deliver-valid delivery n time payload v = go (deliver delivery n time payload).verdict refl
    where
      go : (w : Verdict) → (deliver delivery n time payload).verdict ≡ w → Valid (deliver delivery n time payload).node
      go (Err k) e = rw (deliver-leaves n delivery time payload k e).0 v
      go (Ok tt) e =
          let p = accepted-passed delivery n time payload e in
          rw p.is
          (configured-valid delivery n time (configuration_in n payload) v p.later
          (fitted-range n (read_for n payload).configuration (R n.version payload p.read)))

  pub border-takes :
      (delivery : Delivery) (n : Node) (time : ℕ) (payload : List ℕ) (ks : List Key) → Valid n → n.role ≡ 1 →
      Takes delivery n time payload ks →
      Installed ks n (deliver delivery n time payload).node
  unfolding configured dispositions_of
  border-takes delivery n time payload ks v b h =
      let p = accepted-passed delivery n time payload h.accepted in
      let c = configuration_in n payload in
      let taken : c.keys.disposition ≡ Taken = sym (ap (λ (m : DeliveryResult). m.dispositions.keys) p.is) ∙ h.taken in
      let same = fitted-taken n (read_for n payload).configuration taken in
      let place = border-place n c.keys.disposition c.keys.value b taken p.placed in
      record {
        active = rw p.is
            (rw (place, C.succeeded-is n.sets.active c.keys.value) (ap (λ (k : KeysParameter). keys_of k.value) same ∙ h.set));
        pending = rw p.is (rw place);
        role = deliver-role delivery n time payload;
        valid = deliver-valid delivery n time payload v;
      }
