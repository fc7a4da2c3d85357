-- What a configuration that was read holds is in range: a parameter is taken only where its value is good.
use Rattle.std.specs.Prelude.{Ok}
use Prim.Native.Nat.{ℕ, ◌≤◌, ◌+◌, ◌-◌}
use native.Mathlib.Omega.{arith}
use mathlib.Core.Path.{◌≡◌, refl}
use mathlib.Core.Bool.{Bool, true, false, cond, ◌&&◌, ◌||◌}
use mathlib.Core.List.{List, [], ◌∷◌}
use borrow.Author.Tests.{leb-true, le-leb, eq-eqb}
use lib.Dec.{leb, eqb}
use lib.ListN.{length, take, replicate}
use lib.Seq.{take_at}
use Rattle.refusal.specs.RefusalLemmas.{refused-not}
use Rattle.refusal.specs.declared.Refusal.TheVariants as refusal
use Rattle.cbor.specs.Decode.{heading}
use Rattle.cbor.specs.View.{Scalar, number, minus, string, other, View, scalar, list}
use Rattle.link_key.specs.Key.{no_key}
use Rattle.link_key.specs.set.KeySet.{keys_of, valid_keys, valid_set, no_additional_infos}
use Rattle.link_key.specs.declared.Key.{Key}
use Rattle.link_key.specs.declared.set.key_set.KeySet.{KeySet}
use Rattle.link_key.specs.set.KeyLaws.{KeyLaws}
use Rattle.link_key.specs.Key.{has_no_additional_info}
use Rattle.link_key.specs.declared.additional_info.AdditionalInfo.TheVariants as info
use Rattle.cbor.specs.Laws.{ItemLaws}
use Rattle.cojp.specs.Reading.{Reading, refused, read, map_reading, Judgement, broken, unfit, good, concluded, by_version_of}
use Rattle.cojp.specs.Octets.{octets_judged, octets_of, octets_parameter, no_octets_parameter, octets_read}
use Rattle.short_address.specs.Address.{is_address}
use Rattle.cojp.specs.Address.{address_by, address_in, address_judged, address_of, address_parameter, no_address_parameter, address_read}
use Rattle.cojp.specs.KeySet.{Groups, not_groups, groups_of, group, groups, identified, used, valued}
use Rattle.cojp.specs.KeySet.{keys_in, keys_judged_as, keys_read_as, key_set_of, keys_parameter, no_keys_parameter}
use Rattle.cojp.specs.ErrorReports.{no_error_reports, is_reportable, error_reports_valid}
use Rattle.cojp.specs.Lists.{strings_in}
use Rattle.cojp.specs.Parameter.{parameter_of, later_parameter}
use Rattle.protocol_version.specs.Version.{by_version, allows_additional_info}
use Rattle.cojp.specs.Walk.{payload_read}
use Rattle.cojp.specs.Configuration.{empty_configuration, with_keys, with_address, with_jrc, with_network, with_prefix, with_unknown_count}
use Rattle.cojp.specs.Configuration.{label_status_for, taking_for, noted, configuration_taking, configuration_form, configuration_answer}
use Rattle.cojp.specs.InRange.{InRange, ReadsInRange}
use Rattle.cojp.specs.Writing.{keys_in_range, keys_without_additional_info, address_in_range}
use Rattle.cojp.specs.Writing.{jrc_in_range, octets_in_range, list_in_range, missing, of_version}
use Rattle.cojp.specs.declared.address.AddressParameter.{AddressParameter}
use Rattle.cojp.specs.declared.address.ShortAddress.{ShortAddress}
use Rattle.cojp.specs.declared.configuration.Configuration.{Configuration}
use Rattle.cojp.specs.declared.error_report.ErrorReports.{ErrorReports}
use Rattle.cojp.specs.declared.key_set.KeysParameter.{KeysParameter}
use Rattle.cojp.specs.declared.octets.Octets.{Octets}
use Rattle.cojp.specs.declared.octets.OctetsParameter.{OctetsParameter}
use Rattle.cojp.specs.declared.parameter.Parameter.{Parameter}
use Rattle.cojp.specs.declared.parameter.Parameter.TheVariants as name
use Rattle.cojp.specs.declared.disposition.Disposition.TheVariants.{Taken, Discarded}
use Rattle.protocol_version.specs.declared.Version.{Version}
use Rattle.protocol_version.specs.declared.Version.TheVariants.{Draft, Published}
use Rattle.cojp.specs.declared.walk.LabelStatus.TheVariants.{First}
use Rattle.lemmas.specs.logic.Tests.{both_left, both_right}
use Rattle.cojp.proofs.Faults.{Listed, none-listed, added-listed, listed-valid}
use Rattle.cojp.proofs.Kept.{blacklist-good}
use Rattle.cojp.proofs.Walks.{Gives, payload-gives}

-- ---- a good value
Good : {A : Type 0} → (A → Type 0) → Judgement A → Type 0
Good P broken = Unit {0}
Good P unfit = Unit {0}
Good P (good a) = P a

good-if : {A : Type 0} (P : A → Type 0) (b : Bool) (a : A) → (b ≡ true → P a) → Good P (cond b (good a) unfit)
unfolding Good
good-if P true a f = f refl
good-if P false a f = tt

-- ---- the keys of the draft have no additional information
abbrev Plainly : Groups → Type 0
Plainly not_groups = Unit {0}
Plainly (groups_of ks) = no_additional_infos ks ≡ true

group-plain : (i u : ℕ) (v : List ℕ) (g : Groups) → Plainly g → Plainly (group i u v info.Absent g)
unfolding has_no_additional_info
group-plain i u v not_groups h = tt
group-plain i u v (groups_of ks) h = h

mutual
  unfolding groups identified used valued

  groups-plain : (ps : List Scalar) → Plainly (groups false ps)
  groups-plain [] = refl
  groups-plain (number i ∷ r) = identified-plain r i
  groups-plain (minus n ∷ r) = tt
  groups-plain (string v ∷ r) = tt
  groups-plain (other ∷ r) = tt

  identified-plain : (ps : List Scalar) (i : ℕ) → Plainly (identified false i ps)
  identified-plain [] i = tt
  identified-plain (number u ∷ r) i = used-plain r i u
  identified-plain (minus n ∷ r) i = tt
  identified-plain (string v ∷ r) i = valued_plain r i 0 v
  identified-plain (other ∷ r) i = tt

  used-plain : (ps : List Scalar) (i u : ℕ) → Plainly (used false i u ps)
  used-plain [] i u = tt
  used-plain (number n ∷ r) i u = tt
  used-plain (minus n ∷ r) i u = tt
  used-plain (string v ∷ r) i u = valued_plain r i u v
  used-plain (other ∷ r) i u = tt

  valued_plain : (ps : List Scalar) (i u : ℕ) (v : List ℕ) → Plainly (valued false i u v ps)
  valued_plain [] i u v = group-plain i u v (groups_of []) refl
  valued_plain (number n ∷ r) i u v = group-plain i u v (identified false n r) (identified-plain r n)
  valued_plain (minus n ∷ r) i u v = tt
  valued_plain (string w ∷ r) i u v = tt
  valued_plain (other ∷ r) i u v = tt

draft-plain : (allows_additional_info : Bool) (ps : List Scalar) → allows_additional_info ≡ false → (ks : List Key)
    → groups allows_additional_info ps ≡ groups_of ks → no_additional_infos ks ≡ true
draft-plain true ps i ks e = absurd (let z : ◌≡◌ {A = ℕ} 0 1 = cc in omega arith)
draft-plain false ps i ks e = rw e at (groups-plain ps)

module _ (K : KeyLaws) where
  set-of : (ks : List Key) → valid_keys ks ≡ true → valid_set (key_set_of ks) ≡ true
  set-of ks e =
      K.set-valid (key_set_of ks) (K.valid-few ks e) (rw (take_at ks (replicate (8 - length ks) no_key) (length ks) refl) e)

  -- in the limits, and without additional information where none may be
  FineSet : Bool → KeySet → Type 0
  FineSet allows_additional_info s = (valid_set s ≡ true) × (allows_additional_info ≡ false → no_additional_infos (keys_of s) ≡ true)

  keys-good : (allows_additional_info : Bool) (x : View) → Good (FineSet allows_additional_info) (keys_judged_as allows_additional_info x)
  unfolding Good FineSet
  keys-good allows_additional_info (scalar p) = tt
  keys-good allows_additional_info (list ps) = go (groups allows_additional_info ps) refl
    where
      go : (g : Groups) → groups allows_additional_info ps ≡ g → Good (FineSet allows_additional_info) (keys_in g)
      go not_groups e = tt
      go (groups_of ks) e =
          good-if (FineSet allows_additional_info) (valid_keys ks) (key_set_of ks)
          (λ h. (
            set-of ks h,
            λ i. rw (take_at ks (replicate (8 - length ks) no_key) (length ks) refl) (draft-plain allows_additional_info ps i ks e),
          ))

address-by : (s : List ℕ) (leased : Bool) (lease : ℕ) → Good (λ (a : ShortAddress). is_address a.bytes ≡ true) (address_by s leased lease)
address-by s leased lease = good-if (λ (a : ShortAddress). is_address a.bytes ≡ true) (is_address s) (address_of s leased lease) (λ e. e)

address-in : (ps : List Scalar) → Good (λ (a : ShortAddress). is_address a.bytes ≡ true) (address_in ps)
unfolding Good address_in
address-in [] = tt
address-in (number n ∷ r) = tt
address-in (minus n ∷ r) = tt
address-in (other ∷ r) = tt
address-in (string s ∷ []) = address-by s false 0
address-in (string s ∷ number n ∷ []) = address-by s true n
address-in (string s ∷ number n ∷ p ∷ r) = tt
address-in (string s ∷ string t ∷ r) = tt
address-in (string s ∷ minus n ∷ r) = tt
address-in (string s ∷ other ∷ r) = tt

address-good : (v : View) → Good (λ (a : ShortAddress). is_address a.bytes ≡ true) (address_judged v)
unfolding Good
address-good (scalar p) = tt
address-good (list ps) = address-in ps

-- so many bytes at least, and 16 at most
module _ (least : ℕ) where
  sized : Octets → Type 0
  sized o = (least ≤ o.len) × (o.len ≤ 16)

  octets-good : (v : View) → Good sized (octets_judged least v)
  unfolding Good octets_judged sized
  octets-good (scalar (string s)) =
      let low = leb least (length s) in
      let high = leb (length s) 16 in
      good-if sized (low && high) (octets_of s)
      (λ e. (leb-true least (length s) (both_left low high e), leb-true (length s) 16 (both_right low high e)))
  octets-good (scalar (number n)) = tt
  octets-good (scalar (minus n)) = tt
  octets-good (scalar other) = tt
  octets-good (list ps) = tt

-- ---- a parameter after reading: R holds of each good value, and of what stands where nothing is taken
reads-well :
    {A P : Type 0} (Q : A → Type 0) (R : P → Type 0) (take : A → P) (outside : Reading P) (j : Judgement A) → Good Q j → Gives R outside →
    ((a : A) → Q a → R (take a)) → Gives R (concluded outside take j)
unfolding Good
reads-well Q R take outside broken g o h = tt
reads-well Q R take outside unfit g o h = o
reads-well Q R take outside (good a) g o h = h a g

follows-well : {P : Type 0} (R : P → Type 0) (v : Version) (bad : P) (r : Reading P) → R bad → Gives R r → Gives R (by_version_of v bad r)
follows-well R Draft bad r b g = g
follows-well R Published bad (refused k) b g = b
follows-well R Published bad (read p) b g = g

puts-well :
    {P S : Type 0} (R : P → Type 0) (Q : S → Type 0) (f : P → S) (r : Reading P) → Gives R r → ((p : P) → R p → Q (f p))
    → Gives Q (map_reading f r)
puts-well R Q f (refused k) g h = tt
puts-well R Q f (read p) g h = h p g

-- ---- which parameters a form knows
abbrev Of : Version → Parameter → Type 0
Of Draft name.Keys = Unit {0}
Of Draft name.Address = Unit {0}
Of Draft name.Jrc = Unit {0}
Of Draft name.Network = Unit {0}
Of Draft name.Prefix = Unit {0}
Of Draft name.Blacklist = ⊥
Of Draft name.Rate = ⊥
Of Draft name.Unknown = Unit {0}
Of Published name.Keys = Unit {0}
Of Published name.Address = Unit {0}
Of Published name.Jrc = Unit {0}
Of Published name.Network = ⊥
Of Published name.Prefix = ⊥
Of Published name.Blacklist = Unit {0}
Of Published name.Rate = Unit {0}
Of Published name.Unknown = Unit {0}

either-of : (v : Version) (b : Bool) (p q : Parameter) → Of v p → Of v q → Of v (cond b p q)
either-of v true p q g h = g
either-of v false p q g h = h

later_of : (v : Version) (n : ℕ) → Of v (later_parameter v n)
unfolding later_parameter
later_of Draft n = either-of Draft (eqb n 5) _ _ tt (either-of Draft (eqb n 6) _ _ tt tt)
later_of Published n = either-of Published (eqb n 6) _ _ tt (either-of Published (eqb n 7) _ _ tt tt)

known_of : (v : Version) (n : ℕ) → Of v (parameter_of v n)
unfolding parameter_of
known_of Draft n =
    either-of Draft (eqb n 2) _ _ tt (either-of Draft (eqb n 3) _ _ tt (either-of Draft (eqb n 4) _ _ tt (later_of Draft n)))
known_of Published n =
    either-of Published (eqb n 2) _ _ tt
    (either-of Published (eqb n 3) _ _ tt (either-of Published (eqb n 4) _ _ tt (later_of Published n)))

-- a label that is known in the published form may be reported
known-reportable : (v : Version) (c : Configuration) (n : ℕ) → label_status_for c (parameter_of v n) ≡ First
    → by_version v true (is_reportable n) ≡ true
unfolding parameter_of later_parameter
known-reportable Draft c n e = refl
known-reportable Published c n e = go (eqb n 2) (eqb n 3) (eqb n 4) (eqb n 6) (eqb n 7) e
  where
    go : (a b d f g : Bool)
        → label_status_for c
        (cond a name.Keys (cond b name.Address (cond d name.Jrc (cond f name.Blacklist (cond g name.Rate name.Unknown))))) ≡ First
        → (a || b || d || f || g) ≡ true
    go true b d f g e = refl
    go false true d f g e = refl
    go false false true f g e = refl
    go false false false true g e = refl
    go false false false false true e = refl
    go false false false false false e = absurd (let z : ◌≡◌ {A = ℕ} 0 1 = cc in omega arith)

-- ---- a configuration whose parameters are fine, and what its form asks besides
abbrev FormFine : Version → Configuration → Type 0
FormFine Draft c =
    (keys_without_additional_info c.keys ≡ true) × (missing c.blacklist.disposition ≡ true) × (missing c.rate.disposition ≡ true)
FormFine Published c =
    (missing c.network.disposition ≡ true) × (missing c.prefix.disposition ≡ true) × (list_in_range strings_in c.blacklist ≡ true)

-- nothing came in the draft; what came may be reported
abbrev CameFine : Version → ErrorReports → Type 0
CameFine Draft f = f ≡ no_error_reports
CameFine Published f = Listed f

record Fine (v : Version) (c : Configuration) : Type 0 where
  keys : keys_in_range c.keys ≡ true
  address : address_in_range c.address ≡ true
  jrc : jrc_in_range c.jrc ≡ true
  network : octets_in_range c.network ≡ true
  prefix : octets_in_range c.prefix ≡ true
  form : FormFine v c
  met : CameFine v c.labels

abbrev KeysFine : Version → KeysParameter → Type 0
KeysFine Draft p = (keys_in_range p ≡ true) × (keys_without_additional_info p ≡ true)
KeysFine Published p = (keys_in_range p ≡ true) × Unit {0}

module _ (K : KeyLaws) where
  keys-fine : (v : Version) (x : View)
      → Gives (KeysFine v) (by_version_of v (no_keys_parameter Discarded) (keys_read_as (allows_additional_info v) x))
  unfolding FineSet
  keys-fine Draft x =
      reads-well (FineSet K false) (KeysFine Draft) (keys_parameter Taken) (refused refusal.Keys) (keys_judged_as false x)
      (keys-good K false x) tt
      (λ s e. (e.0, e.1 refl))
  keys-fine Published x =
      follows-well (KeysFine Published) Published (no_keys_parameter Discarded) (keys_read_as true x) (refl, tt)
      (reads-well (FineSet K true) (KeysFine Published) (keys_parameter Taken) (refused refusal.Keys) (keys_judged_as true x)
      (keys-good K true x) tt
      (λ s e. (e.0, tt)))

address-fine :
    (v : Version) (x : View) →
    Gives (λ (p : AddressParameter). address_in_range p ≡ true) (by_version_of v (no_address_parameter Discarded) (address_read x))
address-fine v x =
    let R : AddressParameter → Type 0 = λ p. address_in_range p ≡ true in
    let none = no_address_parameter Discarded in
    follows-well R v none (address_read x) refl
    (reads-well (λ (a : ShortAddress). is_address a.bytes ≡ true) R (address_parameter Taken) (read none) (address_judged x)
    (address-good x) refl
    (λ a e. e))

octets-fine : (x : View) → Gives (λ (p : OctetsParameter). octets_in_range p ≡ true) (octets_read 0 x)
unfolding sized
octets-fine x =
    reads-well (sized 0) (λ (p : OctetsParameter). octets_in_range p ≡ true) (octets_parameter Taken) (read (no_octets_parameter Discarded))
    (octets_judged 0 x) (octets-good 0 x) refl (λ o e. le-leb _ _ e.1)

jrc-fine :
    (v : Version) (x : View) →
    Gives (λ (p : OctetsParameter). jrc_in_range p ≡ true) (by_version_of v (no_octets_parameter Discarded) (octets_read 16 x))
unfolding sized
jrc-fine v x =
    let R : OctetsParameter → Type 0 = λ p. jrc_in_range p ≡ true in
    let none = no_octets_parameter Discarded in
    follows-well R v none (octets_read 16 x) refl
    (reads-well (sized 16) R (octets_parameter Taken) (read none) (octets_judged 16 x) (octets-good 16 x) refl
    (λ o e. eq-eqb o.len 16 (omega (arith, e.0, e.1))))

-- ---- one parameter put in its place
keys-put : (v : Version) (c : Configuration) → Fine v c → (p : KeysParameter) → KeysFine v p → Fine v (with_keys c p)
keys-put Draft c h p e = record {
  keys = e.0;
  address = h.address;
  jrc = h.jrc;
  network = h.network;
  prefix = h.prefix;
  form = (e.1, h.form.1, h.form.2);
  met = h.met;
}
keys-put Published c h p e =
    record { keys = e.0; address = h.address; jrc = h.jrc; network = h.network; prefix = h.prefix; form = h.form; met = h.met }

address-put : (v : Version) (c : Configuration) → Fine v c → (p : AddressParameter) → address_in_range p ≡ true → Fine v (with_address c p)
address-put Draft c h p e =
    record { keys = h.keys; address = e; jrc = h.jrc; network = h.network; prefix = h.prefix; form = h.form; met = h.met }
address-put Published c h p e =
    record { keys = h.keys; address = e; jrc = h.jrc; network = h.network; prefix = h.prefix; form = h.form; met = h.met }

jrc-put : (v : Version) (c : Configuration) → Fine v c → (p : OctetsParameter) → jrc_in_range p ≡ true → Fine v (with_jrc c p)
jrc-put Draft c h p e =
    record { keys = h.keys; address = h.address; jrc = e; network = h.network; prefix = h.prefix; form = h.form; met = h.met }
jrc-put Published c h p e =
    record { keys = h.keys; address = h.address; jrc = e; network = h.network; prefix = h.prefix; form = h.form; met = h.met }

-- the notes of what came: the label of a known parameter may be reported
noting-fine : (v : Version) (c : Configuration) (n : ℕ) → by_version v true (is_reportable n) ≡ true → Fine v c → Fine v (noted v n c)
noting-fine Draft c n e h =
    record { keys = h.keys; address = h.address; jrc = h.jrc; network = h.network; prefix = h.prefix; form = h.form; met = h.met }
noting-fine Published c n e h = record {
  keys = h.keys;
  address = h.address;
  jrc = h.jrc;
  network = h.network;
  prefix = h.prefix;
  form = h.form;
  met = added-listed c.labels 1 n h.met e;
}

passing-fine : (v : Version) (c : Configuration) (m : ℕ) → Fine v c → Fine v (with_unknown_count c m)
passing-fine Draft c m h =
    record { keys = h.keys; address = h.address; jrc = h.jrc; network = h.network; prefix = h.prefix; form = h.form; met = h.met }
passing-fine Published c m h =
    record { keys = h.keys; address = h.address; jrc = h.jrc; network = h.network; prefix = h.prefix; form = h.form; met = h.met }

module _ (laws : ItemLaws) (K : KeyLaws) where
  parameter-fine : (p : Parameter) (v : Version) (c : Configuration) → Fine v c → Of v p → (x : View) → Gives (Fine v) (taking_for v c p x)
  parameter-fine name.Keys v c h o x = puts-well (KeysFine v) (Fine v) (with_keys c)
      (by_version_of v (no_keys_parameter Discarded) (keys_read_as (allows_additional_info v) x)) (keys-fine K v x) (keys-put v c h)
  parameter-fine name.Address v c h o x =
      puts-well (λ (p : AddressParameter). address_in_range p ≡ true) (Fine v) (with_address c)
      (by_version_of v (no_address_parameter Discarded) (address_read x)) (address-fine v x) (address-put v c h)
  parameter-fine name.Jrc v c h o x =
      puts-well (λ (p : OctetsParameter). jrc_in_range p ≡ true) (Fine v) (with_jrc c)
      (by_version_of v (no_octets_parameter Discarded) (octets_read 16 x)) (jrc-fine v x) (jrc-put v c h)
  parameter-fine name.Network Draft c h o x =
      puts-well (λ (p : OctetsParameter). octets_in_range p ≡ true) (Fine Draft) (with_network c) (octets_read 0 x) (octets-fine x)
      (λ p e. record { keys = h.keys; address = h.address; jrc = h.jrc; network = e; prefix = h.prefix; form = h.form; met = h.met })
  parameter-fine name.Network Published c h o x = absurd o
  parameter-fine name.Prefix Draft c h o x =
      puts-well (λ (p : OctetsParameter). octets_in_range p ≡ true) (Fine Draft) (with_prefix c) (octets_read 0 x) (octets-fine x)
      (λ p e. record { keys = h.keys; address = h.address; jrc = h.jrc; network = h.network; prefix = e; form = h.form; met = h.met })
  parameter-fine name.Prefix Published c h o x = absurd o
  parameter-fine name.Blacklist Draft c h o x = absurd o
  parameter-fine name.Blacklist Published c h o x = record {
    keys = h.keys;
    address = h.address;
    jrc = h.jrc;
    network = h.network;
    prefix = h.prefix;
    form = (h.form.0, h.form.1, blacklist-good laws x);
    met = h.met;
  }
  parameter-fine name.Rate Draft c h o x = absurd o
  parameter-fine name.Rate Published c h o x = record {
    keys = h.keys;
    address = h.address;
    jrc = h.jrc;
    network = h.network;
    prefix = h.prefix;
    form = h.form;
    met = h.met;
  }
  parameter-fine name.Unknown v c h o x = h

  taking-fine :
      (v : Version) (c : Configuration) → Fine v c → (n : ℕ) → label_status_for c (parameter_of v n) ≡ First → (x : View) →
      Gives (Fine v) (configuration_taking v c n x)
  unfolding configuration_taking
  taking-fine v c h n e x =
      puts-well (Fine v) (Fine v) (noted v n) (taking_for v c (parameter_of v n) x)
      (parameter-fine (parameter_of v n) v c h (known_of v n) x)
      (λ d g. noting-fine v d n (known-reportable v c n e) g)

-- ---- the whole payload
empty-fine : (v : Version) → Fine v empty_configuration
empty-fine Draft = record { keys = refl; address = refl; jrc = refl; network = refl; prefix = refl; form = (refl, refl, refl); met = refl }
empty-fine Published =
    record { keys = refl; address = refl; jrc = refl; network = refl; prefix = refl; form = (refl, refl, refl); met = none-listed }

in-range : (v : Version) (c : Configuration) → Fine v c → InRange v c
unfolding of_version error_reports_valid
in-range Draft c h = record {
  keys = h.keys;
  address = h.address;
  jrc = h.jrc;
  network = h.network;
  prefix = h.prefix;
  form = rw (h.form.0, h.form.1, h.form.2);
  met = rw h.met;
}
in-range Published c h = record {
  keys = h.keys;
  address = h.address;
  jrc = h.jrc;
  network = h.network;
  prefix = h.prefix;
  form = rw (h.form.0, h.form.1, h.form.2);
  met = listed-valid c.labels h.met;
}

pub reads-in-range : ItemLaws → KeyLaws → ReadsInRange
reads-in-range laws K v p e =
    go (payload_read (configuration_form v) empty_configuration p)
    (payload-gives (configuration_form v) (Fine v) (λ c h. passing-fine v c (c.unknown + 1) h) (taking-fine laws K v) heading
    empty_configuration
    (empty-fine v) p) e
  where
    go : (r : Reading Configuration) → Gives (Fine v) r → (configuration_answer r).verdict ≡ Ok tt
        → InRange v (configuration_answer r).configuration
    go (refused k) h q = refused-not k q
    go (read c) h q = in-range v c h
