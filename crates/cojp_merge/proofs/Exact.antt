-- A reader puts zeros after the last byte and the last key and no number beside an absent lease, so a value is told by what it means.
use Prim.Native.Nat.{ℕ, ◌-◌, ◌+◌}
use mathlib.Core.Path.{◌≡◌, refl, ap, sym, ◌∙◌}
use mathlib.Core.Bool.{Bool, true, false, cond, ◌&&◌}
use mathlib.Core.List.{List, [], ◌∷◌}
use mathlib.Core.Option.{Option, none, some}
use lib.Dec.{leb, eqb}
use lib.ListN.{length, replicate}
use lib.Seq.{take_at}
use Rattle.cbor.specs.Decode.{heading}
use Rattle.cbor.specs.View.{Scalar, number, minus, string, other, View, scalar, list}
use Rattle.short_address.specs.Address.{is_address}
use Rattle.link_key.specs.Key.{no_key}
use Rattle.link_key.specs.set.KeySet.{keys_of, valid_keys}
use Rattle.link_key.specs.declared.Key.{Key}
use Rattle.cojp.specs.DispositionLemmas.{by-disposition}
use Rattle.cojp.specs.Address.{address_in, address_of, address_concluded, address_read}
use Rattle.cojp.specs.Configuration.{empty_configuration, with_keys, with_address, with_jrc, with_network, with_prefix, with_unknown_count}
use Rattle.cojp.specs.Configuration.{taking_for, noted, configuration_taking, configuration_form, configuration_answer, read_configuration}
use Rattle.cojp.specs.KeySet.{Groups, not_groups, groups_of, groups, keys_in, key_set_of, keys_concluded, keys_read}
use Rattle.cojp.specs.Octets.{bytes_in, octets_of, octets_judged, octets_parameter, no_octets_parameter, octets_read, padded}
use Rattle.cojp.specs.Parameter.{parameter_of, later_parameter}
use Rattle.cojp.specs.Reading.{Reading, refused, read, map_reading, unfit, good, concluded, if_taken}
use Rattle.cojp.specs.Same.{lease_of, SameConfiguration}
use Rattle.cojp.specs.Walk.{payload_read}
use Rattle.cojp.specs.declared.address.AddressParameter.{AddressParameter}
use Rattle.cojp.specs.declared.address.ShortAddress.{ShortAddress}
use Rattle.cojp.specs.declared.configuration.Configuration.{Configuration}
use Rattle.cojp.specs.declared.key_set.KeysParameter.{KeysParameter}
use Rattle.cojp.specs.declared.octets.OctetsParameter.{OctetsParameter}
use Rattle.cojp.specs.declared.parameter.Parameter.{Parameter}
use Rattle.cojp.specs.declared.parameter.Parameter.TheVariants as name
use Rattle.cojp.specs.declared.disposition.Disposition.{Disposition}
use Rattle.cojp.specs.declared.disposition.Disposition.TheVariants.{Absent, Taken, Discarded}
use Rattle.protocol_version.specs.declared.Version.TheVariants.{Draft}
use Rattle.cojp.proofs.Walks.{Gives, payload-gives}
use Rattle.cojp_merge.specs.Laws.{TakesEqual, ReadsExactly}
use Rattle.cojp_merge.specs.Merge.{merged}

-- ---- values that are told by what they mean
leased : List ℕ → Option ℕ → ShortAddress
leased s none = address_of s false 0
leased s (some lease) = address_of s true lease

abbrev SetTold : KeysParameter → Type 0
SetTold p = p.value ≡ key_set_of (keys_of p.value)

abbrev AddressTold : AddressParameter → Type 0
AddressTold p = p.value ≡ leased p.value.bytes (lease_of p.value)

abbrev OctetsTold : OctetsParameter → Type 0
OctetsTold p = p.value ≡ octets_of (bytes_in p.value)

record Told (c : Configuration) : Type 0 where
  keys : SetTold c.keys
  address : AddressTold c.address
  jrc : OctetsTold c.jrc
  network : OctetsTold c.network
  prefix : OctetsTold c.prefix
  blacklist : c.blacklist.disposition ≡ Absent
  rate : c.rate.disposition ≡ Absent

-- ---- what a reader makes of a value
keys-told : (v : View) → Gives SetTold (keys_read v)
keys-told (scalar p) = tt
keys-told (list ps) = by-groups (groups false ps)
  where
    by-limits : (b : Bool) (ks : List Key) → Gives SetTold (keys_concluded (cond b (good (key_set_of ks)) unfit))
    by-limits true ks = ap key_set_of (sym (take_at ks (replicate (8 - length ks) no_key) (length ks) refl))
    by-limits false ks = tt

    by-groups : (g : Groups) → Gives SetTold (keys_concluded (keys_in g))
    by-groups not_groups = tt
    by-groups (groups_of ks) = by-limits (valid_keys ks) ks

address-by : (b : Bool) (s : List ℕ) (l : Bool) (n : ℕ) → address_of s l n ≡ leased s (lease_of (address_of s l n))
    → Gives AddressTold (address_concluded (cond b (good (address_of s l n)) unfit))
unfolding leased
address-by true s l n e = e
address-by false s l n e = refl

address-in : (ps : List Scalar) → Gives AddressTold (address_concluded (address_in ps))
unfolding address_in leased
address-in [] = tt
address-in (number n ∷ r) = tt
address-in (minus n ∷ r) = tt
address-in (other ∷ r) = tt
address-in (string s ∷ []) = address-by (is_address s) s false 0 refl
address-in (string s ∷ number n ∷ []) = address-by (is_address s) s true n refl
address-in (string s ∷ number n ∷ p ∷ r) = tt
address-in (string s ∷ string t ∷ r) = tt
address-in (string s ∷ minus n ∷ r) = tt
address-in (string s ∷ other ∷ r) = tt

address-told : (v : View) → Gives AddressTold (address_read v)
address-told (scalar p) = tt
address-told (list ps) = address-in ps

octets-told : (least : ℕ) (v : View) → Gives OctetsTold (octets_read least v)
unfolding octets_judged padded
octets-told least (scalar (string s)) = by_length (leb least (length s) && leb (length s) 16)
  where
    by_length : (b : Bool)
        → Gives OctetsTold (concluded (read (no_octets_parameter Discarded)) (octets_parameter Taken) (cond b (good (octets_of s)) unfit))
    by_length true = ap octets_of (sym (take_at s (replicate (16 - length s) 0) (length s) refl))
    by_length false = refl
octets-told least (scalar (number n)) = tt
octets-told least (scalar (minus n)) = tt
octets-told least (scalar other) = tt
octets-told least (list ps) = tt

-- ---- a configuration
put-told : {A : Type 0} (P : A → Type 0) (f : A → Configuration) (r : Reading A) → Gives P r → ((a : A) → P a → Told (f a))
    → Gives Told (map_reading f r)
put-told P f (refused k) g h = tt
put-told P f (read a) g h = h a g

-- the parameters of the draft
abbrev Drafts : Parameter → Type 0
Drafts name.Keys = Unit {0}
Drafts name.Address = Unit {0}
Drafts name.Jrc = Unit {0}
Drafts name.Network = Unit {0}
Drafts name.Prefix = Unit {0}
Drafts name.Blacklist = ⊥
Drafts name.Rate = ⊥
Drafts name.Unknown = Unit {0}

drafts : (n : ℕ) → Drafts (parameter_of Draft n)
unfolding parameter_of later_parameter
drafts n = go (eqb n 2) (eqb n 3) (eqb n 4) (eqb n 5) (eqb n 6)
  where
    go : (a b c d e : Bool)
        → Drafts (cond a name.Keys (cond b name.Address (cond c name.Jrc (cond d name.Network (cond e name.Prefix name.Unknown)))))
    go true b c d e = tt
    go false true c d e = tt
    go false false true d e = tt
    go false false false true e = tt
    go false false false false true = tt
    go false false false false false = tt

module _ (c : Configuration) (h : Told c) where
  passing-told : (m : ℕ) → Told (with_unknown_count c m)
  passing-told m = record {
    keys = h.keys;
    address = h.address;
    jrc = h.jrc;
    network = h.network;
    prefix = h.prefix;
    blacklist = h.blacklist;
    rate = h.rate;
  }

  parameter-told : (p : Parameter) → Drafts p → (v : View) → Gives Told (taking_for Draft c p v)
  parameter-told name.Keys d v = put-told SetTold (with_keys c) (keys_read v) (keys-told v) (λ p e. record {
    keys = e;
    address = h.address;
    jrc = h.jrc;
    network = h.network;
    prefix = h.prefix;
    blacklist = h.blacklist;
    rate = h.rate;
  })
  parameter-told name.Address d v = put-told AddressTold (with_address c) (address_read v) (address-told v) (λ p e. record {
    keys = h.keys;
    address = e;
    jrc = h.jrc;
    network = h.network;
    prefix = h.prefix;
    blacklist = h.blacklist;
    rate = h.rate;
  })
  parameter-told name.Jrc d v = put-told OctetsTold (with_jrc c) (octets_read 16 v) (octets-told 16 v) (λ p e. record {
    keys = h.keys;
    address = h.address;
    jrc = e;
    network = h.network;
    prefix = h.prefix;
    blacklist = h.blacklist;
    rate = h.rate;
  })
  parameter-told name.Network d v = put-told OctetsTold (with_network c) (octets_read 0 v) (octets-told 0 v) (λ p e. record {
    keys = h.keys;
    address = h.address;
    jrc = h.jrc;
    network = e;
    prefix = h.prefix;
    blacklist = h.blacklist;
    rate = h.rate;
  })
  parameter-told name.Prefix d v = put-told OctetsTold (with_prefix c) (octets_read 0 v) (octets-told 0 v) (λ p e. record {
    keys = h.keys;
    address = h.address;
    jrc = h.jrc;
    network = h.network;
    prefix = e;
    blacklist = h.blacklist;
    rate = h.rate;
  })
  parameter-told name.Blacklist d v = absurd d
  parameter-told name.Rate d v = absurd d
  parameter-told name.Unknown d v = h

-- what is noted of a label is no parameter
noted-told : (n : ℕ) (c : Configuration) → Told c → Told (noted Draft n c)
noted-told n c h = record {
  keys = h.keys;
  address = h.address;
  jrc = h.jrc;
  network = h.network;
  prefix = h.prefix;
  blacklist = h.blacklist;
  rate = h.rate;
}

taking-told : (c : Configuration) → Told c → (n : ℕ) (v : View) → Gives Told (configuration_taking Draft c n v)
unfolding configuration_taking
taking-told c h n v =
    put-told Told (noted Draft n) (taking_for Draft c (parameter_of Draft n) v)
    (parameter-told c h (parameter_of Draft n) (drafts n) v) (noted-told n)

empty-told : Told empty_configuration
unfolding leased padded
empty-told = record { keys = refl; address = refl; jrc = refl; network = refl; prefix = refl; blacklist = refl; rate = refl }

read_told : (p : List ℕ) → Told (read_configuration p).configuration
read_told p =
    go (payload_read (configuration_form Draft) empty_configuration p)
    (payload-gives (configuration_form Draft) Told (λ c h. passing-told c h (c.unknown + 1)) (λ c h n fresh. taking-told c h n) heading
    empty_configuration empty-told p)
  where
    go : (r : Reading Configuration) → Gives Told r → Told (configuration_answer r).configuration
    go (refused k) h = empty-told
    go (read c) h = h

merged-told : (a b : Configuration) → Told a → Told b → Told (merged a b)
merged-told a b x y = record {
  keys = by-disposition SetTold b.keys.disposition {x = b.keys} {y = a.keys} y.keys x.keys;
  address = by-disposition AddressTold b.address.disposition {x = b.address} {y = a.address} y.address x.address;
  jrc = by-disposition OctetsTold b.jrc.disposition {x = b.jrc} {y = a.jrc} y.jrc x.jrc;
  network = by-disposition OctetsTold b.network.disposition {x = b.network} {y = a.network} y.network x.network;
  prefix = by-disposition OctetsTold b.prefix.disposition {x = b.prefix} {y = a.prefix} y.prefix x.prefix;
  blacklist = refl;
  rate = refl;
}

-- ---- two that mean the same are equal where they are taken
module _ {A B : Type 0} (means : A → B) (back : B → A) where
  over : Option B → Option A
  over none = none
  over (some b) = some (back b)

  seen : (x : A) (r : Disposition) → x ≡ back (means x) → over (if_taken r (some (means x)) none) ≡ if_taken r (some x) none
  unfolding over
  seen x Absent e = refl
  seen x Taken e = ap some (sym e)
  seen x Discarded e = refl

  equal : (x y : A) (r s : Disposition) → x ≡ back (means x) → y ≡ back (means y)
      → if_taken r (some (means x)) none ≡ if_taken s (some (means y)) none
      → if_taken r (some x) none ≡ if_taken s (some y) none
  equal x y r s e f g = sym (seen x r e) ∙ ap over g ∙ seen y s f

abbrev address_means : ShortAddress → List ℕ × Option ℕ
address_means a = (a.bytes, lease_of a)

abbrev address_back : List ℕ × Option ℕ → ShortAddress
address_back m = leased m.0 m.1

octets-equal : (p q : OctetsParameter) → OctetsTold p → OctetsTold q
    → if_taken p.disposition (some (bytes_in p.value)) none ≡ if_taken q.disposition (some (bytes_in q.value)) none
    → if_taken p.disposition (some p.value) none ≡ if_taken q.disposition (some q.value) none
octets-equal p q e f g = equal bytes_in octets_of p.value q.value p.disposition q.disposition e f g

both-absent : {A : Type 0} (x y : A) {r s : Disposition} → r ≡ Absent → s ≡ Absent → if_taken r (some x) none ≡ if_taken s (some y) none
both-absent x y e f = rw (e, f)

exactly : (c d : Configuration) → Told c → Told d → SameConfiguration c d → TakesEqual c d
exactly c d x y same = record {
  keys = equal keys_of key_set_of c.keys.value d.keys.value c.keys.disposition d.keys.disposition x.keys
      y.keys same.keys;
  address =
      equal address_means address_back c.address.value d.address.value c.address.disposition d.address.disposition
      x.address y.address
      same.address;
  jrc = octets-equal c.jrc d.jrc x.jrc y.jrc same.jrc;
  network = octets-equal c.network d.network x.network y.network same.network;
  prefix = octets-equal c.prefix d.prefix x.prefix y.prefix same.prefix;
  blacklist = both-absent c.blacklist.value d.blacklist.value x.blacklist y.blacklist;
  rate = both-absent c.rate.value d.rate.value x.rate y.rate;
}

pub reads-exactly : ReadsExactly
reads-exactly p q w same =
    let first = (read_configuration p).configuration in
    let second = (read_configuration q).configuration in
    exactly (read_configuration w).configuration (merged first second) (read_told w)
    (merged-told first second (read_told p) (read_told q)) same
