-- A configuration: its parameters tell which labels were seen; a value of the draft is refused by its kind or content, one of the published
-- form never.
use Prim.Native.Nat.{ℕ}
use mathlib.Core.Path.{◌≡◌, refl, sym, subst}
use mathlib.Core.Bool.{Bool, true, false, cond}
use mathlib.Core.List.{List, [], ◌∷◌}
use lib.Dec.{eqb}
use borrow.Author.Tests.{eqb-true}
use Rattle.refusal.specs.Order.{in_order}
use Rattle.refusal.specs.Verdict.{verdict_number}
use Rattle.cbor.specs.Item.{Pairs}
use Rattle.cbor.specs.Strict.{head_by}
use Rattle.cbor.specs.View.{number, minus, string, other, View, scalar, list, view_of}
use Rattle.lemmas.specs.logic.Tests.{never}
use Rattle.link_key.specs.declared.set.key_set.KeySet.{KeySet}
use Rattle.cojp.specs.Address.{address_judged, address_concluded}
use Rattle.cojp.specs.Configuration.{empty_configuration, with_keys, with_address, with_jrc, with_network, with_prefix, with_blacklist}
use Rattle.cojp.specs.Configuration.{with_rate}
use Rattle.cojp.specs.Configuration.{label_status_for, configuration_passing, noted}
use Rattle.cojp.specs.Configuration.{configuration_taking, configuration_form, configuration_answer}
use Rattle.cojp.specs.KeySet.{no_keys_parameter, keys_judged_as, keys_concluded}
use Rattle.cojp.specs.Lists.{list_parameter, no_list_parameter, list_taken, list_answer, fitting, in_array, strings_in, blacklist_taken}
use Rattle.cojp.specs.Octets.{octets_judged, no_octets_parameter, octets_parameter}
use Rattle.cojp.specs.Address.{no_address_parameter}
use Rattle.cojp.specs.Parameter.{parameter_of, later_parameter}
use Rattle.cojp.specs.Rate.{rate_taken}
use Rattle.cojp.specs.Reading.{Reading, refused, read, map_reading, Judgement, broken, unfit, good, concluded, by_version_of}
use Rattle.cojp.specs.Walk.{label_status_of, payload_read_by}
use Rattle.cojp.specs.declared.address.AddressParameter.{AddressParameter}
use Rattle.cojp.specs.declared.address.ShortAddress.{ShortAddress}
use Rattle.cojp.specs.declared.configuration.Configuration.{Configuration}
use Rattle.cojp.specs.declared.disposition.Disposition.TheVariants.{Taken, Discarded}
use Rattle.cojp.specs.declared.key_set.KeysParameter.{KeysParameter}
use Rattle.cojp.specs.declared.list.ListParameter.{ListParameter}
use Rattle.cojp.specs.declared.list.ListRead.{ListRead}
use Rattle.cojp.specs.declared.octets.Octets.{Octets}
use Rattle.cojp.specs.declared.octets.OctetsParameter.{OctetsParameter}
use Rattle.cojp.specs.declared.rate.RateParameter.{RateParameter}
use Rattle.cojp.specs.declared.walk.LabelStatus.TheVariants.{Repeated}
use Rattle.protocol_version.specs.Version.{by_version}
use Rattle.protocol_version.specs.declared.Version.{Version}
use Rattle.protocol_version.specs.declared.Version.TheVariants.{Draft, Published}
use Rattle.cojp_laws.specs.ReadingOrder.{is_among, payload_numbers, kind_number, content_number}
use Rattle.cojp_laws.specs.ReadingOrder.{configuration_tests, configuration_number}
use Rattle.cojp_laws.proofs.InOrder.{Numbered, stood, standing, payload-numbered}

-- ---- which labels were seen
record Seen (v : Version) (seen : List ℕ) (c : Configuration) : Type 0 where
  keys : label_status_of c.keys.disposition ≡ stood (is_among 2 seen)
  address : label_status_of c.address.disposition ≡ stood (is_among 3 seen)
  jrc : label_status_of c.jrc.disposition ≡ stood (is_among 4 seen)
  network : label_status_of c.network.disposition ≡ stood (by_version v (is_among 5 seen) false)
  prefix : label_status_of c.prefix.disposition ≡ stood (by_version v (is_among 6 seen) false)
  blacklist : label_status_of c.blacklist.disposition ≡ stood (by_version v false (is_among 6 seen))
  rate : label_status_of c.rate.disposition ≡ stood (by_version v false (is_among 7 seen))

none_seen : (v : Version) → Seen v [] empty_configuration
none_seen Draft =
    record { keys = refl; address = refl; jrc = refl; network = refl; prefix = refl; blacklist = refl; rate = refl }
none_seen Published =
    record { keys = refl; address = refl; jrc = refl; network = refl; prefix = refl; blacklist = refl; rate = refl }

passed-seen : (v : Version) (seen : List ℕ) (c : Configuration) → Seen v seen c → Seen v seen (configuration_passing c)
passed-seen v seen c h = record {
  keys = h.keys;
  address = h.address;
  jrc = h.jrc;
  network = h.network;
  prefix = h.prefix;
  blacklist = h.blacklist;
  rate = h.rate;
}

-- one label more
module _ (v : Version) (seen : List ℕ) (c : Configuration) (h : Seen v seen c) where
  keys-seen : (p : KeysParameter) → label_status_of p.disposition ≡ Repeated → Seen v (2 ∷ seen) (noted v 2 (with_keys c p))
  keys-seen p met = record {
    keys = met;
    address = h.address;
    jrc = h.jrc;
    network = h.network;
    prefix = h.prefix;
    blacklist = h.blacklist;
    rate = h.rate;
  }

  address_seen : (p : AddressParameter) → label_status_of p.disposition ≡ Repeated → Seen v (3 ∷ seen) (noted v 3 (with_address c p))
  address_seen p met = record {
    keys = h.keys;
    address = met;
    jrc = h.jrc;
    network = h.network;
    prefix = h.prefix;
    blacklist = h.blacklist;
    rate = h.rate;
  }

  jrc-seen : (p : OctetsParameter) → label_status_of p.disposition ≡ Repeated → Seen v (4 ∷ seen) (noted v 4 (with_jrc c p))
  jrc-seen p met = record {
    keys = h.keys;
    address = h.address;
    jrc = met;
    network = h.network;
    prefix = h.prefix;
    blacklist = h.blacklist;
    rate = h.rate;
  }

module _ (seen : List ℕ) (c : Configuration) (h : Seen Draft seen c) where
  network-seen : (p : OctetsParameter) → label_status_of p.disposition ≡ Repeated → Seen Draft (5 ∷ seen) (noted Draft 5 (with_network c p))
  network-seen p met = record {
    keys = h.keys;
    address = h.address;
    jrc = h.jrc;
    network = met;
    prefix = h.prefix;
    blacklist = h.blacklist;
    rate = h.rate;
  }

  prefix-seen : (p : OctetsParameter) → label_status_of p.disposition ≡ Repeated → Seen Draft (6 ∷ seen) (noted Draft 6 (with_prefix c p))
  prefix-seen p met = record {
    keys = h.keys;
    address = h.address;
    jrc = h.jrc;
    network = h.network;
    prefix = met;
    blacklist = h.blacklist;
    rate = h.rate;
  }

module _ (seen : List ℕ) (c : Configuration) (h : Seen Published seen c) where
  blacklist-seen : (p : ListParameter) → label_status_of p.disposition ≡ Repeated →
      Seen Published (6 ∷ seen) (noted Published 6 (with_blacklist c p))
  blacklist-seen p met = record {
    keys = h.keys;
    address = h.address;
    jrc = h.jrc;
    network = h.network;
    prefix = h.prefix;
    blacklist = met;
    rate = h.rate;
  }

  rate-seen : (p : RateParameter) → label_status_of p.disposition ≡ Repeated → Seen Published (7 ∷ seen) (noted Published 7 (with_rate c p))
  rate-seen p met = record {
    keys = h.keys;
    address = h.address;
    jrc = h.jrc;
    network = h.network;
    prefix = h.prefix;
    blacklist = h.blacklist;
    rate = met;
  }

-- ---- values: P holds of what is made of every good and every discarded one
module _ (v : Version) (P : Configuration → Type 0) (note : Configuration → Configuration) where
  keys-numbered : (f : KeysParameter → Configuration) → ((p : KeysParameter) → label_status_of p.disposition ≡ Repeated → P (note (f p))) →
      (j : Judgement KeySet) →
      Numbered (in_order (by_version v (kind_number j) 0 ∷ by_version v (content_number 7 j) 0 ∷ [])) P
      (map_reading note (map_reading f (by_version_of v (no_keys_parameter Discarded) (keys_concluded j))))
  keys-numbered f met = by v
    where
      by : (w : Version) (j : Judgement KeySet) →
          Numbered (in_order (by_version w (kind_number j) 0 ∷ by_version w (content_number 7 j) 0 ∷ [])) P
          (map_reading note (map_reading f (by_version_of w (no_keys_parameter Discarded) (keys_concluded j))))
      by Draft broken = refl
      by Draft unfit = refl
      by Draft (good a) = (refl, met _ refl)
      by Published broken = (refl, met _ refl)
      by Published unfit = (refl, met _ refl)
      by Published (good a) = (refl, met _ refl)

  address-numbered : (f : AddressParameter → Configuration) →
      ((p : AddressParameter) → label_status_of p.disposition ≡ Repeated → P (note (f p))) → (j : Judgement ShortAddress) →
      Numbered (in_order (by_version v (kind_number j) 0 ∷ by_version v 0 0 ∷ [])) P
      (map_reading note (map_reading f (by_version_of v (no_address_parameter Discarded) (address_concluded j))))
  address-numbered f met = by v
    where
      by : (w : Version) (j : Judgement ShortAddress) →
          Numbered (in_order (by_version w (kind_number j) 0 ∷ by_version w 0 0 ∷ [])) P
          (map_reading note (map_reading f (by_version_of w (no_address_parameter Discarded) (address_concluded j))))
      by Draft broken = refl
      by Draft unfit = (refl, met _ refl)
      by Draft (good a) = (refl, met _ refl)
      by Published broken = (refl, met _ refl)
      by Published unfit = (refl, met _ refl)
      by Published (good a) = (refl, met _ refl)

  octets-numbered : (f : OctetsParameter → Configuration) →
      ((p : OctetsParameter) → label_status_of p.disposition ≡ Repeated → P (note (f p))) → (j : Judgement Octets) →
      Numbered (in_order (by_version v (kind_number j) 0 ∷ by_version v 0 0 ∷ [])) P
      (map_reading note
      (map_reading f
      (by_version_of v (no_octets_parameter Discarded) (concluded (read (no_octets_parameter Discarded)) (octets_parameter Taken) j))))
  octets-numbered f met = by v
    where
      by : (w : Version) (j : Judgement Octets) →
          Numbered (in_order (by_version w (kind_number j) 0 ∷ by_version w 0 0 ∷ [])) P
          (map_reading note
          (map_reading f
          (by_version_of w (no_octets_parameter Discarded) (concluded (read (no_octets_parameter Discarded)) (octets_parameter Taken) j))))
      by Draft broken = refl
      by Draft unfit = (refl, met _ refl)
      by Draft (good a) = (refl, met _ refl)
      by Published broken = (refl, met _ refl)
      by Published unfit = (refl, met _ refl)
      by Published (good a) = (refl, met _ refl)

list-met : (r : ListRead) → label_status_of (list_taken r).disposition ≡ Repeated
list-met r = by r.good
  where
    by : (b : Bool) → label_status_of (cond b (list_parameter Taken r.value) (no_list_parameter Discarded)).disposition ≡ Repeated
    by true = refl
    by false = refl

rate-met : (x : View) → label_status_of (rate_taken x).disposition ≡ Repeated
unfolding rate_taken
rate-met (scalar (number n)) = refl
rate-met (scalar (minus n)) = refl
rate-met (scalar (string s)) = refl
rate-met (scalar other) = refl
rate-met (list ps) = refl

-- ---- what holds of a label, and of all others, holds of each
at_label : (P : ℕ → Type 0) (n k : ℕ) → P k → (eqb n k ≡ false → P n) → P n
at_label P n k p others = by (eqb n k) refl
  where
    by : (b : Bool) → eqb n k ≡ b → P n
    by true e = subst P (sym (eqb-true n k e)) p
    by false e = others e

-- five labels
each_of : (P : ℕ → Type 0) (n a b c d e : ℕ) → P a → P b → P c → P d → P e →
    (eqb n a ≡ false → eqb n b ≡ false → eqb n c ≡ false → eqb n d ≡ false → eqb n e ≡ false → P n) → P n
each_of P n a b c d e p q r s t others =
    at_label P n a p (λ u. at_label P n b q (λ w. at_label P n c r (λ x. at_label P n d s (λ y. at_label P n e t (λ z. others u w x y z)))))

stands : (v : Version) (seen : List ℕ) (c : Configuration) → Seen v seen c → (n : ℕ) →
    label_status_for c (parameter_of v n) ≡ standing ((configuration_tests v).known n) (is_among n seen)
unfolding parameter_of later_parameter
stands Draft seen c h n =
    each_of (λ (m : ℕ). label_status_for c (parameter_of Draft m) ≡ standing ((configuration_tests Draft).known m) (is_among m seen))
    n 2 3 4 5 6
    h.keys h.address h.jrc h.network h.prefix (λ u w x y z. rw (u, w, x, y, z))
stands Published seen c h n =
    each_of (λ (m : ℕ). label_status_for c (parameter_of Published m)
    ≡ standing ((configuration_tests Published).known m) (is_among m seen))
    n 2 3 4 6 7
    h.keys h.address h.jrc h.blacklist h.rate (λ u w x y z. rw (u, w, x, y, z))

-- a known label's value
abbrev Takes : Version → List ℕ → Configuration → View → ℕ → Type 0
Takes v seen c x n =
    (configuration_tests v).known n ≡ true →
    Numbered (in_order ((configuration_tests v).kind n x ∷ (configuration_tests v).content n x ∷ [])) (Seen v (n ∷ seen))
    (configuration_taking v c n x)

takes : (v : Version) (seen : List ℕ) (c : Configuration) → Seen v seen c → (x : View) (n : ℕ) → Takes v seen c x n
unfolding parameter_of later_parameter configuration_taking
takes Draft seen c h x n =
    each_of (Takes Draft seen c x) n 2 3 4 5 6
    (λ k. keys-numbered Draft (Seen Draft (2 ∷ seen)) (noted Draft 2) (with_keys c) (keys-seen Draft seen c h) (keys_judged_as false x))
    (λ k. address-numbered Draft (Seen Draft (3 ∷ seen)) (noted Draft 3) (with_address c) (address_seen Draft seen c h) (address_judged x))
    (λ k. octets-numbered Draft (Seen Draft (4 ∷ seen)) (noted Draft 4) (with_jrc c) (jrc-seen Draft seen c h) (octets_judged 16 x))
    (λ k. octets-numbered Draft (Seen Draft (5 ∷ seen)) (noted Draft 5) (with_network c) (network-seen seen c h) (octets_judged 0 x))
    (λ k. octets-numbered Draft (Seen Draft (6 ∷ seen)) (noted Draft 6) (with_prefix c) (prefix-seen seen c h) (octets_judged 0 x))
    (λ a b d e f k. never ((configuration_tests Draft).known n) k (rw (a, b, d, e, f)))
takes Published seen c h x n =
    each_of (Takes Published seen c x) n 2 3 4 6 7
    (λ k.
    keys-numbered Published (Seen Published (2 ∷ seen)) (noted Published 2) (with_keys c) (keys-seen Published seen c h)
    (keys_judged_as true x))
    (λ k.
    address-numbered Published (Seen Published (3 ∷ seen)) (noted Published 3) (with_address c) (address_seen Published seen c h)
    (address_judged x))
    (λ k.
    octets-numbered Published (Seen Published (4 ∷ seen)) (noted Published 4) (with_jrc c) (jrc-seen Published seen c h)
    (octets_judged 16 x))
    (λ k. (refl, blacklist-seen seen c h (blacklist_taken x) (list-met (list_answer (fitting 253 (in_array strings_in x))))))
    (λ k. (refl, rate-seen seen c h (rate_taken x) (rate-met x)))
    (λ a b d e f k. never ((configuration_tests Published).known n) k (rw (a, b, d, e, f)))

-- ---- the whole payload
answered : (v : Version) (n : ℕ) (P : Configuration → Type 0) (r : Reading Configuration) → Numbered n P r →
    verdict_number (configuration_answer r).verdict ≡ n
answered v n P (refused k) e = sym e
answered v n P (read c) e = sym e.0

pub configurations-in-order : (v : Version) (strict : Bool) (p : List ℕ) →
    configuration_number v strict p ≡ in_order (payload_numbers (configuration_tests v) strict p)
configurations-in-order v strict p =
    answered v (in_order (payload_numbers (configuration_tests v) strict p)) _
    (payload_read_by (configuration_form v) (head_by strict) empty_configuration p)
    (payload-numbered (configuration_form v) (configuration_tests v) (λ (seen : List ℕ) (ps : Pairs) (c : Configuration). Seen v seen c)
    (λ seen ps c h n. stands v seen c h n) (λ seen k x ps c h e. passed-seen v seen c h)
    (λ seen k x ps c h n q known fresh. takes v seen c h (view_of x) n known)
    empty_configuration strict p (none_seen v))
