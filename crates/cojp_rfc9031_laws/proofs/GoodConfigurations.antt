-- Each parameter of a configuration is what its reader makes of the value that came, and its reader judges values as the papers do.
use Prim.Native.Nat.{ℕ, ◌+◌}
use mathlib.Core.Path.{◌≡◌, refl, sym, subst}
use mathlib.Core.Bool.{Bool, true, false}
use mathlib.Core.List.{List, [], ◌∷◌, ◌++◌}
use lib.Dec.{eqb}
use Rattle.cbor.specs.HeadLaws.{HeadLaws}
use Rattle.cbor.specs.Strict.{head_by}
use Rattle.cbor.specs.View.{View}
use Rattle.cojp.specs.Address.{no_address_parameter, address_read}
use Rattle.cojp.specs.Configuration.{empty_configuration, with_unknown_count, configuration_taking, configuration_form}
use Rattle.cojp.specs.KeySet.{no_keys_parameter, keys_read_as}
use Rattle.cojp.specs.Lists.{blacklist_taken}
use Rattle.cojp.specs.Octets.{no_octets_parameter, octets_read}
use Rattle.cojp.specs.Parameter.{parameter_of, later_parameter}
use Rattle.cojp.specs.Rate.{rate_taken}
use Rattle.cojp.specs.Reading.{malformed_as}
use Rattle.cojp.specs.Walk.{payload_read_by}
use Rattle.cojp.specs.declared.address.AddressParameter.{AddressParameter}
use Rattle.cojp.specs.declared.configuration.Configuration.{Configuration}
use Rattle.cojp.specs.declared.key_set.KeysParameter.{KeysParameter}
use Rattle.cojp.specs.declared.list.ListParameter.{ListParameter}
use Rattle.cojp.specs.declared.octets.OctetsParameter.{OctetsParameter}
use Rattle.cojp.specs.declared.rate.RateParameter.{RateParameter}
use Rattle.cojp.specs.declared.disposition.Disposition.TheVariants.{Absent, Discarded}
use Rattle.protocol_version.specs.declared.Version.TheVariants.{Published}
use Rattle.lemmas.specs.logic.Tests.{never}
use Rattle.cojp_rfc9031_laws.specs.Good.{keys_as, KeysJudged, no_address_as, AddressJudged, octets_as}
use Rattle.cojp_rfc9031_laws.specs.Good.{JrcJudged, list_as, BlacklistJudged, rate_as, RateJudged}
use Rattle.cojp_rfc9031_laws.specs.GoodValues.{CameAs, Configured}
use Rattle.cojp_rfc9031_laws.specs.Labels.{configuration_labels, is_in, Known, known_of, labels_of}
use Rattle.cojp_rfc9031_laws.specs.Labels.{known_in, pairs_in, labels_verdict, payload_verdict}
use Rattle.cojp_rfc9031_laws.proofs.CameAs.{took-both, met-others, met-first, Small, told-so}
use Rattle.cojp_rfc9031_laws.proofs.Configurations.{Seen, none_seen, pass-seen, stands, takes}
use Rattle.cojp_rfc9031_laws.proofs.GoodKeys.{keys-judged}
use Rattle.cojp_rfc9031_laws.proofs.GoodLists.{blacklist-judged}
use Rattle.cojp_rfc9031_laws.proofs.GoodPlain.{rate-judged, jrc-judged, address-judged}
use Rattle.cojp_rfc9031_laws.proofs.Labels.{each_label}
use Rattle.cojp_rfc9031_laws.proofs.Walk.{Took, Agrees, payload-agrees}

-- ---- what each reader makes of a value
abbrev KeysOf : View → KeysParameter → Type 0
KeysOf x p = p ≡ malformed_as (no_keys_parameter Discarded) (keys_read_as true x)

abbrev AddressOf : View → AddressParameter → Type 0
AddressOf x p = p ≡ malformed_as (no_address_parameter Discarded) (address_read x)

abbrev JrcOf : View → OctetsParameter → Type 0
JrcOf x p = p ≡ malformed_as (no_octets_parameter Discarded) (octets_read 16 x)

abbrev BlacklistOf : View → ListParameter → Type 0
BlacklistOf x p = p ≡ blacklist_taken x

abbrev RateOf : View → RateParameter → Type 0
RateOf x p = p ≡ rate_taken x

pub record Kept (ks : List Known) (c : Configuration) : Type 0 where
  pub keys : CameAs KeysOf (keys_as Absent []) 2 ks c.keys
  pub address : CameAs AddressOf (no_address_as Absent) 3 ks c.address
  pub jrc : CameAs JrcOf (octets_as Absent []) 4 ks c.jrc
  pub blacklist : CameAs BlacklistOf (list_as Absent 0 []) 6 ks c.blacklist
  pub rate : CameAs RateOf (rate_as Absent 0) 7 ks c.rate
  pub network : c.network ≡ octets_as Absent []
  pub prefix : c.prefix ≡ octets_as Absent []

none_kept : Kept [] empty_configuration
none_kept = record { keys = refl; address = refl; jrc = refl; blacklist = refl; rate = refl; network = refl; prefix = refl }

pass_kept : (ks : List Known) (c : Configuration) → Kept ks c → Kept ks (with_unknown_count c (c.unknown + 1))
pass_kept ks c h = record {
  keys = h.keys;
  address = h.address;
  jrc = h.jrc;
  blacklist = h.blacklist;
  rate = h.rate;
  network = h.network;
  prefix = h.prefix;
}

-- ---- one label more
module _ (ks : List Known) (c : Configuration) (h : Kept ks c) (v : View) where
  keys-stay : (n : ℕ) → eqb 2 n ≡ false → CameAs KeysOf (keys_as Absent []) 2 (ks ++ (known_of n v ∷ [])) c.keys
  keys-stay n e = met-others KeysOf (keys_as Absent []) 2 c.keys ks (known_of n v) e h.keys

  address_stays : (n : ℕ) → eqb 3 n ≡ false → CameAs AddressOf (no_address_as Absent) 3 (ks ++ (known_of n v ∷ [])) c.address
  address_stays n e = met-others AddressOf (no_address_as Absent) 3 c.address ks (known_of n v) e h.address

  jrc-stays : (n : ℕ) → eqb 4 n ≡ false → CameAs JrcOf (octets_as Absent []) 4 (ks ++ (known_of n v ∷ [])) c.jrc
  jrc-stays n e = met-others JrcOf (octets_as Absent []) 4 c.jrc ks (known_of n v) e h.jrc

  blacklist-stays : (n : ℕ) → eqb 6 n ≡ false → CameAs BlacklistOf (list_as Absent 0 []) 6 (ks ++ (known_of n v ∷ [])) c.blacklist
  blacklist-stays n e = met-others BlacklistOf (list_as Absent 0 []) 6 c.blacklist ks (known_of n v) e h.blacklist

  rate-stays : (n : ℕ) → eqb 7 n ≡ false → CameAs RateOf (rate_as Absent 0) 7 (ks ++ (known_of n v ∷ [])) c.rate
  rate-stays n e = met-others RateOf (rate_as Absent 0) 7 c.rate ks (known_of n v) e h.rate

  keeps : (n : ℕ) → is_in n configuration_labels ≡ true → is_in n (labels_of ks) ≡ false →
      Took (Kept (ks ++ (known_of n v ∷ []))) (configuration_taking Published c n v)
  unfolding configuration_taking parameter_of later_parameter
  keeps n =
      each_label
      (λ (m : ℕ). is_in m configuration_labels ≡ true → is_in m (labels_of ks) ≡ false →
      Took (Kept (ks ++ (known_of m v ∷ []))) (configuration_taking Published c m v)) n
      (λ e f. record {
        keys = met-first KeysOf (keys_as Absent []) 2 _ ks v f refl;
        address = address_stays 2 refl;
        jrc = jrc-stays 2 refl;
        blacklist = blacklist-stays 2 refl;
        rate = rate-stays 2 refl;
        network = h.network;
        prefix = h.prefix;
      })
      (λ e f. record {
        keys = keys-stay 3 refl;
        address = met-first AddressOf (no_address_as Absent) 3 _ ks v f refl;
        jrc = jrc-stays 3 refl;
        blacklist = blacklist-stays 3 refl;
        rate = rate-stays 3 refl;
        network = h.network;
        prefix = h.prefix;
      })
      (λ e f. record {
        keys = keys-stay 4 refl;
        address = address_stays 4 refl;
        jrc = met-first JrcOf (octets_as Absent []) 4 _ ks v f refl;
        blacklist = blacklist-stays 4 refl;
        rate = rate-stays 4 refl;
        network = h.network;
        prefix = h.prefix;
      })
      (λ e f. record {
        keys = keys-stay 6 refl;
        address = address_stays 6 refl;
        jrc = jrc-stays 6 refl;
        blacklist = met-first BlacklistOf (list_as Absent 0 []) 6 _ ks v f refl;
        rate = rate-stays 6 refl;
        network = h.network;
        prefix = h.prefix;
      })
      (λ e f. record {
        keys = keys-stay 7 refl;
        address = address_stays 7 refl;
        jrc = jrc-stays 7 refl;
        blacklist = blacklist-stays 7 refl;
        rate = met-first RateOf (rate_as Absent 0) 7 _ ks v f refl;
        network = h.network;
        prefix = h.prefix;
      })
      (λ a b d f g e. never (is_in n configuration_labels) e (rw (a, b, d, f, g)))

-- ---- the whole payload
abbrev pub Both : List Known → Configuration → Type 0
Both ks c = Seen ks c × Kept ks c

pub configuration-kept : (strict : Bool) (p : List ℕ) →
    Agrees (payload_verdict (labels_verdict configuration_labels []) strict p) (Both (known_in configuration_labels (pairs_in strict p)))
    (payload_read_by (configuration_form Published) (head_by strict) empty_configuration p)
configuration-kept =
    payload-agrees (configuration_form Published) configuration_labels Both (λ ks c h. stands ks c h.0)
    (λ ks c h. (pass-seen ks c h.0, pass_kept ks c h.1))
    (λ ks c h n v e f.
    took-both (Seen (ks ++ (known_of n v ∷ []))) (Kept (ks ++ (known_of n v ∷ []))) (configuration_taking Published c n v)
    (takes ks c h.0 v n e f) (keeps ks c h.1 v n e f))
    empty_configuration (none_seen, none_kept)

pub configured : HeadLaws → (ks : List Known) (c : Configuration) → Small ks → Kept ks c → Configured ks c
configured H ks c s h = record {
  keys =
      told-so KeysOf KeysJudged (keys_as Absent []) 2 c.keys
      (λ x l e. subst (KeysJudged x) (sym e) (keys-judged x)) ks s h.keys;
  address =
      told-so AddressOf AddressJudged (no_address_as Absent) 3 c.address
      (λ x l e. subst (AddressJudged x) (sym e) (address-judged x)) ks s h.address;
  jrc =
      told-so JrcOf JrcJudged (octets_as Absent []) 4 c.jrc
      (λ x l e. subst (JrcJudged x) (sym e) (jrc-judged x)) ks s h.jrc;
  blacklist =
      told-so BlacklistOf BlacklistJudged (list_as Absent 0 []) 6 c.blacklist
      (λ x l e. subst (BlacklistJudged x) (sym e) (blacklist-judged H x l)) ks s h.blacklist;
  rate =
      told-so RateOf RateJudged (rate_as Absent 0) 7 c.rate
      (λ x l e. subst (RateJudged x) (sym e) (rate-judged x)) ks s h.rate;
  network = h.network;
  prefix = h.prefix;
}
