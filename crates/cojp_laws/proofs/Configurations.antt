-- What is written of a configuration reads back as the same configuration:
-- its parameters one after the other, those of the other form missing.
use Prim.Native.Nat.{ℕ, ◌≤◌}
use mathlib.Core.Path.{◌≡◌, refl, subst}
use mathlib.Core.Bool.{Bool, not}
use mathlib.Core.List.{List}
use native.Mathlib.Omega.{arith}
use lib.ListN.{length}
use borrow.Author.Tests.{not-false}
use Rattle.refusal.specs.declared.Refusal.TheVariants.{Range}
use Rattle.cbor.specs.Encode.{encode}
use Rattle.cbor.specs.HeadLaws.{HeadLaws}
use Rattle.cbor.specs.Item.{unsigned, bytes, array, map_item}
use Rattle.cbor.specs.Laws.{ItemLaws}
use Rattle.cbor.specs.Strict.{head_by}
use Rattle.cbor.specs.View.{View, view_of}
use Rattle.cbor.specs.declared.value.Label.TheVariants as label
use Rattle.link_key.specs.set.KeyLaws.{KeyLaws}
use Rattle.link_key.specs.set.KeySet.{keys_of}
use Rattle.cojp.specs.Address.{no_address_parameter, address_read}
use Rattle.cojp.specs.Configuration.{empty_configuration, with_keys, with_address, with_jrc, with_network, with_prefix, with_blacklist}
use Rattle.cojp.specs.Configuration.{with_rate}
use Rattle.cojp.specs.Configuration.{noted, configuration_taking, configuration_form, accept_configuration, read_configuration_by}
use Rattle.cojp.specs.ErrorReports.{no_error_reports, added}
use Rattle.cojp.specs.KeySet.{no_keys_parameter, keys_read_as}
use Rattle.cojp.specs.Lists.{strings_in, no_list_parameter, blacklist_taken, items_in}
use Rattle.cojp.specs.Octets.{bytes_in, no_octets_parameter, octets_read}
use Rattle.cojp.specs.Parameter.{parameter_of, later_parameter}
use Rattle.cojp.specs.Rate.{no_rate_parameter, rate_taken}
use Rattle.cojp.specs.Reading.{read, if_taken}
use Rattle.protocol_version.specs.Version.{by_version, allows_additional_info}
use Rattle.cojp.specs.Walk.{pair_read, pairs_read}
use Rattle.cojp.specs.Writing.{join, octets_pairs, address_pairs, groups_items, keys_pairs, list_pairs, rate_pairs, fits}
use Rattle.cojp.specs.Writing.{configuration_pairs, configuration_in_range, configuration_plan}
use Rattle.cojp.specs.declared.address.AddressParameter.{AddressParameter}
use Rattle.cojp.specs.declared.configuration.Configuration.{Configuration}
use Rattle.cojp.specs.declared.configuration.ConfigurationRead.{ConfigurationRead}
use Rattle.cojp.specs.declared.error_report.ErrorReports.{ErrorReports}
use Rattle.cojp.specs.declared.key_set.KeysParameter.{KeysParameter}
use Rattle.cojp.specs.declared.list.ListParameter.{ListParameter}
use Rattle.cojp.specs.declared.octets.OctetsParameter.{OctetsParameter}
use Rattle.cojp.specs.declared.rate.RateParameter.{RateParameter}
use Rattle.cojp.specs.declared.disposition.Disposition.{Disposition}
use Rattle.cojp.specs.declared.disposition.Disposition.TheVariants.{Absent, Discarded}
use Rattle.protocol_version.specs.declared.Version.{Version}
use Rattle.protocol_version.specs.declared.Version.TheVariants.{Draft, Published}
use Rattle.cojp_list.specs.Laws.{ListLaws}
use Rattle.cojp_write.proofs.octets.Limits.{Judged, configuration-fits}
use Rattle.cojp_laws.specs.RoundTrip.{ConfigurationBack, ConfigurationRoundTrip}
use Rattle.cojp_laws.proofs.Forms.{OfForm, of-form, keys-fitting, list-kept, draft-taken, published-taken}
use Rattle.cojp_laws.proofs.ReadBack.{then, parameter-read, payload-read, following-good, kept_if}
use Rattle.cojp_laws.proofs.ReadBack.{octets_good, octets_back, octets-back, jrc-back, octets-same}
use Rattle.cojp_laws.proofs.ReadBack.{address_items, address_good, address_back, address-back, address_same}
use Rattle.cojp_laws.proofs.ReadBack.{keys_good, keys_back, keys-back, keys-same, list_good, list_back}
use Rattle.cojp_laws.proofs.ReadBack.{list_back_lem, list_same, rate_good, rate_back, rate-same}
use Rattle.cojp_laws.proofs.Sizes.{emits, fitted, fine-configuration}
use Rattle.cojp_laws.proofs.Typed.{TypedConfiguration}
use Rattle.cojp_laws.proofs.Unreported.{unreported}

-- ---- one pair, its parameter being good and not seen before
module _ (v : Version) (s : Configuration) (x : View) where
  -- what is read of it
  abbrev Reads : ℕ → Configuration → Type 0
  Reads n c = pair_read (configuration_form v) s (label.Number n) x ≡ read (noted v n c)

  keys_step : (p : KeysParameter) → s.keys.disposition ≡ Absent → keys_read_as (allows_additional_info v) x ≡ read p →
      Reads 2 (with_keys s p)
  unfolding parameter_of configuration_taking
  keys_step p a e = rw (a, following-good v (no_keys_parameter Discarded) p (keys_read_as (allows_additional_info v) x) e)

  address_step : (p : AddressParameter) → s.address.disposition ≡ Absent → address_read x ≡ read p → Reads 3 (with_address s p)
  unfolding parameter_of configuration_taking
  address_step p a e = rw (a, following-good v (no_address_parameter Discarded) p (address_read x) e)

  jrc-step : (p : OctetsParameter) → s.jrc.disposition ≡ Absent → octets_read 16 x ≡ read p → Reads 4 (with_jrc s p)
  unfolding parameter_of configuration_taking
  jrc-step p a e = rw (a, following-good v (no_octets_parameter Discarded) p (octets_read 16 x) e)

  -- the draft's
  network-step : (p : OctetsParameter) → v ≡ Draft → s.network.disposition ≡ Absent → octets_read 0 x ≡ read p → Reads 5 (with_network s p)
  unfolding parameter_of later_parameter configuration_taking
  network-step p d a e = rw (d, a, e)

  prefix-step : (p : OctetsParameter) → v ≡ Draft → s.prefix.disposition ≡ Absent → octets_read 0 x ≡ read p → Reads 6 (with_prefix s p)
  unfolding parameter_of later_parameter configuration_taking
  prefix-step p d a e = rw (d, a, e)

  -- the published form's
  blacklist-step : (p : ListParameter) → v ≡ Published → s.blacklist.disposition ≡ Absent → blacklist_taken x ≡ p
      → Reads 6 (with_blacklist s p)
  unfolding parameter_of later_parameter configuration_taking
  blacklist-step p d a e = rw (d, a, e)

  rate-step : (p : RateParameter) → v ≡ Published → s.rate.disposition ≡ Absent → rate_taken x ≡ p → Reads 7 (with_rate s p)
  unfolding parameter_of later_parameter configuration_taking
  rate-step p d a e = rw (d, a, e)

-- ---- all of them
abbrev configured :
    KeysParameter → AddressParameter → OctetsParameter → OctetsParameter → OctetsParameter → ListParameter → RateParameter → ErrorReports
    → Configuration
configured keys address jrc network prefix blacklist rate met = record {
  keys = keys;
  address = address;
  jrc = jrc;
  network = network;
  prefix = prefix;
  blacklist = blacklist;
  rate = rate;
  labels = met;
  unknown = 0;
}

abbrev read_back : Configuration → ErrorReports → Configuration
read_back c met =
    configured (keys_back c.keys) (address_back c.address) (octets_back c.jrc) (octets_back c.network) (octets_back c.prefix)
    (list_back strings_in c.blacklist) (rate_back c.rate) met

-- a label that came is noted in the published form
abbrev noting : Version → ℕ → ErrorReports → ErrorReports
noting v n met = by_version v met (added met 1 n)

abbrev noted_if : Version → ℕ → Disposition → ErrorReports → ErrorReports
noted_if v n r met = if_taken r (noting v n met) met

module _ (keys : KeyLaws) (lists : ListLaws) (v : Version) (c : Configuration) (f : Judged v c) (o : OfForm v c)
    (l : length c.jrc.value.bytes ≡ 16) where
  configuration-read : (met : ErrorReports)
      × (pairs_read (configuration_form v) empty_configuration (configuration_pairs c) ≡ read (read_back c met))
  unfolding rate_taken
  configuration-read =
      let F = configuration_form v in
      let none = no_octets_parameter Absent in
      let no_address = no_address_parameter Absent in
      let no-list = no_list_parameter Absent in
      let no-rate = no_rate_parameter Absent in
      let k = keys_back c.keys in
      let a = address_back c.address in
      let j = octets_back c.jrc in
      let n = octets_back c.network in
      let p = octets_back c.prefix in
      let b = list_back strings_in c.blacklist in
      let f1 = noted_if v 2 c.keys.disposition no_error_reports in
      let f2 = noted_if v 3 c.address.disposition f1 in
      let f3 = noted_if v 4 c.jrc.disposition f2 in
      let f4 = noted_if v 5 c.network.disposition f3 in
      let f5 = noted_if v 6 c.prefix.disposition f4 in
      let f6 = noted_if v 6 c.blacklist.disposition f5 in
      let f7 = noted_if v 7 c.rate.disposition f6 in
      let s0 = empty_configuration in
      let s1 = configured k no_address none none none no-list no-rate f1 in
      let s2 = configured k a none none none no-list no-rate f2 in
      let s3 = configured k a j none none no-list no-rate f3 in
      let s4 = configured k a j n none no-list no-rate f4 in
      let s5 = configured k a j n p no-list no-rate f5 in
      let s6 = configured k a j n p b no-rate f6 in
      let groups = array (groups_items (keys_of c.keys.value)) in
      let place = array (address_items c.address.value) in
      let jrc = bytes (bytes_in c.jrc.value) in
      let network = bytes (bytes_in c.network.value) in
      let prefix = bytes (bytes_in c.prefix.value) in
      let blacklist = array (items_in strings_in c.blacklist.value) in
      let rate = unsigned c.rate.value in
      let e1 =
      parameter-read F s0 2 c.keys.disposition groups (λ x g. configured x no_address none none none no-list no-rate g)
      (keys_good c.keys)
      (no_keys_parameter Absent) (noting v 2 no_error_reports) no_error_reports refl
      (λ t. keys_step v s0 (view_of groups) (keys_good c.keys) refl
      (keys-back (allows_additional_info v) keys c.keys f.keys (keys-fitting keys v c.keys o.keys t) t)) in
      let e2 =
      parameter-read F s1 3 c.address.disposition place (λ x g. configured k x none none none no-list no-rate g)
      (address_good c.address) no_address
      (noting v 3 f1) f1 refl
      (λ t. address_step v s1 (view_of place) (address_good c.address) refl (address-back c.address f.address t)) in
      let e3 =
      parameter-read F s2 4 c.jrc.disposition jrc (λ x g. configured k a x none none no-list no-rate g) (octets_good c.jrc) none
      (noting v 4 f2) f2 refl
      (λ t. jrc-step v s2 (view_of jrc) (octets_good c.jrc) refl (jrc-back c.jrc f.jrc l t)) in
      let e4 =
      parameter-read F s3 5 c.network.disposition network (λ x g. configured k a j x none no-list no-rate g) (octets_good c.network)
      none (noting v 5 f3) f3 refl
      (λ t. network-step v s3 (view_of network) (octets_good c.network) (draft-taken v c.network.disposition o.network t) refl
      (octets-back c.network f.network t)) in
      let e5 =
      parameter-read F s4 6 c.prefix.disposition prefix (λ x g. configured k a j n x no-list no-rate g) (octets_good c.prefix) none
      (noting v 6 f4) f4 refl
      (λ t. prefix-step v s4 (view_of prefix) (octets_good c.prefix) (draft-taken v c.prefix.disposition o.prefix t) refl
      (octets-back c.prefix f.prefix t)) in
      let e6 =
      parameter-read F s5 6 c.blacklist.disposition blacklist (λ x g. configured k a j n p x no-rate g)
      (list_good strings_in c.blacklist) no-list (noting v 6 f5) f5 refl
      (λ t.
      let (q, h) = list-kept v strings_in c.blacklist o.blacklist t in
      blacklist-step v s5 (view_of blacklist) (list_good strings_in c.blacklist) q refl
      (list_back_lem strings_in lists.blacklist-back c.blacklist (λ u. h) t)) in
      let e7 =
      parameter-read F s6 7 c.rate.disposition rate (λ x g. configured k a j n p b x g) (rate_good c.rate) no-rate
      (noting v 7 f6) f6 refl
      (λ t. rate-step v s6 (view_of rate) (rate_good c.rate) (published-taken v c.rate.disposition o.rate t) refl refl) in
      let ka = join (keys_pairs c.keys) (address_pairs c.address) in
      let kaj = join ka (octets_pairs 4 c.jrc) in
      let kajn = join kaj (octets_pairs 5 c.network) in
      let kajnp = join kajn (octets_pairs 6 c.prefix) in
      let kajnpb = join kajnp (list_pairs 6 strings_in c.blacklist) in
      let d2 = then F (keys_pairs c.keys) (address_pairs c.address) s0 s1 s2 e1 e2 in
      let d3 = then F ka (octets_pairs 4 c.jrc) s0 s2 s3 d2 e3 in
      let d4 = then F kaj (octets_pairs 5 c.network) s0 s3 s4 d3 e4 in
      let d5 = then F kajn (octets_pairs 6 c.prefix) s0 s4 s5 d4 e5 in
      let d6 = then F kajnp (list_pairs 6 strings_in c.blacklist) s0 s5 s6 d5 e6 in
      (f7, then F kajnpb (rate_pairs c.rate) s0 s6 (read_back c f7) d6 e7)

-- ---- the answer is the same configuration
same_back : (lists : ListLaws) (v : Version) (c : Configuration) → OfForm v c → (met : ErrorReports) (r : ConfigurationRead)
    → r ≡ accept_configuration (read_back c met) → ConfigurationBack c r
same_back lists v c o met r e =
    let none = no_octets_parameter Absent in
    let report : OctetsParameter → Disposition = λ o. o.disposition in
    let keys =
    kept_if (λ (k : KeysParameter). k.disposition) (keys_good c.keys) (no_keys_parameter Absent) c.keys.disposition refl refl in
    let address =
    kept_if (λ (a : AddressParameter). a.disposition) (address_good c.address) (no_address_parameter Absent)
    c.address.disposition refl refl in
    let jrc = kept_if report (octets_good c.jrc) none c.jrc.disposition refl refl in
    let list =
    kept_if (λ (l : ListParameter). l.disposition) (list_good strings_in c.blacklist) (no_list_parameter Absent)
    c.blacklist.disposition refl refl in
    let rate =
    kept_if (λ (r : RateParameter). r.disposition) (rate_good c.rate) (no_rate_parameter Absent) c.rate.disposition refl refl in
    rw e (record {
      accepted = refl;
      same = record {
        keys = keys-same c.keys;
        address = address_same c.address;
        jrc = octets-same c.jrc;
        network = octets-same c.network;
        prefix = octets-same c.prefix;
        blacklist =
            list_same strings_in lists.blacklist-back c.blacklist (λ t. (list-kept v strings_in c.blacklist o.blacklist t).1);
        rate = rate-same c.rate;
      };
      keys_kept = keys;
      address_kept = address;
      jrc-kept = jrc;
      network-kept = kept_if report (octets_good c.network) none c.network.disposition refl refl;
      prefix-kept = kept_if report (octets_good c.prefix) none c.prefix.disposition refl refl;
      blacklist-kept = list;
      rate-kept = rate;
      unreported = unreported (read_back c met) keys address jrc list rate;
      passed = refl;
    })

module _ (heads : HeadLaws) (items : ItemLaws) (lists : ListLaws) (keys : KeyLaws) (c : Configuration) (typed : TypedConfiguration c) where
  whole-read : (v : Version) (b : Bool) → Judged v c → length (encode (map_item (configuration_pairs c))) ≤ 256 → (met : ErrorReports)
      → pairs_read (configuration_form v) empty_configuration (configuration_pairs c) ≡ read (read_back c met)
      → read_configuration_by v (head_by b) (encode (map_item (configuration_pairs c))) ≡ accept_configuration (read_back c met)
  whole-read v b within n met all =
      let f = fine-configuration heads items lists keys c typed v within in
      rw (payload-read (configuration_form v) items b (configuration_pairs c) empty_configuration f (omega arith) n, all)

  pub configuration-round-trip : ConfigurationRoundTrip c
  unfolding configuration_plan
  configuration-round-trip v p e b =
      let s = encode (map_item (configuration_pairs c)) in
      let (a, x) = emits (not (configuration_in_range v c)) Range (fits s) p e in
      let (n, y) = fitted s p x in
      let within = configuration-fits v c (not-false (configuration_in_range v c) a) in
      let o = of-form v c within.form in
      let (met, all) = configuration-read keys lists v c within o typed.sixteen in
      let back = same_back lists v c o met (read_configuration_by v (head_by b) s) (whole-read v b within n met all) in
      subst (λ (q : List ℕ). ConfigurationBack c (read_configuration_by v (head_by b) q)) y back
