-- Configurations: a label's standing and its value, parameter by parameter.
use Rattle.std.specs.Prelude.{Ok, Result, IfOk}
use Prim.Native.Nat.{ℕ}
use mathlib.Core.Path.{◌≡◌, refl, ap, ◌∙◌}
use mathlib.Core.Bool.{true}
use mathlib.Core.List.{List}
use lib.ListN.{drop}
use Rattle.refusal.specs.declared.Refusal.{Refusal}
use Rattle.cbor.specs.View.{View}
use Rattle.cojp.specs.Address.{no_address_parameter, address_read}
use Rattle.cojp.specs.Bytes.{value_view, after_value, EndsAt}
use Rattle.cojp.specs.Configuration.{configuration_form, configuration_passing, label_status_for, taking_for, configuration_taking, noted}
use Rattle.cojp.specs.Configuration.{with_keys, with_address, with_jrc, with_network, with_prefix, with_blacklist, with_rate}
use Rattle.cojp.specs.Configuration.{with_labels_seen}
use Rattle.cojp.specs.KeySet.{no_keys_parameter, keys_read_as}
use Rattle.cojp.specs.Lists.{blacklist_taken}
use Rattle.cojp.specs.Octets.{no_octets_parameter, octets_read}
use Rattle.cojp.specs.Parameter.{parameter_of}
use Rattle.cojp.specs.Rate.{rate_taken}
use Rattle.cojp.specs.Reading.{Reading, refused, read, map_reading, by_version_of}
use Rattle.protocol_version.specs.Version.{allows_additional_info}
use Rattle.cojp.specs.Walk.{label_status_of}
use Rattle.cojp.specs.declared.configuration.Configuration.{Configuration}
use Rattle.cojp.specs.declared.error_report.ErrorReports.{ErrorReports}
use Rattle.cojp.specs.declared.parameter.Parameter.{Parameter}
use Rattle.cojp.specs.declared.parameter.Parameter.TheVariants as name
use Rattle.cojp.specs.declared.disposition.Disposition.{Disposition}
use Rattle.cojp.specs.declared.disposition.Disposition.TheVariants.{Discarded}
use Rattle.protocol_version.specs.declared.Version.{Version}
use Rattle.cojp_map.specs.Pairs.{PairLabelSpec, seen, once}
use Rattle.cojp_map.proofs.Maps.{known-put, standing-seen}
use Rattle.cojp_read.specs.Pair.{reading_in, PairTaken}
use Rattle.cojp_read.proofs.Pairs.{put-reading, taken-known, taken-passed}
use Rattle.cojp_read.specs.configuration.Noted.{is_named, labels_seen_with}
use Rattle.cojp_read.proofs.configuration.Labels.{named_some, met-same}

put-put : {A B C : Type 0} (g : B → C) (f : A → B) (x : Reading A) → map_reading g (map_reading f x) ≡ map_reading (λ a. g (f a)) x
put-put g f (refused k) = refl
put-put g f (read a) = refl

-- ---- one pair, by its label; p is the answer about the label, f the labels that came, this one among them
module _ (v : Version) (c : Configuration) (s l : List ℕ) (p : Result (ℕ × ℕ) Refusal)
    (t : PairLabelSpec s l p) (q : ℕ × ℕ) (h : p ≡ Ok q)
    (f : ErrorReports) (f-is : f ≡ labels_seen_with v q.0 c.labels) where
  abbrev names : Parameter
  names = parameter_of v q.0

  abbrev value : View
  value = value_view (drop q.1 s)

  abbrev Taken : Result ℕ Refusal → Configuration → Type 0
  Taken = PairTaken (configuration_form v) c s l

  -- what a parameter's reader gave is stored: `held` is what became of the parameter before, `x` what its definition reads
  abbrev Given : {P : Type 0} → (Configuration → P → Configuration) → Disposition → Reading P → Type 0
  Given {P} stored held x =
      (r : Result ℕ Refusal) (p₀ : P) → reading_in (λ (n : ℕ). p₀) r ≡ once (seen held) x →
      IfOk r (λ (n : ℕ). EndsAt s n (after_value (drop q.1 s))) → Taken r (with_labels_seen (stored c p₀) f)

  -- what is stored lies apart from the labels that came
  pair-known : {P : Type 0} (stored : Configuration → P → Configuration) (held : Disposition) (x : Reading P)
      → is_named names ≡ true → label_status_for c names ≡ label_status_of held → taking_for v c names value ≡ map_reading (stored c) x
      → ((p : P) → (stored c p).labels ≡ c.labels) → Given stored held x
  unfolding configuration_taking
  pair-known {P} stored held x known standing taking labels-stay r p₀ e ends =
      let form = configuration_form v in
      let n = q.0 in
      let keep : P → Configuration = λ p. noted v n (stored c p) in
      let kept : with_labels_seen (stored c p₀) f ≡ keep p₀ = rw (f-is, labels-stay p₀, known) in
      let says =
      put-reading keep r p₀ (once (seen held) x) e
      ∙ known-put form c n value (seen held) keep x (standing ∙ standing-seen held)
      (ap (map_reading (noted v n)) taking ∙ put-put (noted v n) (stored c) x) in
      rw kept (taken-known form c s l p t q h (named_some v n known) r (keep p₀) says ends)

  pub keys-pair : names ≡ name.Keys
      → Given with_keys c.keys.disposition (by_version_of v (no_keys_parameter Discarded) (keys_read_as (allows_additional_info v) value))
  keys-pair e =
      pair-known with_keys c.keys.disposition
      (by_version_of v (no_keys_parameter Discarded) (keys_read_as (allows_additional_info v) value)) (rw e) (rw e) (rw e) (λ p. refl)

  pub address-pair : names ≡ name.Address
      → Given with_address c.address.disposition (by_version_of v (no_address_parameter Discarded) (address_read value))
  address-pair e =
      pair-known with_address c.address.disposition (by_version_of v (no_address_parameter Discarded) (address_read value))
      (rw e) (rw e) (rw e) (λ p. refl)

  pub jrc-pair : names ≡ name.Jrc
      → Given with_jrc c.jrc.disposition (by_version_of v (no_octets_parameter Discarded) (octets_read 16 value))
  jrc-pair e =
      pair-known with_jrc c.jrc.disposition (by_version_of v (no_octets_parameter Discarded) (octets_read 16 value))
      (rw e) (rw e) (rw e) (λ p. refl)

  pub network-pair : names ≡ name.Network → Given with_network c.network.disposition (octets_read 0 value)
  network-pair e = pair-known with_network c.network.disposition (octets_read 0 value) (rw e) (rw e) (rw e) (λ p. refl)

  pub prefix-pair : names ≡ name.Prefix → Given with_prefix c.prefix.disposition (octets_read 0 value)
  prefix-pair e = pair-known with_prefix c.prefix.disposition (octets_read 0 value) (rw e) (rw e) (rw e) (λ p. refl)

  pub blacklist-pair : names ≡ name.Blacklist → Given with_blacklist c.blacklist.disposition (read (blacklist_taken value))
  blacklist-pair e = pair-known with_blacklist c.blacklist.disposition (read (blacklist_taken value)) (rw e) (rw e) (rw e) (λ p. refl)

  pub rate-pair : names ≡ name.Rate → Given with_rate c.rate.disposition (read (rate_taken value))
  rate-pair e = pair-known with_rate c.rate.disposition (read (rate_taken value)) (rw e) (rw e) (rw e) (λ p. refl)

  pub passed-pair : names ≡ name.Unknown → (end : ℕ) → EndsAt s end (after_value (drop q.1 s))
      → Taken (Ok end) (configuration_passing (with_labels_seen c f))
  passed-pair names-none end e =
      let same : configuration_passing (with_labels_seen c f) ≡ configuration_passing c = rw (f-is, met-same v q.0 c.labels names-none) in
      rw same (taken-passed (configuration_form v) c s l p t q h (rw names-none) end e)
