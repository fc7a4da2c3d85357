-- A configuration that is read of bytes fits its image: each known label takes a parameter that fits.
use Prim.Native.Nat.{ℕ, suc, ◌<◌}
use mathlib.Core.Path.{refl}
use mathlib.Core.Bool.{Bool}
use mathlib.Core.List.{List}
use native.Mathlib.Omega.{arith}
use borrow.Author.Tests.{eqb-true}
use lib.Dec.{eqb}
use Rattle.image.specs.Part.{AllBytes}
use Rattle.link_key.specs.set.KeyLaws.{KeyLaws}
use Rattle.cbor.specs.Strict.{head_by}
use Rattle.cbor.specs.View.{View}
use Rattle.cojp.specs.Configuration.{empty_configuration, with_keys, with_address, with_jrc, with_network, with_prefix}
use Rattle.cojp.specs.Configuration.{label_status_for, configuration_passing, taking_for, noted, configuration_taking}
use Rattle.cojp.specs.Configuration.{configuration_form, configuration_answer, read_configuration_by}
use Rattle.cojp.specs.ErrorReports.{added}
use Rattle.cojp.specs.KeySet.{no_keys_parameter, keys_read_as}
use Rattle.cojp.specs.Address.{no_address_parameter, address_read}
use Rattle.cojp.specs.Octets.{no_octets_parameter, octets_read}
use Rattle.cojp.specs.Parameter.{later_parameter, parameter_of}
use Rattle.cojp.specs.Reading.{Reading, refused, read, by_version_of}
use Rattle.protocol_version.specs.Version.{by_version, allows_additional_info}
use Rattle.cojp.specs.Walk.{known_read, payload_read_by}
use Rattle.cojp.specs.declared.configuration.Configuration.{Configuration}
use Rattle.cojp.specs.declared.parameter.Parameter.{Parameter}
use Rattle.cojp.specs.declared.parameter.Parameter.TheVariants as name
use Rattle.cojp.specs.declared.disposition.Disposition.TheVariants.{Absent, Discarded}
use Rattle.protocol_version.specs.declared.Version.{Version}
use Rattle.protocol_version.specs.declared.Version.TheVariants.{Draft, Published}
use Rattle.cojp.specs.declared.walk.LabelStatus.{LabelStatus}
use Rattle.cojp.specs.declared.walk.LabelStatus.TheVariants.{Unknown, First, Repeated}
use Rattle.object_image.specs.Address.{address_parameter_part}
use Rattle.object_image.specs.Configuration.{keys_parameter_part, configuration_image}
use Rattle.object_image.specs.ErrorReports.{error_reports_part}
use Rattle.object_image.specs.Octets.{octets_parameter_part}
use Rattle.node_call_laws.proofs.Items.{Always, ViewOk}
use Rattle.node_call_laws.proofs.Lists.{by_cond}
use Rattle.node_call_laws.proofs.Parameters.{ReadOk, keys-read, address_read_lem, octets-read, rate-taken}
use Rattle.node_call_laws.proofs.Parameters.{blacklist-taken, no-octets-fit, no-address-fits, no-list-fits}
use Rattle.node_call_laws.proofs.Values.{report-fits, no-keys-fit, no-faults-fit, added-fits}
use Rattle.node_call_laws.proofs.Walks.{put-ok, following-ok, Fitting, payload-read}

abbrev ConfigurationFits : Configuration → Type 0
ConfigurationFits c = configuration_image.Fit c

abbrev Reads : ℕ → Configuration → Type 0
Reads m c = Fitting ConfigurationFits (λ (d : Configuration). d.unknown) m c

-- a label that names a parameter is a byte
abbrev Known : Parameter → Type 0
Known name.Keys = Always
Known name.Address = Always
Known name.Jrc = Always
Known name.Network = Always
Known name.Prefix = Always
Known name.Blacklist = Always
Known name.Rate = Always
Known name.Unknown = ⊥

later-small : (v : Version) (n : ℕ) → Known (later_parameter v n) → n < 256
unfolding later_parameter
later-small Draft n =
    let P : Parameter → Type 0 = λ q. Known q → n < 256 in
    by_cond P (eqb n 5) (λ e _. omega (arith, eqb-true n 5 e))
    (λ _. by_cond P (eqb n 6) (λ e _. omega (arith, eqb-true n 6 e)) (λ _ h. absurd h))
later-small Published n =
    let P : Parameter → Type 0 = λ q. Known q → n < 256 in
    by_cond P (eqb n 6) (λ e _. omega (arith, eqb-true n 6 e))
    (λ _. by_cond P (eqb n 7) (λ e _. omega (arith, eqb-true n 7 e)) (λ _ h. absurd h))

small-label : (v : Version) (n : ℕ) → Known (parameter_of v n) → n < 256
unfolding parameter_of
small-label v n =
    let P : Parameter → Type 0 = λ q. Known q → n < 256 in
    by_cond P (eqb n 2) (λ e _. omega (arith, eqb-true n 2 e))
    (λ _. by_cond P (eqb n 3) (λ e _. omega (arith, eqb-true n 3 e))
    (λ _. by_cond P (eqb n 4) (λ e _. omega (arith, eqb-true n 4 e)) (λ _. later-small v n)))

module _ (laws : KeyLaws) (v : Version) where
  module _ (c : Configuration) (m : ℕ) (f : Reads m c) where
    taking-for : (q : Parameter) (x : View) → ViewOk x → ReadOk (Reads m) (taking_for v c q x)
    taking-for name.Keys x h =
        put-ok keys_parameter_part.Fit (Reads m) (with_keys c)
        (by_version_of v (no_keys_parameter Discarded) (keys_read_as (allows_additional_info v) x))
        (following-ok keys_parameter_part.Fit v (no_keys_parameter Discarded) (keys_read_as (allows_additional_info v) x)
        (report-fits Discarded, no-keys-fit)
        (keys-read laws (allows_additional_info v) x h))
        (λ p g. (((g, f.0.0.1), f.0.1), f.1))
    taking-for name.Address x h =
        put-ok address_parameter_part.Fit (Reads m) (with_address c) (by_version_of v (no_address_parameter Discarded) (address_read x))
        (following-ok address_parameter_part.Fit v (no_address_parameter Discarded) (address_read x) (no-address-fits Discarded)
        (address_read_lem x h))
        (λ p g. (((f.0.0.0, (g, f.0.0.1.1)), f.0.1), f.1))
    taking-for name.Jrc x h =
        put-ok octets_parameter_part.Fit (Reads m) (with_jrc c) (by_version_of v (no_octets_parameter Discarded) (octets_read 16 x))
        (following-ok octets_parameter_part.Fit v (no_octets_parameter Discarded) (octets_read 16 x) (no-octets-fit Discarded)
        (octets-read 16 x h))
        (λ p g. (((f.0.0.0, (f.0.0.1.0, (g, f.0.0.1.1.1))), f.0.1), f.1))
    taking-for name.Network x h =
        put-ok octets_parameter_part.Fit (Reads m) (with_network c) (octets_read 0 x) (octets-read 0 x h)
        (λ p g. (((f.0.0.0, (f.0.0.1.0, (f.0.0.1.1.0, (g, f.0.0.1.1.1.1)))), f.0.1), f.1))
    taking-for name.Prefix x h =
        put-ok octets_parameter_part.Fit (Reads m) (with_prefix c) (octets_read 0 x) (octets-read 0 x h)
        (λ p g. (((f.0.0.0, (f.0.0.1.0, (f.0.0.1.1.0, (f.0.0.1.1.1.0, g)))), f.0.1), f.1))
    taking-for name.Blacklist x h = ((f.0.0, (blacklist-taken x h, f.0.1.1)), f.1)
    taking-for name.Rate x h = ((f.0.0, (f.0.1.0, (rate-taken x h, f.0.1.1.1))), f.1)
    taking-for name.Unknown x h = f

  noted-fits : (n m : ℕ) → n < 256 → (c : Configuration) → Reads m c → Reads m (noted v n c)
  noted-fits n m l c f = ((f.0.0, (f.0.1.0, (f.0.1.1.0, (met v, f.0.1.1.1.1)))), f.1)
    where
      met : (w : Version) → error_reports_part.Fit (by_version w c.labels (added c.labels 1 n))
      met Draft = f.0.1.1.1.0
      met Published = added-fits c.labels 1 n (omega arith) l f.0.1.1.1.0

  taken : (c : Configuration) (n m : ℕ) (x : View) → n < 256 → ViewOk x → Reads m c → ReadOk (Reads m) (configuration_taking v c n x)
  unfolding configuration_taking
  taken c n m x l h f =
      put-ok (Reads m) (Reads m) (noted v n) (taking_for v c (parameter_of v n) x) (taking-for c m f (parameter_of v n) x h)
      (λ d g. noted-fits n m l d g)

  passed_over : (c : Configuration) (m : ℕ) → Reads (suc m) c → Reads m (configuration_passing c)
  passed_over c m f = ((f.0.0, (f.0.1.0, (f.0.1.1.0, (f.0.1.1.1.0, omega (arith, f.1))))), omega (arith, f.1))

  one_less : (c : Configuration) (m : ℕ) → Reads (suc m) c → Reads m c
  one_less c m f = (f.0, omega (arith, f.1))

  module _ (c : Configuration) (n m : ℕ) (x : View) (h : ViewOk x) (f : Reads (suc m) c) where
    by-standing : (s : LabelStatus) → n < 256 → ReadOk (Reads m) (known_read (configuration_form v) s c n x)
    by-standing Unknown l = passed_over c m f
    by-standing First l = taken c n m x l h (one_less c m f)
    by-standing Repeated l = refl

    by_name : (q : Parameter) → (Known q → n < 256) → ReadOk (Reads m) (known_read (configuration_form v) (label_status_for c q) c n x)
    by_name name.Keys l = by-standing (label_status_for c name.Keys) (l refl)
    by_name name.Address l = by-standing (label_status_for c name.Address) (l refl)
    by_name name.Jrc l = by-standing (label_status_for c name.Jrc) (l refl)
    by_name name.Network l = by-standing (label_status_for c name.Network) (l refl)
    by_name name.Prefix l = by-standing (label_status_for c name.Prefix) (l refl)
    by_name name.Blacklist l = by-standing (label_status_for c name.Blacklist) (l refl)
    by_name name.Rate l = by-standing (label_status_for c name.Rate) (l refl)
    by_name name.Unknown l = passed_over c m f

  known : (c : Configuration) (n m : ℕ) (x : View) → ViewOk x → Reads (suc m) c
      → ReadOk (Reads m) (known_read (configuration_form v) (label_status_for c (parameter_of v n)) c n x)
  known c n m x h f = by_name c n m x h f (parameter_of v n) (small-label v n)

  empty-fits : ConfigurationFits empty_configuration
  empty-fits = (
    ((report-fits Absent, no-keys-fit), (no-address-fits Absent, (no-octets-fit Absent, (no-octets-fit Absent, no-octets-fit Absent)))),
    (no-list-fits Absent, ((report-fits Absent, omega arith), (no-faults-fit, omega arith))),
  )

  answer_ok : (r : Reading Configuration) → ReadOk ConfigurationFits r → ConfigurationFits (configuration_answer r).configuration
  answer_ok (refused k) h = empty-fits
  answer_ok (read c) h = h

  pub configuration-fits : (strict : Bool) (p : List ℕ) → AllBytes p
      → ConfigurationFits (read_configuration_by v (head_by strict) p).configuration
  configuration-fits strict p b =
      answer_ok (payload_read_by (configuration_form v) (head_by strict) empty_configuration p)
      (payload-read (configuration_form v) ConfigurationFits (λ (c : Configuration). c.unknown) passed_over known
      empty_configuration (λ m w. (empty-fits, omega (arith, w))) strict p b)
