-- A configuration that is read: each parameter takes no more bytes than its value did.
use Prim.Native.Nat.{ℕ, ◌+◌, ◌≤◌}
use native.Mathlib.Omega.{arith}
use mathlib.Core.Path.{◌≡◌, refl}
use lib.ListN.{length}
use Rattle.cbor.specs.Encode.{encode_pairs}
use Rattle.cbor.specs.HeadLaws.{HeadLaws}
use Rattle.cbor.specs.Laws.{ItemLaws}
use Rattle.cbor.specs.View.{View}
use Rattle.cojp.proofs.Walks.{Gives}
use Rattle.cojp.specs.Address.{no_address_parameter, address_read}
use Rattle.cojp.specs.Configuration.{empty_configuration, with_keys, with_address, with_jrc, with_network, with_prefix}
use Rattle.cojp.specs.Configuration.{with_unknown_count, label_status_for, taking_for, noted, configuration_taking}
use Rattle.cojp.specs.KeySet.{no_keys_parameter, keys_read_as}
use Rattle.cojp.specs.Lists.{strings_in}
use Rattle.cojp.specs.Octets.{no_octets_parameter, octets_read}
use Rattle.cojp.specs.Parameter.{parameter_of}
use Rattle.cojp.specs.Reading.{by_version_of}
use Rattle.protocol_version.specs.Version.{allows_additional_info}
use Rattle.cojp.specs.Writing.{keys_pairs, address_pairs, octets_pairs, list_pairs, rate_pairs}
use Rattle.cojp.specs.declared.address.AddressParameter.{AddressParameter}
use Rattle.cojp.specs.declared.configuration.Configuration.{Configuration}
use Rattle.cojp.specs.declared.key_set.KeysParameter.{KeysParameter}
use Rattle.cojp.specs.declared.parameter.Parameter.{Parameter}
use Rattle.cojp.specs.declared.parameter.Parameter.TheVariants as name
use Rattle.cojp.specs.declared.disposition.Disposition.TheVariants.{Discarded}
use Rattle.protocol_version.specs.declared.Version.{Version}
use Rattle.cojp.specs.declared.walk.LabelStatus.TheVariants.{First}
use Rattle.cojp_rfc9031_laws.proofs.Items.{view_size, ViewFits}
use Rattle.cojp_rfc9031_laws.proofs.KeptLists.{strings-picked}
use Rattle.cojp_rfc9031_laws.proofs.KeySizes.{keys-size}
use Rattle.cojp_rfc9031_laws.proofs.Parameters.{put-gives, following-gives, OctetsFine, octets-bad}
use Rattle.cojp_rfc9031_laws.proofs.Parameters.{octets-fine, address-size, rate-size, list-fine}

-- ---- what is written of a configuration after the map's head
abbrev pub parts : Configuration → ℕ
parts c =
    length (encode_pairs (keys_pairs c.keys)) + length (encode_pairs (address_pairs c.address))
    + length (encode_pairs (octets_pairs 4 c.jrc))
    + length (encode_pairs (octets_pairs 5 c.network)) + length (encode_pairs (octets_pairs 6 c.prefix))
    + length (encode_pairs (list_pairs 6 strings_in c.blacklist)) + length (encode_pairs (rate_pairs c.rate))

-- m bytes at most
pub record Sized (m : ℕ) (c : Configuration) : Type 0 where
  pub size : parts c ≤ m

pub none-sized : Sized 0 empty_configuration
none-sized = record { size = omega arith }

pub wider : (m n : ℕ) (c : Configuration) → m ≤ n → Sized m c → Sized n c
wider m n c l h = record { size = omega (arith, h.size) }

pub passing : (m : ℕ) (c : Configuration) → Sized m c → Sized m (with_unknown_count c (c.unknown + 1))
passing m c h = record { size = h.size }

module _ (laws : ItemLaws) (H : HeadLaws) (v : Version) (m : ℕ) (c : Configuration) (h : Sized m c) where
  octets-put : (n least : ℕ) → n ≤ 23 → (x : View) →
      Gives (OctetsFine H n x) (by_version_of v (no_octets_parameter Discarded) (octets_read least x))
  octets-put n least l x =
      following-gives (OctetsFine H n x) v (no_octets_parameter Discarded) (octets_read least x) (octets-bad H n x Discarded refl refl)
      (octets-fine H n least l x)

  parameter-sized : (q : Parameter) (x : View) → ViewFits x → Gives (Sized (m + (1 + view_size x))) (taking_for v c q x)
  parameter-sized name.Keys x f =
      let P : KeysParameter → Type 0 = λ p. length (encode_pairs (keys_pairs p)) ≤ 1 + view_size x in
      put-gives P (Sized (m + (1 + view_size x))) (with_keys c)
      (by_version_of v (no_keys_parameter Discarded) (keys_read_as (allows_additional_info v) x))
      (following-gives P v (no_keys_parameter Discarded) (keys_read_as (allows_additional_info v) x) (omega arith)
      (keys-size H (allows_additional_info v) x))
      (λ p s. record { size = omega (arith, h.size, s) })
  parameter-sized name.Address x f =
      let P : AddressParameter → Type 0 = λ p. length (encode_pairs (address_pairs p)) ≤ 1 + view_size x in
      put-gives P (Sized (m + (1 + view_size x))) (with_address c) (by_version_of v (no_address_parameter Discarded) (address_read x))
      (following-gives P v (no_address_parameter Discarded) (address_read x) (omega arith) (address-size H x))
      (λ p s. record { size = omega (arith, h.size, s) })
  parameter-sized name.Jrc x f =
      put-gives (OctetsFine H 4 x) (Sized (m + (1 + view_size x))) (with_jrc c)
      (by_version_of v (no_octets_parameter Discarded) (octets_read 16 x))
      (octets-put 4 16 (omega arith) x) (λ p s. record { size = omega (arith, h.size, s.size) })
  parameter-sized name.Network x f =
      put-gives (OctetsFine H 5 x) (Sized (m + (1 + view_size x))) (with_network c) (octets_read 0 x) (octets-fine H 5 0 (omega arith) x)
      (λ p s. record { size = omega (arith, h.size, s.size) })
  parameter-sized name.Prefix x f =
      put-gives (OctetsFine H 6 x) (Sized (m + (1 + view_size x))) (with_prefix c) (octets_read 0 x) (octets-fine H 6 0 (omega arith) x)
      (λ p s. record { size = omega (arith, h.size, s.size) })
  parameter-sized name.Blacklist x f =
      record { size = omega (arith, h.size, (list-fine laws H strings_in strings-picked 6 (omega arith) x f).size) }
  parameter-sized name.Rate x f = record { size = omega (arith, h.size, rate-size H x) }
  parameter-sized name.Unknown x f = record { size = omega (arith, h.size) }

  pub taking : (n : ℕ) → label_status_for c (parameter_of v n) ≡ First → (x : View) → ViewFits x →
      Gives (Sized (m + (1 + view_size x))) (configuration_taking v c n x)
  unfolding configuration_taking
  taking n e x f =
      put-gives (Sized (m + (1 + view_size x))) (Sized (m + (1 + view_size x))) (noted v n) (taking_for v c (parameter_of v n) x)
      (parameter-sized (parameter_of v n) x f) (λ d s. record { size = s.size })
