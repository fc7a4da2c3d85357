-- A parameter whose value was read is no longer absent, be the value good or bad.
use mathlib.Core.Path.{◌≡◌, refl}
use mathlib.Core.Bool.{Bool, true, false}
use Rattle.cbor.specs.View.{View, number, minus, string, other, scalar, list}
use Rattle.link_key.specs.declared.set.key_set.KeySet.{KeySet}
use Rattle.cojp.specs.Address.{no_address_parameter, address_concluded}
use Rattle.cojp.specs.KeySet.{no_keys_parameter, keys_concluded}
use Rattle.cojp.specs.Lists.{list_taken}
use Rattle.cojp.specs.Octets.{no_octets_parameter, octets_parameter}
use Rattle.cojp.specs.Rate.{rate_taken}
use Rattle.cojp.specs.Reading.{read, malformed_as, concluded, Judgement, broken, unfit, good}
use Rattle.cojp.specs.Walk.{label_status_of}
use Rattle.cojp.specs.declared.address.ShortAddress.{ShortAddress}
use Rattle.cojp.specs.declared.list.ListRead.{ListRead}
use Rattle.cojp.specs.declared.octets.Octets.{Octets}
use Rattle.cojp.specs.declared.disposition.Disposition.TheVariants.{Taken, Discarded}
use Rattle.cojp.specs.declared.walk.LabelStatus.TheVariants.{Repeated}

pub keys-met : (j : Judgement KeySet) → label_status_of (malformed_as (no_keys_parameter Discarded) (keys_concluded j)).disposition
    ≡ Repeated
keys-met broken = refl
keys-met unfit = refl
keys-met (good s) = refl

pub address-met : (j : Judgement ShortAddress)
    → label_status_of (malformed_as (no_address_parameter Discarded) (address_concluded j)).disposition ≡ Repeated
address-met broken = refl
address-met unfit = refl
address-met (good a) = refl

pub octets-met : (j : Judgement Octets) →
    label_status_of (malformed_as (no_octets_parameter Discarded)
    (concluded (read (no_octets_parameter Discarded)) (octets_parameter Taken) j)).disposition ≡ Repeated
octets-met broken = refl
octets-met unfit = refl
octets-met (good o) = refl

pub list-met : (r : ListRead) → label_status_of (list_taken r).disposition ≡ Repeated
list-met r = by r.good
  where
    by : (b : Bool) → label_status_of (list_taken (record { good = b; value = r.value })).disposition ≡ Repeated
    by true = refl
    by false = refl

pub rate-met : (v : View) → label_status_of (rate_taken v).disposition ≡ Repeated
unfolding rate_taken
rate-met (scalar (number n)) = refl
rate-met (scalar (minus n)) = refl
rate-met (scalar (string s)) = refl
rate-met (scalar other) = refl
rate-met (list ps) = refl
