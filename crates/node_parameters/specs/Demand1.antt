-- Demand 1 for what a node holds of its configurations: a parameter that is not taken, absent or discarded, leaves what is held.
-- Nothing is refused here: the node was judged before its call came here, and the configuration by its reader.
use Rattle.std.specs.Prelude.{ℕ, ◌≡◌, true, false}
use Rattle.cojp.specs.Reading.{if_taken}
use Rattle.cojp.specs.declared.address.AddressParameter.{AddressParameter}
use Rattle.cojp.specs.declared.list.ListParameter.{ListParameter}
use Rattle.cojp.specs.declared.octets.Octets.{Octets}
use Rattle.cojp.specs.declared.rate.RateParameter.{RateParameter}
use Rattle.cojp.specs.declared.disposition.Disposition.{Disposition}
use Rattle.node_parameters.specs.Blacklist.{list_after}
use Rattle.node_parameters.specs.Lease.{address_after}
use Rattle.node_parameters.specs.Octets.{octets_after}
use Rattle.node_parameters.specs.Rate.{rate_after}
use Rattle.node_parameters.specs.declared.address.HeldAddress.{HeldAddress}
use Rattle.node_parameters.specs.declared.blacklist.HeldList.{HeldList}
use Rattle.node_parameters.specs.declared.octets.HeldOctets.{HeldOctets}
use Rattle.node_parameters.specs.declared.rate.HeldRate.{HeldRate}

pub record ParametersDemand1 : Type 0 where
  pub address_stays :
      (time : ℕ) (p : AddressParameter) (old : HeldAddress) → if_taken p.disposition true false ≡ false → address_after time p old ≡ old
  pub octets-stay : (r : Disposition) (o : Octets) (old : HeldOctets) → if_taken r true false ≡ false → octets_after r o old ≡ old
  pub list-stays : (p : ListParameter) (old : HeldList) → if_taken p.disposition true false ≡ false → list_after p old ≡ old
  pub rate-stays : (p : RateParameter) (old : HeldRate) → if_taken p.disposition true false ≡ false → rate_after p old ≡ old
