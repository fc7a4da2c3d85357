-- FFFE and FFFF are in no configuration that is read, strictly or not, and in none that is written, in either form.
use Rattle.std.specs.Prelude.{◌≡◌, Bool, List, ℕ}
use Rattle.refusal.specs.declared.Refusal.TheVariants.{Range}
use Rattle.short_address.specs.Address.{Reserved}
use Rattle.byte_io.specs.Write.{refuse, emit}
use Rattle.cbor.specs.Strict.{head_by}
use Rattle.cojp.specs.Configuration.{read_configuration_by}
use Rattle.cojp.specs.Writing.{configuration_plan}
use Rattle.cojp.specs.declared.configuration.Configuration.{Configuration}
use Rattle.cojp.specs.declared.disposition.Disposition.TheVariants.{Taken}
use Rattle.protocol_version.specs.declared.Version.{Version}

-- the configuration holds one of the two
pub record HoldsReserved (c : Configuration) : Type 0 where
  pub taken : c.address.disposition ≡ Taken
  pub reserved : Reserved c.address.value.bytes

pub record ObjectAddresses : Type 0 where
  pub none_read : (v : Version) (b : Bool) (p : List ℕ) → HoldsReserved (read_configuration_by v (head_by b) p).configuration → ⊥
  pub none_written : (v : Version) (c : Configuration) (p : List ℕ) → configuration_plan v c ≡ emit p → HoldsReserved c → ⊥
  -- the writer answers RANGE to such a configuration, whatever else it holds
  pub range : (v : Version) (c : Configuration) → HoldsReserved c → configuration_plan v c ≡ refuse Range
