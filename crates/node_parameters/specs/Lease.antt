-- A node's short address, when it was received, and whether its lease still lasts.
use Rattle.std.specs.Prelude.{ℕ, ◌-◌, ◌/◌, Bool, true, false, cond, ◌&&◌, leb, ltb}
use Rattle.cojp.specs.Address.{no_address}
use Rattle.short_address.specs.Address.{is_address}
use Rattle.cojp.specs.Reading.{if_taken}
use Rattle.protocol_version.specs.Version.{lease_unit}
use Rattle.cojp.specs.declared.address.AddressParameter.{AddressParameter}
use Rattle.protocol_version.specs.declared.Version.{Version}
use Rattle.node_parameters.specs.declared.address.HeldAddress.{HeldAddress}

abbrev pub absent_address : HeldAddress
absent_address = record { held = false; value = no_address; received = 0 }

-- an address, received not after the clock; the lease may be any number
abbrev pub valid_address : ℕ → HeldAddress → Bool
valid_address clock a = cond a.held (is_address a.value.bytes && leb a.received clock) true

-- whole units elapsed since the receipt are fewer than the lease; without a lease there is no end
abbrev pub lasts : Version → HeldAddress → ℕ → Bool
lasts v a time = cond a.value.leased (ltb ((time - a.received) / lease_unit v) a.value.lease) true

-- without an address none holds
unfoldable pub holds_at : Version → HeldAddress → ℕ → Bool
holds_at v a time = cond a.held (lasts v a time) false

-- after a configuration: the one taken at this time, else the old one
abbrev pub address_after : ℕ → AddressParameter → HeldAddress → HeldAddress
address_after time p old = if_taken p.disposition (record { held = true; value = p.value; received = time }) old
