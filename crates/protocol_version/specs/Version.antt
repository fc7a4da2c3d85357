-- The two versions of the protocol: document 004's as document 01 fixes it, and RFC 9031's (docs/RFC9031.md).
use Rattle.std.specs.Prelude.{ℕ, Bool, true, false}
use Rattle.protocol_version.specs.declared.Version.{Version}
use Rattle.protocol_version.specs.declared.Version.TheVariants.{Draft, Published}

-- one value in the draft, another in the published version
abbrev pub by_version : {A : Type 0} → Version → A → A → A
by_version Draft a b = a
by_version Published a b = b

-- whether a key may have additional information
abbrev pub allows_additional_info : Version → Bool
allows_additional_info v = by_version v false true

-- the milliseconds of one unit of a lease: seconds in the draft (004 9.3.3), hours in RFC 9031
abbrev pub lease_unit : Version → ℕ
lease_unit v = by_version v 1000 3600000
