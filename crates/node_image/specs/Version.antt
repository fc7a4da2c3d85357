-- The form that a node speaks, one byte: 0 draft, 1 published.
use Rattle.std.specs.Prelude.{ℕ, zero, suc}
use Rattle.image.specs.Part.{Part, code}
use Rattle.protocol_version.specs.declared.Version.{Version}
use Rattle.protocol_version.specs.declared.Version.TheVariants.{Draft, Published}

abbrev pub version_number : Version → ℕ
version_number Draft = 0
version_number Published = 1

-- of a number over 1, which no image has, too
abbrev pub version_of : ℕ → Version
version_of zero = Draft
version_of (suc n) = Published

abbrev pub version_part : Part Version
version_part = code version_number version_of 1
