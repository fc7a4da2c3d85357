-- What a call asks for by number: the form (0 document 01's, 1 that of RFC 9031), and the reading (0 ordinary, 1 strict).
use Rattle.std.specs.Prelude.{ℕ, Bool, cond, ◌&&◌, leb, eqb}
use Rattle.protocol_version.specs.declared.Version.{Version}
use Rattle.protocol_version.specs.declared.Version.TheVariants.{Draft, Published}

-- there is no third of either
abbrev pub is_version : ℕ → Bool
is_version form = leb form 1

abbrev pub is_reading : ℕ → ℕ → Bool
is_reading form reading = (is_version form && leb reading 1)

abbrev pub version_of : ℕ → Version
version_of form = cond (eqb form 0) Draft Published

-- one for the ordinary reading, another for the strict one
abbrev pub by_reading : {A : Type 0} → ℕ → A → A → A
by_reading reading ordinary strict = cond (eqb reading 0) ordinary strict
