-- What the walk notes of a pair's label before it reads the value: what `noted` of Configuration notes after it.
use Rattle.std.specs.Prelude.{ℕ, Bool, true, false, cond}
use Rattle.cojp.specs.ErrorReports.{added}
use Rattle.cojp.specs.Parameter.{parameter_of}
use Rattle.protocol_version.specs.Version.{by_version}
use Rattle.cojp.specs.declared.error_report.ErrorReports.{ErrorReports}
use Rattle.cojp.specs.declared.parameter.Parameter.{Parameter}
use Rattle.cojp.specs.declared.parameter.Parameter.TheVariants as name
use Rattle.protocol_version.specs.declared.Version.{Version}

-- whether a label names a parameter
abbrev pub is_named : Parameter → Bool
is_named name.Keys = true
is_named name.Address = true
is_named name.Jrc = true
is_named name.Network = true
is_named name.Prefix = true
is_named name.Blacklist = true
is_named name.Rate = true
is_named name.Unknown = false

-- the known labels that came, this one among them
abbrev pub labels_seen_with : Version → ℕ → ErrorReports → ErrorReports
labels_seen_with v n f = by_version v f (cond (is_named (parameter_of v n)) (added f 1 n) f)
