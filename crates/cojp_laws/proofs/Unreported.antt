-- A report is of a parameter that was discarded, so where none was there are none, whatever labels came.
use mathlib.Core.Path.{◌≡◌, refl}
use mathlib.Core.Bool.{false}
use mathlib.Core.List.{List, [], ◌∷◌}
use Rattle.cojp.specs.Configuration.{empty_configuration}
use Rattle.cojp.specs.ErrorReports.{no_error_reports, error_report_list}
use Rattle.cojp.specs.Parameter.{parameter_of}
use Rattle.cojp.specs.Reported.{is_bad, bad_in, bad_by, reports_on, error_reports_of}
use Rattle.cojp.specs.declared.configuration.Configuration.{Configuration}
use Rattle.cojp.specs.declared.error_report.ErrorReport.{ErrorReport}
use Rattle.cojp.specs.declared.error_report.ErrorReports.{ErrorReports}
use Rattle.cojp.specs.declared.parameter.Parameter.{Parameter}
use Rattle.cojp.specs.declared.parameter.Parameter.TheVariants as name
use Rattle.cojp.specs.declared.disposition.Disposition.{Disposition}
use Rattle.cojp.specs.declared.disposition.Disposition.TheVariants.{Absent, Taken, Discarded}
use Rattle.protocol_version.specs.declared.Version.TheVariants.{Published}
use Rattle.cojp_laws.specs.RoundTrip.{Kept}

not-bad : (r : Disposition) → Kept r → is_bad r ≡ false
not-bad Absent k = refl
not-bad Taken k = refl
not-bad Discarded k = absurd (k refl)

-- of the empty configuration nothing is bad
none_named : (p : Parameter) → bad_by (bad_in empty_configuration) p ≡ false
none_named name.Keys = refl
none_named name.Address = refl
none_named name.Jrc = refl
none_named name.Network = refl
none_named name.Prefix = refl
none_named name.Blacklist = refl
none_named name.Rate = refl
none_named name.Unknown = refl

none-reported : (f : ErrorReports) (xs : List ErrorReport) → reports_on (bad_in empty_configuration) f xs ≡ f
none-reported f [] = refl
none-reported f (x ∷ xs) = rw (none_named (parameter_of Published x.label)) (none-reported f xs)

pub unreported :
    (c : Configuration) → Kept c.keys.disposition → Kept c.address.disposition → Kept c.jrc.disposition →
    Kept c.blacklist.disposition →
    Kept c.rate.disposition → error_reports_of c ≡ no_error_reports
unfolding error_reports_of
unreported c k a j b r =
    rw (
      not-bad c.keys.disposition k,
      not-bad c.address.disposition a,
      not-bad c.jrc.disposition j,
      not-bad c.blacklist.disposition b,
      not-bad c.rate.disposition r,
    ) (none-reported no_error_reports (error_report_list c.labels))
