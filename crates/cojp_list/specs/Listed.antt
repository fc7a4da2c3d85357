-- The reports that a node keeps, as the unsupported configuration of its join request (RFC 9031): code, label and null for each.
use Rattle.std.specs.Prelude.{List, [], ◌∷◌}
use Rattle.cbor.specs.View.{Scalar, number, other}
use Rattle.cojp.specs.ErrorReports.{error_report_list}
use Rattle.cojp.specs.Lists.{list_of, list_parameter, no_list_parameter}
use Rattle.cojp.specs.declared.error_report.ErrorReport.{ErrorReport}
use Rattle.cojp.specs.declared.error_report.ErrorReports.{ErrorReports}
use Rattle.cojp.specs.declared.list.ListParameter.{ListParameter}
use Rattle.cojp.specs.declared.disposition.Disposition.TheVariants.{Absent, Taken}

abbrev pub members_of : List ErrorReport → List Scalar
members_of [] = []
members_of (f ∷ fs) = number f.code ∷ number f.label ∷ other ∷ members_of fs

-- without a report there is no such parameter
abbrev pub listing : List ErrorReport → ListParameter
listing [] = no_list_parameter Absent
listing (f ∷ fs) = list_parameter Taken (list_of (members_of (f ∷ fs)))

unfoldable pub listed_in : ErrorReports → ListParameter
listed_in f = listing (error_report_list f)
