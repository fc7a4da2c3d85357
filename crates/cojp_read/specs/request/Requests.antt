-- For the contracts of private functions alone: what a label names, and what the readers of a role and of reports say.
use Rattle.std.specs.Prelude.{ℕ, Bool, cond, ◌≡◌, eqb, Result}
use Rattle.refusal.specs.declared.Refusal.{Refusal}
use Rattle.cojp.specs.ErrorReports.{added}
use Rattle.cojp.specs.Reading.{Judgement, refused, read}
use Rattle.cojp.specs.Request.{with_role, with_unsupported, with_errors, role_gathered, list_gathered}
use Rattle.protocol_version.specs.Version.{by_version}
use Rattle.cojp.specs.declared.error_report.ErrorReports.{ErrorReports}
use Rattle.cojp.specs.declared.list.ListParameter.{ListParameter}
use Rattle.cojp.specs.declared.disposition.Disposition.{Disposition}
use Rattle.cojp.specs.declared.request.RequestState.{RequestState}
use Rattle.protocol_version.specs.declared.Version.{Version}
use Rattle.cojp_map.specs.Pairs.{seen, once}
use Rattle.cojp_read.specs.Pair.{reading_in}
use Rattle.cojp_read.specs.declared.request.parameter.RequestParameter.{RequestParameter}
use Rattle.cojp_read.specs.declared.request.parameter.RequestParameter.TheVariants as parameter
use Rattle.cojp_read.specs.declared.request.role.RoleRead.{RoleRead}
use Rattle.cojp_read.specs.declared.request.unsupported.UnsupportedRead.{UnsupportedRead}

-- 1 role and 5 network identifier in both forms, 8 the reports of the published one
unfoldable pub request_parameter_of : Version → ℕ → RequestParameter
request_parameter_of v n =
    cond (eqb n 1)
    parameter.Role
    (cond (eqb n 5)
    parameter.Network
    (by_version v parameter.Unknown (cond (eqb n 8) parameter.Unsupported parameter.Unknown)))

-- what is gathered of a role that was read, the reports being f before it
abbrev pub role_in : RequestState → RoleRead → RequestState
role_in g r = with_errors (with_role g r.role) r.errors

abbrev pub RoleSpec : Version → Bool → ErrorReports → Judgement ℕ → Result RoleRead Refusal → Type 0
RoleSpec v named f j r =
    (g : RequestState) → g.request.errors ≡ f → reading_in (role_in g) r ≡ once named (role_gathered v g j)

-- a bad role: the refusal of the draft, and the code of the published form's report
abbrev pub BadRole : Version → Refusal → ErrorReports → ℕ → Result RoleRead Refusal → Type 0
BadRole v k f code r =
    (g : RequestState) → reading_in (role_in g) r ≡ by_version v (refused k) (read (with_errors (with_role g 0) (added f code 1)))

-- what is gathered of a list of reports that was read
abbrev pub unsupported_in : RequestState → UnsupportedRead → RequestState
unsupported_in g r = with_errors (with_unsupported g r.parameter) r.errors

abbrev pub UnsupportedSpec : Disposition → ErrorReports → ListParameter → Result UnsupportedRead Refusal → Type 0
UnsupportedSpec held f p r =
    (g : RequestState) → g.request.errors ≡ f → reading_in (unsupported_in g) r ≡ once (seen held) (read (list_gathered g p))
