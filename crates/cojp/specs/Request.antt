-- Join requests: 1 role (unsigned, absent means 0), 5 network identifier; in the published form (docs/RFC9031.md) also 8, reports of what a
-- node could not act on.
use Rattle.std.specs.Prelude.{ℕ, ◌+◌, Bool, true, false, cond, List, leb, eqb, Ok, Err}
use Rattle.refusal.specs.declared.Refusal.{Refusal}
use Rattle.refusal.specs.declared.Refusal.TheVariants as refusal
use Rattle.cbor.specs.Decode.{Outcome, Heading, heading}
use Rattle.cbor.specs.Strict.{strict_heading}
use Rattle.cbor.specs.View.{number, minus, string, other, View, scalar, list}
use Rattle.cojp.specs.ErrorReports.{no_error_reports, added}
use Rattle.cojp.specs.Lists.{no_list_parameter, unsupported_taken}
use Rattle.cojp.specs.Reading.{Reading, refused, read, bind, map_reading, Judgement}
use Rattle.cojp.specs.Reading.{broken, unfit, good, concluded, by_version_of, if_taken}
use Rattle.cojp.specs.Octets.{no_octets_parameter, octets_read}
use Rattle.protocol_version.specs.Version.{by_version}
use Rattle.cojp.specs.Walk.{Form, label_status_of, payload_read_by}
use Rattle.cojp.specs.declared.error_report.ErrorReports.{ErrorReports}
use Rattle.cojp.specs.declared.list.ListParameter.{ListParameter}
use Rattle.cojp.specs.declared.octets.OctetsParameter.{OctetsParameter}
use Rattle.cojp.specs.declared.disposition.Disposition.{Disposition}
use Rattle.cojp.specs.declared.disposition.Disposition.TheVariants.{Absent, Discarded}
use Rattle.cojp.specs.declared.request.RequestState.{RequestState}
use Rattle.cojp.specs.declared.request.JoinRequest.{JoinRequest}
use Rattle.cojp.specs.declared.request.RequestRead.{RequestRead}
use Rattle.protocol_version.specs.declared.Version.{Version}
use Rattle.protocol_version.specs.declared.Version.TheVariants.{Draft, Published}
use Rattle.cojp.specs.declared.walk.LabelStatus.{LabelStatus}
use Rattle.cojp.specs.declared.walk.LabelStatus.TheVariants.{Unknown, First, Repeated}

abbrev pub empty_request : JoinRequest
empty_request = record {
  role = 0;
  network = no_octets_parameter Absent;
  unsupported = no_list_parameter Absent;
  errors = no_error_reports;
  unknown = 0;
}

-- ---- the role: 0 or 1
unfoldable pub role_judged : View → Judgement ℕ
role_judged (scalar (number n)) = cond (leb n 1) (good n) unfit
role_judged (scalar (string s)) = broken
role_judged (scalar (minus n)) = broken
role_judged (scalar other) = broken
role_judged (list ps) = broken

-- a role over 1 is ROLE in the draft
abbrev pub role_concluded : Judgement ℕ → Reading ℕ
role_concluded j = concluded (refused refusal.Role) (λ n. n) j

-- ---- what is gathered: the request, and whether a role was seen
abbrev pub request_state : Bool → JoinRequest → RequestState
request_state named q = record { named = named; request = q }

abbrev pub empty_request_state : RequestState
empty_request_state = request_state false empty_request

module _ (g : RequestState) where
  abbrev pub with_role : ℕ → RequestState
  with_role n = request_state true (record {
    role = n;
    network = g.request.network;
    unsupported = g.request.unsupported;
    errors = g.request.errors;
    unknown = g.request.unknown;
  })

  abbrev pub with_network : OctetsParameter → RequestState
  with_network p = request_state g.named (record {
    role = g.request.role;
    network = p;
    unsupported = g.request.unsupported;
    errors = g.request.errors;
    unknown = g.request.unknown;
  })

  abbrev pub with_unsupported : ListParameter → RequestState
  with_unsupported p = request_state g.named (record {
    role = g.request.role;
    network = g.request.network;
    unsupported = p;
    errors = g.request.errors;
    unknown = g.request.unknown;
  })

  abbrev pub with_errors : ErrorReports → RequestState
  with_errors f = request_state g.named (record {
    role = g.request.role;
    network = g.request.network;
    unsupported = g.request.unsupported;
    errors = f;
    unknown = g.request.unknown;
  })

  -- one more report
  abbrev pub with_error : ℕ → ℕ → RequestState
  with_error code label = with_errors (added g.request.errors code label)

  -- ---- labels 1 and 5 are known, 8 in the published form
  abbrev pub request_passing : RequestState
  request_passing = request_state g.named (record {
    role = g.request.role;
    network = g.request.network;
    unsupported = g.request.unsupported;
    errors = g.request.errors;
    unknown = g.request.unknown + 1;
  })

abbrev pub role_label_status : Bool → LabelStatus
role_label_status true = Repeated
role_label_status false = First

unfoldable pub request_label_status : Version → RequestState → ℕ → LabelStatus
request_label_status v g n =
    cond (eqb n 1)
    (role_label_status g.named)
    (cond (eqb n 5)
    (label_status_of g.request.network.disposition)
    (by_version v Unknown (cond (eqb n 8) (label_status_of g.request.unsupported.disposition) Unknown)))

-- a bad role of the published form reads as 0 and is reported: one over 1 as unsupported (0), what is no unsigned number as malformed (1)
abbrev pub role_gathered : Version → RequestState → Judgement ℕ → Reading RequestState
role_gathered Draft g j = map_reading (with_role g) (role_concluded j)
role_gathered Published g broken = read (with_error (with_role g 0) 1 1)
role_gathered Published g unfit = read (with_error (with_role g 0) 0 1)
role_gathered Published g (good n) = read (with_role g n)

-- a bad list of reports is itself reported
abbrev pub list_gathered : RequestState → ListParameter → RequestState
list_gathered g p = if_taken p.disposition (with_unsupported g p) (with_error (with_unsupported g p) 1 8)

-- a bad network identifier counts as missing
unfoldable pub request_taking : Version → RequestState → ℕ → View → Reading RequestState
request_taking v g n x =
    cond (eqb n 1)
    (role_gathered v g (role_judged x))
    (cond (eqb n 5)
    (map_reading (with_network g) (by_version_of v (no_octets_parameter Discarded) (octets_read 0 x)))
    (read (list_gathered g (unsupported_taken x))))

abbrev pub request_form : Version → Form RequestState
request_form v = record { standing = request_label_status v; passing = request_passing; taking = request_taking v }

-- ---- a network identifier is due if the role is 0, in the published form from every role, and only a taken one serves
unfoldable pub owing : Version → ℕ → Disposition → Bool
owing v role report = if_taken report false (by_version v (eqb role 0) true)

abbrev pub settled : Version → RequestState → Reading JoinRequest
settled v g = cond (owing v g.request.role g.request.network.disposition) (refused refusal.Owed) (read g.request)

-- ---- the answer: beside a refusal stands the empty request
abbrev pub refuse_request : Refusal → RequestRead
refuse_request k = record { verdict = Err k; request = empty_request }

abbrev pub accept_request : JoinRequest → RequestRead
accept_request q = record { verdict = Ok tt; request = q }

abbrev pub request_answer : Reading JoinRequest → RequestRead
request_answer (refused k) = refuse_request k
request_answer (read q) = accept_request q

-- its heads read by `head`
abbrev pub read_request_by : Version → (List ℕ → Outcome Heading) → List ℕ → RequestRead
read_request_by v head p = request_answer (bind (payload_read_by (request_form v) head empty_request_state p) (settled v))

abbrev pub read_request_as : Version → List ℕ → RequestRead
read_request_as v p = read_request_by v heading p

abbrev pub read_strict_request_as : Version → List ℕ → RequestRead
read_strict_request_as v p = read_request_by v strict_heading p

-- in document 01's form
abbrev pub read_request : List ℕ → RequestRead
read_request p = read_request_as Draft p

abbrev pub read_strict_request : List ℕ → RequestRead
read_strict_request p = read_strict_request_as Draft p
