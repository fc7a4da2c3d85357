-- The image of a join request, 296 bytes: kind Q, layout, role 1, network identifier 18, unsupported configuration 256, faults 11, labels
-- passed over 8.
use Rattle.std.specs.Prelude.{ℕ}
use Rattle.image.specs.Part.{Part, byte, number, both, viewed, headed}
use Rattle.cojp.specs.declared.error_report.ErrorReports.{ErrorReports}
use Rattle.cojp.specs.declared.list.ListParameter.{ListParameter}
use Rattle.cojp.specs.declared.octets.OctetsParameter.{OctetsParameter}
use Rattle.cojp.specs.declared.request.JoinRequest.{JoinRequest}
use Rattle.object_image.specs.ErrorReports.{error_reports_part}
use Rattle.object_image.specs.Lists.{list_parameter_part}
use Rattle.object_image.specs.Octets.{octets_parameter_part}

-- the fields after the network identifier
abbrev pub LaterFields : Type 0
LaterFields = ListParameter × (ErrorReports × ℕ)

abbrev pub later_fields : Part LaterFields
later_fields = both list_parameter_part (both error_reports_part (number 8))

abbrev pub later_from : JoinRequest → LaterFields
later_from q = (q.unsupported, (q.errors, q.unknown))

-- the whole
abbrev pub RequestFields : Type 0
RequestFields = ℕ × (OctetsParameter × LaterFields)

abbrev pub request_fields : Part RequestFields
request_fields = both byte (both octets_parameter_part later_fields)

abbrev pub request_to : RequestFields → JoinRequest
request_to x = record { role = x.0; network = x.1.0; unsupported = x.1.1.0; errors = x.1.1.1.0; unknown = x.1.1.1.1 }

abbrev pub request_from : JoinRequest → RequestFields
request_from q = (q.role, (q.network, later_from q))

abbrev pub request_part : Part JoinRequest
request_part = viewed request_fields request_to request_from

abbrev pub request_image : Part JoinRequest
request_image = headed 0x51 request_part
