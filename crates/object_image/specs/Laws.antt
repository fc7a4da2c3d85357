-- What is promised of the images of objects: their sizes, and that what was stored is loaded as it was, and stored as it stood.
use Rattle.std.specs.Prelude.{◌≡◌}
use Rattle.image.specs.Part.{RoundTrips}
use Rattle.object_image.specs.Address.{short_address_part}
use Rattle.object_image.specs.Codes.{disposition_part, bool_part}
use Rattle.object_image.specs.Configuration.{configuration_image}
use Rattle.object_image.specs.ErrorReports.{error_reports_part}
use Rattle.object_image.specs.Lists.{list_part}
use Rattle.object_image.specs.Octets.{octets_part}
use Rattle.object_image.specs.Request.{request_image}

pub record ObjectImages : Type 0 where
  -- the parts that a node is made of, too
  pub report : RoundTrips disposition_part
  pub bool : RoundTrips bool_part
  pub octets-size : octets_part.size ≡ 17
  pub octets : RoundTrips octets_part
  pub address-size : short_address_part.size ≡ 11
  pub address : RoundTrips short_address_part
  pub list-size : list_part.size ≡ 255
  pub list : RoundTrips list_part
  pub faults-size : error_reports_part.size ≡ 11
  pub faults : RoundTrips error_reports_part
  -- the objects
  pub request-size : request_image.size ≡ 296
  pub request : RoundTrips request_image
  pub configuration-size : configuration_image.size ≡ 570
  pub configuration : RoundTrips configuration_image
