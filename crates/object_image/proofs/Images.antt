-- The images are lawful by their tables.
use Prim.Native.Nat.{ℕ, zero, suc}
use mathlib.Core.Path.{◌≡◌, refl}
use mathlib.Core.Bool.{Bool, true, false}
use native.Mathlib.Omega.{arith}
use borrow.Author.Tests.{leb-true}
use lib.Dec.{leb}
use Rattle.image.specs.CodecLaws.{byte-lawful, number-lawful, octets-lawful, both-lawful}
use Rattle.image.specs.CodecLaws.{viewed-lawful, code-lawful, times-lawful, headed-lawful}
use Rattle.image.specs.Part.{RoundTrips, byte, number, octets, both, times}
use Rattle.cojp.specs.declared.disposition.Disposition.{Disposition}
use Rattle.cojp.specs.declared.disposition.Disposition.TheVariants.{Absent, Taken, Discarded}
use Rattle.key_image.specs.Key.{key_set_part}
use Rattle.object_image.specs.Address.{short_address_fields, short_address_to, short_address_from, short_address_part}
use Rattle.object_image.specs.Address.{address_parameter_to, address_parameter_from, address_parameter_part}
use Rattle.object_image.specs.Codes.{disposition_number, disposition_of, disposition_part, bool_number, bool_of, bool_part}
use Rattle.object_image.specs.Configuration.{keys_parameter_to, keys_parameter_from, keys_parameter_part, earlier_fields, later_fields}
use Rattle.object_image.specs.Configuration.{configuration_to, configuration_from, configuration_part, configuration_image}
use Rattle.object_image.specs.ErrorReports.{error_report_to, error_report_from, error_report_part}
use Rattle.object_image.specs.ErrorReports.{error_reports_to, error_reports_from, error_reports_part}
use Rattle.object_image.specs.Laws.{ObjectImages}
use Rattle.object_image.specs.Lists.{list_fields, list_to, list_from, list_part, list_parameter_to, list_parameter_from, list_parameter_part}
use Rattle.object_image.specs.Octets.{octets_to, octets_from, octets_part, octets_parameter_to, octets_parameter_from, octets_parameter_part}
use Rattle.object_image.specs.Rate.{rate_parameter_to, rate_parameter_from, rate_parameter_part}
use Rattle.object_image.specs.Request.{request_fields, request_to, request_from, request_part, request_image}

-- ---- one byte
report-again : (r : Disposition) → disposition_of (disposition_number r) ≡ r
report-again Absent = refl
report-again Taken = refl
report-again Discarded = refl

report-undone : (n : ℕ) → leb n 2 ≡ true → disposition_number (disposition_of n) ≡ n
report-undone zero h = refl
report-undone (suc zero) h = refl
report-undone (suc (suc n)) h = omega (arith, leb-true (suc (suc n)) 2 h)

report-lawful : RoundTrips disposition_part
report-lawful = code-lawful disposition_number disposition_of 2 report-again report-undone

bool-again : (b : Bool) → bool_of (bool_number b) ≡ b
bool-again true = refl
bool-again false = refl

bool-undone : (n : ℕ) → leb n 1 ≡ true → bool_number (bool_of n) ≡ n
bool-undone zero h = refl
bool-undone (suc n) h = omega (arith, leb-true (suc n) 1 h)

bool_lawful : RoundTrips bool_part
bool_lawful = code-lawful bool_number bool_of 1 bool-again bool-undone

-- ---- the parts
octets-part-lawful : RoundTrips octets_part
octets-part-lawful =
    viewed-lawful (both (number 1) (octets 16)) octets_to octets_from (λ o. refl) (λ x h. refl)
    (both-lawful _ _ (number-lawful 1) (octets-lawful 16))

octets-parameter-lawful : RoundTrips octets_parameter_part
octets-parameter-lawful =
    viewed-lawful (both disposition_part octets_part) octets_parameter_to octets_parameter_from (λ p. refl) (λ x h. refl)
    (both-lawful _ _ report-lawful octets-part-lawful)

address-lawful : RoundTrips short_address_part
address-lawful =
    viewed-lawful short_address_fields short_address_to short_address_from (λ a. refl) (λ x h. refl)
    (both-lawful _ _ (octets-lawful 2) (both-lawful _ _ bool_lawful (number-lawful 8)))

address-parameter-lawful : RoundTrips address_parameter_part
address-parameter-lawful =
    viewed-lawful (both disposition_part short_address_part) address_parameter_to address_parameter_from (λ p. refl) (λ x h. refl)
    (both-lawful _ _ report-lawful address-lawful)

list_lawful : RoundTrips list_part
list_lawful =
    viewed-lawful list_fields list_to list_from (λ l. refl) (λ x h. refl)
    (both-lawful _ _ (number-lawful 1) (both-lawful _ _ (number-lawful 1) (octets-lawful 253)))

list-parameter-lawful : RoundTrips list_parameter_part
list-parameter-lawful =
    viewed-lawful (both disposition_part list_part) list_parameter_to list_parameter_from (λ p. refl) (λ x h. refl)
    (both-lawful _ _ report-lawful list_lawful)

rate-parameter-lawful : RoundTrips rate_parameter_part
rate-parameter-lawful =
    viewed-lawful (both disposition_part (number 8)) rate_parameter_to rate_parameter_from (λ p. refl) (λ x h. refl)
    (both-lawful _ _ report-lawful (number-lawful 8))

fault-lawful : RoundTrips error_report_part
fault-lawful =
    viewed-lawful (both byte byte) error_report_to error_report_from (λ f. refl) (λ x h. refl) (both-lawful _ _ byte-lawful byte-lawful)

faults-lawful : RoundTrips error_reports_part
faults-lawful =
    viewed-lawful (both (number 1) (times 5 error_report_part)) error_reports_to error_reports_from (λ f. refl) (λ x h. refl)
    (both-lawful _ _ (number-lawful 1) (times-lawful error_report_part fault-lawful 5))

-- ---- the objects
request-lawful : RoundTrips request_image
request-lawful =
    headed-lawful 0x51 request_part
    (viewed-lawful request_fields request_to request_from (λ q. refl) (λ x h. refl)
    (both-lawful _ _ byte-lawful
    (both-lawful _ _ octets-parameter-lawful (both-lawful _ _ list-parameter-lawful (both-lawful _ _ faults-lawful (number-lawful 8))))))

-- given that key sets are
module _ (key-set-lawful : RoundTrips key_set_part) where
  keys-parameter-lawful : RoundTrips keys_parameter_part
  keys-parameter-lawful =
      viewed-lawful (both disposition_part key_set_part) keys_parameter_to keys_parameter_from (λ p. refl) (λ x h. refl)
      (both-lawful _ _ report-lawful key-set-lawful)

  configuration-lawful : RoundTrips configuration_image
  configuration-lawful =
      headed-lawful 0x43 configuration_part
      (viewed-lawful (both earlier_fields later_fields) configuration_to configuration_from (λ c. refl) (λ x h. refl)
      (both-lawful _ _
      (both-lawful _ _ keys-parameter-lawful
      (both-lawful _ _ address-parameter-lawful
      (both-lawful _ _ octets-parameter-lawful (both-lawful _ _ octets-parameter-lawful octets-parameter-lawful))))
      (both-lawful _ _ list-parameter-lawful
      (both-lawful _ _ rate-parameter-lawful (both-lawful _ _ faults-lawful (number-lawful 8))))))

  pub object-images : ObjectImages
  object-images =
      record {
        report = report-lawful;
        bool = bool_lawful;
        octets-size = refl;
        octets = octets-part-lawful;
        address-size = refl;
        address = address-lawful;
        list-size = refl;
        list = list_lawful;
        faults-size = refl;
        faults = faults-lawful;
        request-size = refl;
        request = request-lawful;
        configuration-size = refl;
        configuration = configuration-lawful;
      }
