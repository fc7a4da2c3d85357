-- Ways in which docs/RFC9031.md has a value of the published form bad, or just good: payloads, and what each is answered with, its reports
-- or a refusal. A table for each parameter, and one statement.
use Rattle.std.specs.Prelude.{ℕ, ◌≡◌, true, false, List, [], ◌∷◌, ◌++◌, replicate, Ok, Err}
use Rattle.refusal.specs.declared.Refusal.{Refusal}
use Rattle.refusal.specs.declared.Refusal.TheVariants as refusal
use Rattle.refusal.specs.Verdict.{Verdict}
use Rattle.link_key.specs.Key.{key_with_additional_info}
use Rattle.link_key.specs.declared.additional_info.AdditionalInfo.TheVariants.{Absent}
use Rattle.cojp.specs.Address.{address_of, address_parameter}
use Rattle.cojp.specs.ErrorReports.{error_report_of, error_report_list}
use Rattle.cojp.specs.KeySet.{key_set_of, keys_parameter}
use Rattle.cojp.specs.Reported.{error_reports_of}
use Rattle.cojp.specs.declared.configuration.ConfigurationRead.{ConfigurationRead}
use Rattle.cojp.specs.declared.error_report.ErrorReport.{ErrorReport}
use Rattle.cojp.specs.declared.disposition.Disposition.TheVariants.{Taken}
use Rattle.cojp.specs.declared.request.RequestRead.{RequestRead}
use Rattle.cojp_rfc9031_laws.specs.Verdicts.{configuration_of, request_of}

-- ---- a row
pub data Payload : Type 0 where
  configuration : List ℕ → Payload
  request : List ℕ → Payload

pub data Answered : Type 0 where
  reports : List ErrorReport → Answered
  refused : Refusal → Answered

pub record Row : Type 0 where
  pub payload : Payload
  pub answer : Answered

-- the reports beside the verdict
abbrev pub said : Verdict → List ErrorReport → Answered
said (Ok tt) f = reports f
said (Err k) f = refused k

abbrev pub said_of_configuration : ConfigurationRead → Answered
said_of_configuration r = said r.verdict (error_report_list (error_reports_of r.configuration))

abbrev pub said_of_request : RequestRead → Answered
said_of_request r = said r.verdict (error_report_list r.request.errors)

abbrev pub answer_to : Payload → Answered
answer_to (configuration p) = said_of_configuration (configuration_of false p)
answer_to (request p) = said_of_request (request_of false p)

-- ---- a configuration with this label alone: its value is bad, and reported as malformed, or it is good
abbrev pub bad : ℕ → List ℕ → Row
bad label value = record { payload = configuration (0xA1 ∷ label ∷ value); answer = reports (error_report_of 1 label ∷ []) }

abbrev pub good : ℕ → List ℕ → Row
good label value = record { payload = configuration (0xA1 ∷ label ∷ value); answer = reports [] }

-- a join request with this label after a network identifier of one byte: its value is bad, by this code, or it is good
abbrev pub bad_asked : ℕ → ℕ → List ℕ → Row
bad_asked code label value = record {
  payload = request (0xA2 ∷ 0x05 ∷ 0x41 ∷ 0x00 ∷ label ∷ value);
  answer = reports (error_report_of code label ∷ []);
}

abbrev pub good_asked : ℕ → List ℕ → Row
good_asked label value = record { payload = request (0xA2 ∷ 0x05 ∷ 0x41 ∷ 0x00 ∷ label ∷ value); answer = reports [] }

-- a join request with this network identifier alone: it is good, or the request is OWED
abbrev pub good_network : List ℕ → Row
good_network value = record { payload = request (0xA1 ∷ 0x05 ∷ value); answer = reports [] }

abbrev pub bad_network : List ℕ → Row
bad_network value = record { payload = request (0xA1 ∷ 0x05 ∷ value); answer = refused refusal.Owed }

-- a key's value with its head, and a key of an identifier in one byte
abbrev pub value16 : List ℕ
value16 = 0x50 ∷ replicate 16 7

abbrev pub key : ℕ → List ℕ
key identifier = identifier ∷ value16

-- ---- the tables, one for each parameter
abbrev pub short_identifiers : List Row
short_identifiers =
    -- no array; no member; three; the first no byte string; the second not unsigned
    bad 3 (0x42 ∷ 0x12 ∷ 0x34 ∷ [])
    ∷ bad 3 (0x80 ∷ [])
    ∷ bad 3 (0x83 ∷ 0x42 ∷ 0x12 ∷ 0x34 ∷ 0x01 ∷ 0x01 ∷ [])
    ∷ bad 3 (0x81 ∷ 0x05 ∷ [])
    ∷ bad 3 (0x82 ∷ 0x42 ∷ 0x12 ∷ 0x34 ∷ 0x20 ∷ [])
    ∷ bad 3 (0x82 ∷ 0x42 ∷ 0x12 ∷ 0x34 ∷ 0x40 ∷ [])
    ∷ bad 3 (0x82 ∷ 0x42 ∷ 0x12 ∷ 0x34 ∷ 0xF6 ∷ [])
    -- no byte, one, three and four; FFFE and FFFF
    ∷ bad 3 (0x81 ∷ 0x40 ∷ [])
    ∷ bad 3 (0x81 ∷ 0x41 ∷ 0x12 ∷ [])
    ∷ bad 3 (0x81 ∷ 0x43 ∷ 0x12 ∷ 0x34 ∷ 0x56 ∷ [])
    ∷ bad 3 (0x81 ∷ 0x44 ∷ 0x12 ∷ 0x34 ∷ 0x56 ∷ 0x78 ∷ [])
    ∷ bad 3 (0x81 ∷ 0x42 ∷ 0xFF ∷ 0xFE ∷ [])
    ∷ bad 3 (0x81 ∷ 0x42 ∷ 0xFF ∷ 0xFF ∷ [])
    -- FFFD, and one with a lease of no hours
    ∷ good 3 (0x81 ∷ 0x42 ∷ 0xFF ∷ 0xFD ∷ [])
    ∷ good 3 (0x82 ∷ 0x42 ∷ 0x12 ∷ 0x34 ∷ 0x00 ∷ [])
    ∷ []

abbrev pub jrc_addresses : List Row
jrc_addresses =
    bad 4 (0x4F ∷ replicate 15 7)
    ∷ bad 4 (0x51 ∷ replicate 17 7)
    ∷ bad 4 (0x52 ∷ replicate 18 7)
    ∷ bad 4 (0x70 ∷ replicate 16 7)
    ∷ bad 4 (0x81 ∷ 0x50 ∷ replicate 16 7)
    ∷ good 4 (0x50 ∷ replicate 16 7)
    ∷ []

abbrev pub blacklists : List Row
blacklists =
    -- no array; a number, a negative number, or text among its members
    bad 6 (0x41 ∷ 0x01 ∷ [])
    ∷ bad 6 (0x82 ∷ 0x41 ∷ 0x01 ∷ 0x05 ∷ [])
    ∷ bad 6 (0x82 ∷ 0x20 ∷ 0x41 ∷ 0x01 ∷ [])
    ∷ bad 6 (0x81 ∷ 0x61 ∷ 0x61 ∷ [])
    -- no member; an empty one; one twice; many
    ∷ good 6 (0x80 ∷ [])
    ∷ good 6 (0x81 ∷ 0x40 ∷ [])
    ∷ good 6 (0x82 ∷ 0x41 ∷ 0x01 ∷ 0x41 ∷ 0x01 ∷ [])
    ∷ good 6 (0x98 ∷ 0x18 ∷ replicate 24 0x40)
    ∷ []

abbrev pub join_rates : List Row
join_rates = bad 7 (0x20 ∷ []) ∷ bad 7 (0x41 ∷ 0x01 ∷ []) ∷ bad 7 (0x81 ∷ 0x01 ∷ []) ∷ good 7 (0x00 ∷ []) ∷ []

abbrev pub key_sets : List Row
key_sets =
    -- no array; no key; an identifier without a value; a value without an identifier
    bad 2 (0x00 ∷ [])
    ∷ bad 2 (0x80 ∷ [])
    ∷ bad 2 (0x81 ∷ 0x01 ∷ [])
    ∷ bad 2 (0x81 ∷ value16)
    -- identifiers 0, 256 and 257; usages 15, 256 and -1; values of 15 and of 17 bytes
    ∷ bad 2 (0x82 ∷ key 0)
    ∷ bad 2 (0x82 ∷ 0x19 ∷ 0x01 ∷ 0x00 ∷ value16)
    ∷ bad 2 (0x82 ∷ 0x19 ∷ 0x01 ∷ 0x01 ∷ value16)
    ∷ bad 2 (0x83 ∷ 0x01 ∷ 0x0F ∷ value16)
    ∷ bad 2 (0x83 ∷ 0x01 ∷ 0x19 ∷ 0x01 ∷ 0x00 ∷ value16)
    ∷ bad 2 (0x83 ∷ 0x01 ∷ 0x20 ∷ value16)
    ∷ bad 2 (0x82 ∷ 0x01 ∷ 0x4F ∷ replicate 15 7)
    ∷ bad 2 (0x82 ∷ 0x01 ∷ 0x51 ∷ replicate 17 7)
    -- additional information of 3, 5, 9 and 10 bytes and of none; three byte strings
    ∷ bad 2 ((0x83 ∷ key 1) ++ (0x43 ∷ 1 ∷ 2 ∷ 3 ∷ []))
    ∷ bad 2 ((0x83 ∷ key 1) ++ (0x45 ∷ replicate 5 1))
    ∷ bad 2 ((0x83 ∷ key 1) ++ (0x49 ∷ replicate 9 1))
    ∷ bad 2 ((0x83 ∷ key 1) ++ (0x4A ∷ replicate 10 1))
    ∷ bad 2 ((0x83 ∷ key 1) ++ (0x40 ∷ []))
    ∷ bad 2 ((0x84 ∷ key 1) ++ (0x44 ∷ 1 ∷ 2 ∷ 3 ∷ 4 ∷ 0x44 ∷ 1 ∷ 2 ∷ 3 ∷ 4 ∷ []))
    -- an identifier twice, also with two sources; a good key and a bad one; nine keys
    ∷ bad 2 ((0x84 ∷ key 1) ++ key 1)
    ∷ bad 2 ((0x86 ∷ key 1) ++ (0x44 ∷ replicate 4 1) ++ key 1 ++ (0x44 ∷ replicate 4 2))
    ∷ bad 2 ((0x84 ∷ key 1) ++ key 0)
    ∷ bad 2 ((0x92 ∷ key 1) ++ key 2 ++ key 3 ++ key 4 ++ key 5 ++ key 6 ++ key 7 ++ key 8 ++ key 9)
    -- one key, and eight; usage 0, written; identifier 255 and usage 14; information of 4 and of 8 bytes
    ∷ good 2 (0x82 ∷ key 1)
    ∷ good 2 ((0x90 ∷ key 1) ++ key 2 ++ key 3 ++ key 4 ++ key 5 ++ key 6 ++ key 7 ++ key 8)
    ∷ good 2 (0x83 ∷ 0x01 ∷ 0x00 ∷ value16)
    ∷ good 2 (0x83 ∷ 0x18 ∷ 0xFF ∷ 0x0E ∷ value16)
    ∷ good 2 ((0x83 ∷ key 1) ++ (0x44 ∷ 1 ∷ 2 ∷ 3 ∷ 4 ∷ []))
    ∷ good 2 ((0x83 ∷ key 1) ++ (0x48 ∷ 1 ∷ 2 ∷ 3 ∷ 4 ∷ 5 ∷ 6 ∷ 7 ∷ 8 ∷ []))
    ∷ []

-- a role over 1 is unsupported (0), what is no unsigned number malformed (1)
abbrev pub roles : List Row
roles =
    bad_asked 0 1 (0x02 ∷ [])
    ∷ bad_asked 1 1 (0x20 ∷ [])
    ∷ bad_asked 1 1 (0x41 ∷ 0x01 ∷ [])
    ∷ bad_asked 1 1 (0x81 ∷ 0x01 ∷ [])
    ∷ good_asked 1 (0x00 ∷ [])
    ∷ good_asked 1 (0x01 ∷ [])
    ∷ []

abbrev pub report_lists : List Row
report_lists =
    -- no array; none, two and four members; a code, and a label, that is a byte string
    bad_asked 1 8 (0x00 ∷ [])
    ∷ bad_asked 1 8 (0x80 ∷ [])
    ∷ bad_asked 1 8 (0x82 ∷ 0x00 ∷ 0x07 ∷ [])
    ∷ bad_asked 1 8 (0x84 ∷ 0x00 ∷ 0x07 ∷ 0xF6 ∷ 0x00 ∷ [])
    ∷ bad_asked 1 8 (0x83 ∷ 0x40 ∷ 0x07 ∷ 0xF6 ∷ [])
    ∷ bad_asked 1 8 (0x83 ∷ 0x00 ∷ 0x40 ∷ 0xF6 ∷ [])
    -- code and label negative; any third item; two groups; six
    ∷ good_asked 8 (0x83 ∷ 0x20 ∷ 0x07 ∷ 0xF6 ∷ [])
    ∷ good_asked 8 (0x83 ∷ 0x00 ∷ 0x20 ∷ 0xF6 ∷ [])
    ∷ good_asked 8 (0x83 ∷ 0x01 ∷ 0x03 ∷ 0x81 ∷ 0x00 ∷ [])
    ∷ good_asked 8 (0x86 ∷ 0x01 ∷ 0x03 ∷ 0x40 ∷ 0x00 ∷ 0x07 ∷ 0x05 ∷ [])
    ∷ good_asked 8 (0x92 ∷ replicate 18 0x07)
    ∷ []

-- at most 16 bytes
abbrev pub networks : List Row
networks =
    bad_network (0x51 ∷ replicate 17 7)
    ∷ bad_network (0x00 ∷ [])
    ∷ bad_network (0x61 ∷ 0x61 ∷ [])
    ∷ good_network (0x40 ∷ [])
    ∷ good_network (0x50 ∷ replicate 16 7)
    ∷ []

abbrev pub tables : List (List Row)
tables = short_identifiers ∷ jrc_addresses ∷ blacklists ∷ join_rates ∷ key_sets ∷ roles ∷ report_lists ∷ networks ∷ []

-- ---- every row is answered as it says
abbrev pub found : List Row → List Answered
found [] = []
found (r ∷ rs) = answer_to r.payload ∷ found rs

abbrev pub expected : List Row → List Answered
expected [] = []
expected (r ∷ rs) = r.answer ∷ expected rs

abbrev pub AllFound : List (List Row) → Type 0
AllFound [] = Unit {0}
AllFound (t ∷ ts) = (found t ≡ expected t) × AllFound ts

pub record BadValues : Type 0 where
  pub rows : AllFound tables
  -- what is good is taken as it stands: a lease of no hours is a lease, a usage that is written as 0 is usage 0
  pub no-hours : (configuration_of false (0xA1 ∷ 0x03 ∷ 0x82 ∷ 0x42 ∷ 0x12 ∷ 0x34 ∷ 0x00 ∷ [])).configuration.address
      ≡ address_parameter Taken (address_of (0x12 ∷ 0x34 ∷ []) true 0)
  pub usage-0 : (configuration_of false (0xA1 ∷ 0x02 ∷ 0x83 ∷ 0x01 ∷ 0x00 ∷ value16)).configuration.keys
      ≡ keys_parameter Taken (key_set_of (key_with_additional_info 1 0 (replicate 16 7) Absent ∷ []))
