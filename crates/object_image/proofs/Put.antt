-- Fields written one after the other are the record's bytes: they are only grouped otherwise.
use Prim.Native.Nat.{ℕ}
use mathlib.Core.List.{List, ◌++◌}
use lib.ListN.{get_or}
use Rattle.byte_io.specs.Write.{Wrote}
use Rattle.byte_io.specs.BigEndian.{bytes_of}
use Rattle.image.specs.Fields.{two_fields, wrote-same}
use Rattle.cojp.specs.ErrorReports.{error_report_of}
use Rattle.cojp.specs.declared.address.ShortAddress.{ShortAddress}
use Rattle.cojp.specs.declared.error_report.ErrorReport.{ErrorReport}
use Rattle.cojp.specs.declared.list.ItemList.{ItemList}
use Rattle.object_image.specs.Address.{short_address_part}
use Rattle.object_image.specs.Codes.{bool_part}
use Rattle.object_image.specs.Lists.{list_part}

pub address-wrote : (a : ShortAddress) {d e : List ℕ} {n : ℕ}
    → Wrote ((a.bytes ++ bool_part.put a.leased) ++ bytes_of 8 a.lease) d n e
    → Wrote (short_address_part.put a) d n e
address-wrote a w = wrote-same (two_fields a.bytes (bool_part.put a.leased) (bytes_of 8 a.lease)) w

pub list_wrote : (l : ItemList) {d e : List ℕ} {n : ℕ} → Wrote ((bytes_of 1 l.count ++ bytes_of 1 l.len) ++ l.bytes) d n e
    → Wrote (list_part.put l) d n e
list_wrote l w = wrote-same (two_fields (bytes_of 1 l.count) (bytes_of 1 l.len) l.bytes) w

-- ---- five reports
-- the one at a place
abbrev pub at : List ErrorReport → ℕ → ErrorReport
at xs i = get_or xs i (error_report_of 0 0)
