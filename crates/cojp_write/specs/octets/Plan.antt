-- What is asked of the writer of one parameter: its limits are judged before the room, as for a whole object (but see the lists).
use Rattle.std.specs.Prelude.{ℕ, Bool, true, cond, List, [], ◌++◌, eqb, leb}
use Rattle.refusal.specs.declared.Refusal.TheVariants.{Range}
use Rattle.byte_io.specs.Write.{Plan, refuse, emit}
use Rattle.cbor.specs.Encode.{shortest, encode_pairs}
use Rattle.cojp.specs.Lists.{bytes_in}
use Rattle.cojp.specs.Reading.{if_taken}
use Rattle.cojp.specs.Writing.{octets_pairs, octets_in_range, jrc_in_range}
use Rattle.cojp.specs.declared.list.ItemList.{ItemList}
use Rattle.cojp.specs.declared.list.ListParameter.{ListParameter}
use Rattle.cojp.specs.declared.octets.OctetsParameter.{OctetsParameter}

-- label 4 is the JRC address, which has 16 bytes; any other byte string has at most 16
abbrev pub string_in_range : ℕ → OctetsParameter → Bool
string_in_range label p = cond (eqb label 4) (jrc_in_range p) (octets_in_range p)

-- RANGE, then the bytes, for which there may be no ROOM; nothing is written of a parameter that is not taken
unfoldable pub octets_plan : ℕ → OctetsParameter → Plan
octets_plan label p = cond (string_in_range label p) (emit (encode_pairs (octets_pairs label p))) (refuse Range)

-- ---- a list that is kept as it is written: its length alone is judged here; that it is such a list as its label has (`kept`) is among the
-- limits of the whole object
-- a label, and the array that the list is
abbrev pub array_bytes : ℕ → ItemList → List ℕ
array_bytes label l = shortest 0 label ++ (shortest 4 l.count ++ bytes_in l)

-- the same of a parameter: nothing where it is not taken
abbrev pub list_bytes : ℕ → ListParameter → List ℕ
list_bytes label p = if_taken p.disposition (array_bytes label p.value) []

abbrev pub list_count : ListParameter → ℕ
list_count p = if_taken p.disposition 1 0

-- it has no more bytes than its array
abbrev pub list_fits : ListParameter → Bool
list_fits p = if_taken p.disposition (leb p.value.len 253) true

-- RANGE where it has more
unfoldable pub array_plan : ℕ → ItemList → Plan
array_plan label l = cond (leb l.len 253) (emit (array_bytes label l)) (refuse Range)

abbrev pub list_parameter_plan : ℕ → ListParameter → Plan
list_parameter_plan label p = if_taken p.disposition (array_plan label p.value) (emit [])
