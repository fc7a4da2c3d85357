-- A recorded trace: its records in order, each with the place where it begins, up to the trace's end or the record that stops the walk.
use Rattle.std.specs.Prelude.{ℕ, zero, suc, ◌+◌, Bool, true, false, cond, List, [], ◌∷◌, eqb, length, take, drop}
use Rattle.cojp.specs.Octets.{octets_of}
use Rattle.node_parameters.specs.Octets.{absent_octets}
use Rattle.node_parameters.specs.declared.octets.HeldOctets.{HeldOctets}
use Rattle.trace_record.specs.Layout.{record_size, entry}
use Rattle.trace_record.specs.declared.entries.Entry.{Entry}
use Rattle.trace_record.specs.declared.entries.Entry.TheVariants as entries

-- ---- records
pub data Record : Type 0 where
  -- kind 1: role, network identifier
  new_node : ℕ → HeldOctets → Record
  -- kind 2: time, first timeout
  start : ℕ → ℕ → Record
  -- kinds 3 and 4: time, payload
  join_answer update : ℕ → List ℕ → Record
  -- kind 5: frame type, key identifier
  verified : ℕ → ℕ → Record
  -- kind 6: time
  poll : ℕ → Record

abbrev pub kind_of : Record → ℕ
kind_of (new_node role network) = 1
kind_of (start time timeout) = 2
kind_of (join_answer time payload) = 3
kind_of (update time payload) = 4
kind_of (verified type identifier) = 5
kind_of (poll time) = 6

-- with the byte of its kind
abbrev pub size_of : Record → ℕ
size_of r = record_size (kind_of r)

-- ---- what stands at the front of the rest of a trace: its end, a record, or none that is good
pub data Reading : Type 0 where
  end bad : Reading
  got : Record → Reading

-- a network identifier of so many bytes at the front of s, or none
abbrev pub network_in : ℕ → List ℕ → HeldOctets
network_in len s = cond (eqb len 255) absent_octets (record { held = true; value = octets_of (take len s) })

abbrev pub reading_of : List ℕ → Entry → Reading
reading_of s entries.End = end
reading_of s entries.Bad = bad
reading_of s (entries.New role len) = got (new_node role (network_in len (drop 3 s)))
reading_of s (entries.Start time timeout) = got (start time timeout)
reading_of s (entries.JoinAnswer time len) = got (join_answer time (take len (drop 11 s)))
reading_of s (entries.Update time len) = got (update time (take len (drop 11 s)))
reading_of s (entries.Verified type identifier) = got (verified type identifier)
reading_of s (entries.Poll time) = got (poll time)

unfoldable pub reading : List ℕ → Reading
reading s = reading_of s (entry s)

-- ---- the trace
-- a record comes after the first node, or makes it
abbrev pub is_admissible : Bool → Record → Bool
is_admissible made (new_node role network) = true
is_admissible made (start time timeout) = made
is_admissible made (join_answer time payload) = made
is_admissible made (update time payload) = made
is_admissible made (verified type identifier) = made
is_admissible made (poll time) = made

pub data Trace : Type 0 where
  -- the trace's end, and a record that stops the walk: their places
  over stop : ℕ → Trace
  then : ℕ → Record → Trace → Trace

-- by what stands at the front; `rest` goes on behind it
abbrev pub parse_by : (ℕ → List ℕ → Trace) → Bool → Reading → ℕ → List ℕ → Trace
parse_by rest made end at s = over at
parse_by rest made bad at s = stop at
parse_by rest made (got r) at s = cond (is_admissible made r) (then at r (rest (at + size_of r) (drop (size_of r) s))) (stop at)

-- at a place, s being the rest of the trace, and a node made already or not;
-- a record takes bytes, so `most` is enough where it is over their number
unfoldable pub parse_from : ℕ → Bool → ℕ → List ℕ → Trace
parse_from zero made at s = stop at
parse_from (suc most) made at s = parse_by (parse_from most true) made (reading s) at s

unfoldable pub parse : List ℕ → Trace
parse trace = parse_from (suc (length trace)) false 0 trace

-- ---- its parts
abbrev pub records_in : Trace → List Record
records_in (over at) = []
records_in (stop at) = []
records_in (then at r rest) = r ∷ records_in rest

-- whether it goes to the trace's end, and where it ends
abbrev pub is_over : Trace → Bool
is_over (over at) = true
is_over (stop at) = false
is_over (then at r rest) = is_over rest

abbrev pub end_of : Trace → ℕ
end_of (over at) = at
end_of (stop at) = at
end_of (then at r rest) = end_of rest
