-- Where the records of a trace stand: one behind the other from the trace's start on, each of the kind that its first byte names, up to
-- the trace's end or to the first that stops the walk.
use Rattle.std.specs.Prelude.{ℕ, ◌+◌, ◌≡◌, Bool, true, false, List, length, drop, get_or}
use Rattle.trace.specs.Trace.{kind_of, size_of, Reading, end, bad, got, reading, is_admissible, Trace, over, stop, then, parse}

-- what stops the walk: no good record, or one before the first node
abbrev pub Stops : Bool → Reading → Type 0
Stops made end = ⊥
Stops made bad = Unit {0}
Stops made (got r) = is_admissible made r ≡ false

-- from a place on, a node being made already or not
abbrev pub ContiguousFrom : List ℕ → Bool → ℕ → Trace → Type 0
ContiguousFrom trace made at (over place) = (place ≡ at) × (at ≡ length trace)
ContiguousFrom trace made at (stop place) = (place ≡ at) × Stops made (reading (drop at trace))
ContiguousFrom trace made at (then place r rest) =
    (place ≡ at) × (reading (drop at trace) ≡ got r) × (get_or (drop at trace) 0 0 ≡ kind_of r) × (is_admissible made r ≡ true)
    × ContiguousFrom trace true (at + size_of r) rest

abbrev pub RecordsContiguous : Type 0
RecordsContiguous = (trace : List ℕ) → ContiguousFrom trace false 0 (parse trace)
