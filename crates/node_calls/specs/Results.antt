-- What a node's calls hand back to C beside their number: a code, a length, or a struct.
use Rattle.refusal.specs.declared.Refusal.{Refusal}
use Rattle.std.specs.Prelude.{ℕ, List, [], Result, Ok, Err}
use Rattle.node.specs.declared.lease.LeaseStatus.{LeaseStatus}
use Rattle.node.specs.declared.lease.LeaseStatus.TheVariants as holding
use Rattle.node_attempt.specs.declared.poll.Due.{Due}
use Rattle.node_attempt.specs.declared.poll.Due.TheVariants as due
use Rattle.node_image.specs.Answers.{dispositions_image, frame_key_image}
use Rattle.node_key_sets.specs.declared.frames.Change.{Change}
use Rattle.node_key_sets.specs.declared.frames.Change.TheVariants as change
use Rattle.node_laws.specs.Calls.{Object, nothing, written, step, reports, state, key, counted, effect}

-- codes begin at 1, so that 0 is never an answer
abbrev pub due_code : Result Due Refusal → ℕ
due_code (Err k) = 0
due_code (Ok due.NotYet) = 1
due_code (Ok due.SendAgain) = 2
due_code (Ok due.GaveUp) = 3

abbrev pub lease_status_code : Result LeaseStatus Refusal → ℕ
lease_status_code (Err k) = 0
lease_status_code (Ok holding.Valid) = 1
lease_status_code (Ok holding.Expired) = 2

abbrev pub change_code : Result Change Refusal → ℕ
change_code (Err k) = 0
change_code (Ok change.Kept) = 1
change_code (Ok change.Switched) = 2

-- a result that is a number: how many bytes a start wrote, or a code; 0 where the result is a struct
abbrev pub value_of : Object → ℕ
value_of nothing = 0
value_of (written n) = n
value_of (step d) = due_code d
value_of (reports r) = 0
value_of (state h) = lease_status_code h
value_of (key k) = 0
value_of (counted k n) = 0
value_of (effect c) = change_code c

-- a result that is a struct: reports, or a frame's key, with counter 0 where a frame is received; nothing where the result is a number
abbrev pub struct_of : Object → List ℕ
struct_of nothing = []
struct_of (written n) = []
struct_of (step d) = []
struct_of (reports r) = dispositions_image.put r
struct_of (state h) = []
struct_of (key k) = frame_key_image.put (k, 0)
struct_of (counted k n) = frame_key_image.put (k, n)
struct_of (effect c) = []
