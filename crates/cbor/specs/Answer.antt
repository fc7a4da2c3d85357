-- What the functions of this crate answer, each as a function of what Decode and Encode say of the bytes.
-- n is the length of the slice: a place is where the bytes that are left begin, so it is n less their length.
use Rattle.cbor.specs.declared.head.Head.{Head}
use Rattle.refusal.specs.declared.Refusal.{Refusal}
use Rattle.std.specs.Prelude.{ℕ, ◌-◌, ◌^◌, cond, List, length, ltb, eqb, Result, Ok, Err, Option, Some, None}
use Rattle.refusal.specs.Refusal.{number_of}
use Rattle.refusal.specs.declared.Refusal.TheVariants.{Range}
use Rattle.refusal.specs.Verdict.{Verdict}
use Rattle.byte_io.specs.Write.{Plan, refuse, emit}
use Rattle.cbor.specs.Decode.{Outcome, refused, got, Heading}
use Rattle.cbor.specs.Encode.{shortest}
use Rattle.cbor.specs.Item.{Item}
use Rattle.cbor.specs.Strict.{short}
use Rattle.cbor.specs.declared.item.MapHead.{MapHead}

-- ---- reading
-- how many bytes hold the argument that length information 0 to 27 announces
abbrev pub announced : ℕ → ℕ
announced info = cond (ltb info 24) 0 (2 ^ (info - 24))

-- a head, and where the bytes go on after it
abbrev pub head_answer : ℕ → Outcome Heading → Result Head Refusal
head_answer n (refused k) = Err k
head_answer n (got h t) =
    Ok (record { major = h.major; info = h.info; argument = h.argument; short = short h; next = n - length t })

-- where the bytes go on after what was passed over
abbrev pub skip_answer : {A : Type 0} → ℕ → Outcome A → Result ℕ Refusal
skip_answer n (refused k) = Err k
skip_answer n (got a t) = Ok (n - length t)

-- the scan of a whole payload
abbrev pub scan_answer : {A : Type 0} → Outcome A → Verdict
scan_answer (refused k) = Err k
scan_answer (got a t) = Ok tt

-- a scanned payload whose outermost item is a map: how many pairs, and where they begin
abbrev pub map_head : ℕ → ℕ → MapHead
map_head n p = record { count = n; start = p }

abbrev pub map_answer : ℕ → Heading → List ℕ → Option MapHead
map_answer n h t = cond (eqb h.major 5) (Some (map_head h.argument (n - length t))) None

abbrev pub Opened : Type 0
Opened = Result (Option MapHead) Refusal

abbrev pub open_answer : ℕ → Outcome Item → Outcome Heading → Opened
open_answer n (refused k) h = Err k
open_answer n (got i u) (refused k) = Err k
open_answer n (got i u) (got h t) = Ok (map_answer n h t)

-- ---- the answers in the documents' numbers: a refusal's, and 0 where there is none; that an item is no map is no refusal yet
abbrev pub outcome_number : {A : Type 0} → Outcome A → ℕ
outcome_number (refused k) = number_of k
outcome_number (got a t) = 0

abbrev pub head_number : Result Head Refusal → ℕ
head_number (Err k) = number_of k
head_number (Ok h) = 0

abbrev pub skip_number : Result ℕ Refusal → ℕ
skip_number (Err k) = number_of k
skip_number (Ok p) = 0

abbrev pub opened_number : Opened → ℕ
opened_number (Err k) = number_of k
opened_number (Ok m) = 0

-- ---- writing
-- a head: RANGE where there is no such major type, then ROOM
abbrev pub head_plan : ℕ → ℕ → Plan
head_plan major n = cond (ltb 7 major) (refuse Range) (emit (shortest major n))
