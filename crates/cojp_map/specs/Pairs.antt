-- What Walk says of a map's pairs, said of the bytes that they are read from.
-- Where no item can be read these definitions go on with anything; a payload that passed the item scan has no such place.
use Rattle.std.specs.Prelude.{ℕ, zero, suc, Bool, true, false, cond, ◌≡◌, List, [], ◌∷◌, ltb, length, drop, Result, Ok, Err, Some, None}
use Rattle.refusal.specs.Order.{refused_if, in_order}
use Rattle.refusal.specs.Refusal.{number_of}
use Rattle.refusal.specs.declared.Refusal.{Refusal}
use Rattle.refusal.specs.declared.Refusal.TheVariants as refusal
use Rattle.cbor.specs.Answer.{Opened, open_answer}
use Rattle.cbor.specs.Decode.{Outcome, heading, payload_by}
use Rattle.cbor.specs.Decode as decode
use Rattle.cbor.specs.Item.{Item, Pairs}
use Rattle.cbor.specs.ReaderSpecs.{PairsAt}
use Rattle.cbor.specs.Strict.{head_by}
use Rattle.cbor.specs.View.{if_map, label_at}
use Rattle.cbor.specs.declared.item.MapHead.{MapHead}
use Rattle.cbor.specs.declared.value.Label.{Label}
use Rattle.cbor.specs.declared.value.Label.TheVariants as label
use Rattle.cojp.specs.Bytes.{value_view, after_value, Continues}
use Rattle.cojp.specs.Reading.{Reading, refused, read, read_by, bind}
use Rattle.cojp.specs.Walk.{Form, pair_read}
use Rattle.cojp.specs.declared.disposition.Disposition.{Disposition}
use Rattle.cojp.specs.declared.disposition.Disposition.TheVariants.{Absent, Taken, Discarded}

-- ---- opening, strictly or not: LONG, then what the scan says, then TYPE
abbrev pub start_of : Opened → Result MapHead Refusal
start_of (Err k) = Err k
start_of (Ok None) = Err refusal.«Type»
start_of (Ok (Some m)) = Ok m

unfoldable pub start_answer : Bool → List ℕ → Result MapHead Refusal
start_answer b s =
    cond (ltb 256 (length s)) (Err refusal.Long) (start_of (open_answer (length s) (payload_by (head_by b) s) (heading s)))

-- the pairs of the map, or why there are none
abbrev pub map_in : Outcome Item → Reading Pairs
map_in (decode.refused k) = refused k
map_in (decode.got i t) = if_map read (refused refusal.«Type») i

unfoldable pub pairs_in : Bool → List ℕ → Reading Pairs
pairs_in b s = cond (ltb 256 (length s)) (refused refusal.Long) (map_in (payload_by (head_by b) s))

-- what the answer says of them: the refusal, or that they stand from a place on
abbrev pub says_start : Bool → List ℕ → Result MapHead Refusal → Type 0
says_start b s (Err k) = pairs_in b s ≡ refused k
says_start b s (Ok m) = (ps : Pairs) × (pairs_in b s ≡ read ps) × PairsAt m.count (drop m.start s) ps

-- the answer in the documents' numbers: 0 where there is a map
abbrev pub payload_number : Result MapHead Refusal → ℕ
payload_number (Err k) = number_of k
payload_number (Ok m) = 0

-- the scan's number, then TYPE where the item is no map
abbrev pub map_number : Outcome Item → ℕ
map_number (decode.refused k) = number_of k
map_number (decode.got i t) = if_map (λ ps. 0) (number_of refusal.«Type») i

pub record StartSpec (b : Bool) (s : List ℕ) (r : Result MapHead Refusal) : Type 0 where
  pub is : r ≡ start_answer b s
  pub number : payload_number r
      ≡ in_order (refused_if (ltb 256 (length s)) (number_of refusal.Long) ∷ map_number (payload_by (head_by b) s) ∷ [])
  pub says : says_start b s r

-- ---- a label: TYPE where it is no integer; a negative one has the number 0, which no object knows
abbrev pub labelled : Label → Reading ℕ
labelled label.NoInteger = refused refusal.«Type»
labelled label.Negative = read 0
labelled (label.Number n) = read n

-- what an answer about a label says, s being the payload and l what is left of it from the label on: beside it the value begins
pub record PairLabelSpec (s l : List ℕ) (r : Result (ℕ × ℕ) Refusal) : Type 0 where
  pub is : read_by r ≡ labelled (label_at l)
  pub rest : Continues s r (after_value l)

-- ---- a known label comes again if its parameter was taken or discarded
abbrev pub seen : Disposition → Bool
seen Absent = false
seen Taken = true
seen Discarded = true

abbrev pub once : {A : Type 0} → Bool → Reading A → Reading A
once again x = cond again (refused refusal.Twice) x

-- ---- the walk over the next n pairs
unfoldable pub walk_at : {S : Type 0} → Form S → ℕ → S → List ℕ → Reading S
walk_at F zero s l = read s
walk_at F (suc n) s l =
    bind (pair_read F s (label_at l) (value_view (after_value l))) (λ d. walk_at F n d (after_value (after_value l)))
