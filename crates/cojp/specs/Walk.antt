-- An object's payload is a map. Its pairs are read in payload order up to the first refusal, each with label kind, repetition,
-- value kind, content; this is shared by all objects, which differ in what they gather and in the labels that they know.
use Rattle.std.specs.Prelude.{ℕ, cond, List, ltb, length}
use Rattle.refusal.specs.declared.Refusal.TheVariants as refusal
use Rattle.cbor.specs.Item.{Item, Pairs, empty, pair}
use Rattle.cbor.specs.Decode.{Outcome, Heading, heading, payload_by}
use Rattle.cbor.specs.Decode as decode
use Rattle.cbor.specs.View.{View, label_of, view_of, if_map}
use Rattle.cbor.specs.declared.value.Label.{Label}
use Rattle.cbor.specs.declared.value.Label.TheVariants as label
use Rattle.cojp.specs.Reading.{Reading, refused, read, bind}
use Rattle.cojp.specs.declared.disposition.Disposition.{Disposition}
use Rattle.cojp.specs.declared.disposition.Disposition.TheVariants.{Absent, Taken, Discarded}
use Rattle.cojp.specs.declared.walk.LabelStatus.{LabelStatus}
use Rattle.cojp.specs.declared.walk.LabelStatus.TheVariants.{Unknown, First, Repeated}

-- what an object makes of its pairs, S being what is gathered
pub record Form (S : Type 0) : Type 0 where
  -- of a label: unknown, known and not yet seen, known and seen before
  pub standing : S → ℕ → LabelStatus
  -- one label more was passed over
  pub passing : S → S
  -- the value of a known label: its kind, then its content
  pub taking : S → ℕ → View → Reading S

-- a known label was seen before if its parameter was taken or discarded
abbrev pub label_status_of : Disposition → LabelStatus
label_status_of Absent = First
label_status_of Taken = Repeated
label_status_of Discarded = Repeated

module _ {S : Type 0} (F : Form S) where
  abbrev pub known_read : LabelStatus → S → ℕ → View → Reading S
  known_read Unknown s n v = read (F.passing s)
  known_read First s n v = F.taking s n v
  known_read Repeated s n v = refused refusal.Twice

  -- a label is an integer; a negative one is unknown
  abbrev pub pair_read : S → Label → View → Reading S
  pair_read s label.NoInteger v = refused refusal.«Type»
  pair_read s label.Negative v = read (F.passing s)
  pair_read s (label.Number n) v = known_read (F.standing s n) s n v

  abbrev pub pairs_read : S → Pairs → Reading S
  pairs_read s empty = read s
  pairs_read s (pair k v ps) = bind (pair_read s (label_of k) (view_of v)) (λ t. pairs_read t ps)

  -- the outermost item is a map
  abbrev pub map_read : S → Item → Reading S
  map_read s i = if_map (pairs_read s) (refused refusal.«Type») i

  abbrev pub scanned_read : S → Outcome Item → Reading S
  scanned_read s (decode.refused k) = refused k
  scanned_read s (decode.got i t) = map_read s i

  -- a payload is at most 256 bytes long; then comes the item scan, its heads read by `head`, then the map
  unfoldable pub payload_read_by : (List ℕ → Outcome Heading) → S → List ℕ → Reading S
  payload_read_by head s p = cond (ltb 256 (length p)) (refused refusal.Long) (scanned_read s (payload_by head p))

  abbrev pub payload_read : S → List ℕ → Reading S
  payload_read s p = payload_read_by heading s p
