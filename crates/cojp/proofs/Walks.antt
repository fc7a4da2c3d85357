-- What holds of an object before its pairs are read, and still holds where a label is passed over or the value of a label that is known and
-- comes first is taken, holds of what a payload gives.
use Prim.Native.Nat.{ℕ}
use mathlib.Core.Bool.{Bool, true, false, cond}
use mathlib.Core.Path.{◌≡◌, refl}
use mathlib.Core.List.{List}
use lib.Dec.{ltb}
use lib.ListN.{length}
use Rattle.refusal.specs.declared.Refusal.TheVariants as refusal
use Rattle.cbor.specs.Decode.{Outcome, Heading, payload_by}
use Rattle.cbor.specs.Decode as decode
use Rattle.cbor.specs.Item.{Item, Pairs, unsigned, negative, bytes, text, array, map_item, tag, simple, float, empty, pair}
use Rattle.cbor.specs.View.{View, label_of, view_of}
use Rattle.cbor.specs.declared.value.Label.{Label}
use Rattle.cbor.specs.declared.value.Label.TheVariants as label
use Rattle.cojp.specs.Reading.{Reading, refused, read, bind}
use Rattle.cojp.specs.Walk.{Form, known_read, pair_read, pairs_read, map_read, scanned_read, payload_read_by}
use Rattle.cojp.specs.declared.walk.LabelStatus.{LabelStatus}
use Rattle.cojp.specs.declared.walk.LabelStatus.TheVariants.{Unknown, First, Repeated}

-- P holds of what was read, where it was not refused
abbrev pub Gives : {S : Type 0} → (S → Type 0) → Reading S → Type 0
Gives P (refused k) = Unit {0}
Gives P (read s) = P s

module _ {S : Type 0} (F : Form S) (P : S → Type 0) (passing : (s : S) → P s → P (F.passing s))
    (taking : (s : S) → P s → (n : ℕ) → F.standing s n ≡ First → (v : View) → Gives P (F.taking s n v)) where
  known-gives : (s : S) → P s → (x : LabelStatus) (n : ℕ) → F.standing s n ≡ x → (v : View) → Gives P (known_read F x s n v)
  known-gives s h Unknown n e v = passing s h
  known-gives s h First n e v = taking s h n e v
  known-gives s h Repeated n e v = tt

  pair-gives : (s : S) → P s → (l : Label) (v : View) → Gives P (pair_read F s l v)
  pair-gives s h label.NoInteger v = tt
  pair-gives s h label.Negative v = passing s h
  pair-gives s h (label.Number n) v = known-gives s h (F.standing s n) n refl v

  onward-gives : (r : Reading S) (f : S → Reading S) → Gives P r → ((s : S) → P s → Gives P (f s)) → Gives P (bind r f)
  onward-gives (refused k) f p g = tt
  onward-gives (read s) f p g = g s p

  pairs-give : (s : S) → P s → (ps : Pairs) → Gives P (pairs_read F s ps)
  pairs-give s h empty = h
  pairs-give s h (pair k v ps) =
      onward-gives (pair_read F s (label_of k) (view_of v)) (λ t. pairs_read F t ps) (pair-gives s h (label_of k) (view_of v))
      (λ t g. pairs-give t g ps)

  map_gives : (s : S) → P s → (i : Item) → Gives P (map_read F s i)
  map_gives s h (map_item ps) = pairs-give s h ps
  map_gives s h (unsigned n) = tt
  map_gives s h (negative n) = tt
  map_gives s h (bytes b) = tt
  map_gives s h (text b) = tt
  map_gives s h (array is) = tt
  map_gives s h (tag n i) = tt
  map_gives s h (simple n) = tt
  map_gives s h (float w n) = tt

  scanned-gives : (s : S) → P s → (o : Outcome Item) → Gives P (scanned_read F s o)
  scanned-gives s h (decode.refused k) = tt
  scanned-gives s h (decode.got i t) = map_gives s h i

  -- whatever reader of heads the scan has
  pub payload-gives : (head : List ℕ → Outcome Heading) (s : S) → P s → (p : List ℕ) → Gives P (payload_read_by F head s p)
  unfolding payload_read_by
  payload-gives head s h p = go (ltb 256 (length p))
    where
      go : (b : Bool) → Gives P (cond b (refused refusal.Long) (scanned_read F s (payload_by head p)))
      go true = tt
      go false = scanned-gives s h (payload_by head p)
