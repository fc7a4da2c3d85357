-- What is taken of each value fits, and takes no more bytes than the value and its label did: so it is with the whole payload.
use Prim.Native.Nat.{ℕ, ◌+◌, ◌≤◌}
use native.Mathlib.Omega.{arith}
use mathlib.Core.Path.{◌≡◌, refl}
use mathlib.Core.Bool.{Bool, true, false, cond}
use mathlib.Core.List.{List}
use lib.Dec.{ltb}
use lib.ListN.{length}
use borrow.Author.Tests.{ltb-false}
use Rattle.refusal.specs.declared.Refusal.TheVariants as refusal
use Rattle.cbor.specs.Decode.{Outcome, heading, payload_by}
use Rattle.cbor.specs.Decode as decode
use Rattle.cbor.specs.HeadLaws.{HeadLaws}
use Rattle.cbor.specs.Item.{Item, Pairs, unsigned, negative, bytes, text, array, map_item, tag, simple, float, empty, pair}
use Rattle.cbor.specs.Laws.{Bytes, ItemLaws}
use Rattle.cbor.specs.View.{View, label_of, view_of}
use Rattle.cbor.specs.declared.value.Label.{Label}
use Rattle.cbor.specs.declared.value.Label.TheVariants as label
use Rattle.cojp.proofs.Walks.{Gives}
use Rattle.cojp.specs.Reading.{Reading, refused, read, bind}
use Rattle.cojp.specs.Walk.{Form, known_read, pair_read, pairs_read, scanned_read, payload_read_by}
use Rattle.cojp.specs.declared.walk.LabelStatus.{LabelStatus}
use Rattle.cojp.specs.declared.walk.LabelStatus.TheVariants.{Unknown, First, Repeated}
use Rattle.cojp_rfc9031_laws.proofs.Items.{view_size, pairs_size, ViewFits, ValuesFit, Whole, payload-map}

-- what holds of a payload's object, `used` bytes after the map's head being enough for it
pub record Within {S : Type 0} (R : ℕ → S → Type 0) (p : List ℕ) (s : S) : Type 0 where
  pub used : ℕ
  pub room : 1 + used ≤ length p
  pub short : length p ≤ 256
  pub holds : R used s

module _ {S : Type 0} (F : Form S) (R : ℕ → S → Type 0)
    (wider : (m n : ℕ) (s : S) → m ≤ n → R m s → R n s)
    (passing : (m : ℕ) (s : S) → R m s → R m (F.passing s))
    (taking : (m : ℕ) (s : S) → R m s → (n : ℕ) → F.standing s n ≡ First → (v : View) → ViewFits v →
    Gives (R (m + (1 + view_size v))) (F.taking s n v)) where
  known-bound : (m : ℕ) (s : S) → R m s → (x : LabelStatus) (n : ℕ) → F.standing s n ≡ x → (v : View) → ViewFits v →
      Gives (R (m + (1 + view_size v))) (known_read F x s n v)
  known-bound m s h Unknown n e v f = wider m (m + (1 + view_size v)) (F.passing s) (omega arith) (passing m s h)
  known-bound m s h First n e v f = taking m s h n e v f
  known-bound m s h Repeated n e v f = tt

  pair-bound : (m : ℕ) (s : S) → R m s → (l : Label) (v : View) → ViewFits v → Gives (R (m + (1 + view_size v))) (pair_read F s l v)
  pair-bound m s h label.NoInteger v f = tt
  pair-bound m s h label.Negative v f = wider m (m + (1 + view_size v)) (F.passing s) (omega arith) (passing m s h)
  pair-bound m s h (label.Number n) v f = known-bound m s h (F.standing s n) n refl v f

  pairs-bound : (ps : Pairs) → ValuesFit ps → (m : ℕ) (s : S) → R m s → Gives (R (m + pairs_size ps)) (pairs_read F s ps)
  pairs-bound empty f m s h = wider m (m + 0) s (omega arith) h
  pairs-bound (pair k v ps) f m s h =
      by (pair_read F s (label_of k) (view_of v)) (pair-bound m s h (label_of k) (view_of v) f.0) (λ n t g. pairs-bound ps f.1 n t g)
    where
      wide : (r : Reading S) → Gives (R (m + (1 + view_size (view_of v)) + pairs_size ps)) r → Gives (R (m + pairs_size (pair k v ps))) r
      wide (refused x) g = tt
      wide (read t) g = wider (m + (1 + view_size (view_of v)) + pairs_size ps) (m + pairs_size (pair k v ps)) t (omega arith) g

      by : (r : Reading S) → Gives (R (m + (1 + view_size (view_of v)))) r →
          ((n : ℕ) (t : S) → R n t → Gives (R (n + pairs_size ps)) (pairs_read F t ps)) →
          Gives (R (m + pairs_size (pair k v ps))) (bind r (λ t. pairs_read F t ps))
      by (refused x) g rest = tt
      by (read t) g rest = wide (pairs_read F t ps) (rest (m + (1 + view_size (view_of v))) t g)

  module _ (laws : ItemLaws) (H : HeadLaws) (s : S) (h : R 0 s) (p : List ℕ) (b : Bytes p) where
    map-bound : (ps : Pairs) → length p ≤ 256 → Whole p ps → Gives (Within R p) (pairs_read F s ps)
    map-bound ps short w = by (pairs_read F s ps) (pairs-bound ps w.fit 0 s h)
      where
        by : (r : Reading S) → Gives (R (0 + pairs_size ps)) r → Gives (Within R p) r
        by (refused k) g = tt
        by (read t) g = record { used = 0 + pairs_size ps; room = omega (arith, w.size); short = short; holds = g }

    scan-bound : length p ≤ 256 → (o : Outcome Item) → payload_by heading p ≡ o → Gives (Within R p) (scanned_read F s o)
    scan-bound short (decode.refused k) e = tt
    scan-bound short (decode.got (map_item ps) t) e = map-bound ps short (payload-map laws H p b ps t e)
    scan-bound short (decode.got (unsigned n) t) e = tt
    scan-bound short (decode.got (negative n) t) e = tt
    scan-bound short (decode.got (bytes x) t) e = tt
    scan-bound short (decode.got (text x) t) e = tt
    scan-bound short (decode.got (array is) t) e = tt
    scan-bound short (decode.got (tag n i) t) e = tt
    scan-bound short (decode.got (simple n) t) e = tt
    scan-bound short (decode.got (float w n) t) e = tt

    pub payload-bound : Gives (Within R p) (payload_read_by F heading s p)
    unfolding payload_read_by
    payload-bound = by (ltb 256 (length p)) refl
      where
        by : (x : Bool) → ltb 256 (length p) ≡ x →
            Gives (Within R p) (cond x (refused refusal.Long) (scanned_read F s (payload_by heading p)))
        by true e = tt
        by false e = scan-bound (ltb-false 256 (length p) e) (payload_by heading p) refl
