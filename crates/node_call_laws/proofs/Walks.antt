-- What is gathered of a payload's bytes fits, for configurations and join requests alike: each pair of the map leaves what fits, or is
-- counted as passed over, and there are fewer pairs than eight bytes count.
use Prim.Native.Nat.{ℕ, suc, ◌+◌, ◌^◌, ◌<◌}
use mathlib.Core.Path.{refl}
use mathlib.Core.Bool.{Bool}
use mathlib.Core.List.{List}
use lib.Dec.{ltb}
use lib.ListN.{length}
use Rattle.image.specs.Part.{AllBytes}
use Rattle.cbor.specs.Decode as decode
use Rattle.cbor.specs.Decode.{Outcome, payload_by}
use Rattle.cbor.specs.Item.{Item, Pairs, unsigned, negative, bytes, text, array, map_item, tag, simple, float}
use Rattle.cbor.specs.Strict.{head_by}
use Rattle.cbor.specs.View.{View, label_of, view_of}
use Rattle.cbor.specs.declared.value.Label.{Label}
use Rattle.cbor.specs.declared.value.Label.TheVariants as label
use Rattle.cojp.specs.Reading.{Reading, refused, read, bind, map_reading, by_version_of}
use Rattle.cojp.specs.Walk.{Form, known_read, pair_read, pairs_read, map_read, scanned_read, payload_read_by}
use Rattle.protocol_version.specs.declared.Version.{Version}
use Rattle.protocol_version.specs.declared.Version.TheVariants.{Draft, Published}
use Rattle.node_call_laws.proofs.Items.{Word, ViewOk, PairsOk, no_pairs, a_pair, Ok, OutOk, payload-ok}
use Rattle.node_call_laws.proofs.Lists.{by_cond}
use Rattle.node_call_laws.proofs.Parameters.{ReadOk}

pub put-ok : {A B : Type 0} (P : A → Type 0) (Q : B → Type 0) (f : A → B) (r : Reading A) → ReadOk P r → ((a : A) → P a → Q (f a))
    → ReadOk Q (map_reading f r)
put-ok P Q f (refused k) h g = refl
put-ok P Q f (read a) h g = g a h

pub onward-ok : {A B : Type 0} (P : A → Type 0) (Q : B → Type 0) (r : Reading A) (f : A → Reading B) → ReadOk P r
    → ((a : A) → P a → ReadOk Q (f a))
    → ReadOk Q (bind r f)
onward-ok P Q (refused k) f h g = refl
onward-ok P Q (read a) f h g = g a h

pub following-ok : {A : Type 0} (P : A → Type 0) (v : Version) (bad : A) (r : Reading A) → P bad → ReadOk P r
    → ReadOk P (by_version_of v bad r)
following-ok P Draft bad r b h = h
following-ok P Published bad (refused k) b h = b
following-ok P Published bad (read a) b h = h

-- what fits, and so many more labels can be counted as passed over
abbrev pub Fitting : {S : Type 0} → (S → Type 0) → (S → ℕ) → ℕ → S → Type 0
Fitting Fits passed m s = Fits s × (passed s + m < 256 ^ 8)

module _ {S : Type 0} (F : Form S) (Fits : S → Type 0) (passed : S → ℕ)
    (passes : (s : S) (m : ℕ) → Fitting Fits passed (suc m) s → Fitting Fits passed m (F.passing s))
    (known : (s : S) (n m : ℕ) (x : View) → ViewOk x → Fitting Fits passed (suc m) s
    → ReadOk (Fitting Fits passed m) (known_read F (F.standing s n) s n x))
  where
    pair_ok : (s : S) (m : ℕ) (k : Label) (x : View) → ViewOk x → Fitting Fits passed (suc m) s
        → ReadOk (Fitting Fits passed m) (pair_read F s k x)
    pair_ok s m label.NoInteger x h f = refl
    pair_ok s m label.Negative x h f = passes s m f
    pair_ok s m (label.Number n) x h f = known s n m x h f

    pairs-read : (m : ℕ) (ps : Pairs) → PairsOk m ps → (s : S) → Fitting Fits passed m s → ReadOk Fits (pairs_read F s ps)
    pairs-read m ps no_pairs s f = f.0
    pairs-read m ps (a_pair {n = n} {k = k} {v = i} {ps = qs} h g) s f =
        onward-ok (Fitting Fits passed n) Fits (pair_read F s (label_of k) (view_of i)) _ (pair_ok s n (label_of k) (view_of i) h f)
        (λ t e. pairs-read n qs g t e)

    module _ (begin : S) (begins : (m : ℕ) → Word m → Fitting Fits passed m begin) where
      map-ok : (i : Item) → Ok i → ReadOk Fits (map_read F begin i)
      map-ok (unsigned n) h = refl
      map-ok (negative n) h = refl
      map-ok (bytes s) h = refl
      map-ok (text s) h = refl
      map-ok (array is) h = refl
      map-ok (map_item ps) h = let fits = h.1.1 in pairs-read fits.most ps fits.each begin (begins fits.most fits.small)
      map-ok (tag n i) h = refl
      map-ok (simple n) h = refl
      map-ok (float w n) h = refl

      scanned-ok : (o : Outcome Item) → OutOk Ok o → ReadOk Fits (scanned_read F begin o)
      scanned-ok (decode.refused k) h = refl
      scanned-ok (decode.got i t) h = map-ok i h.0

      pub payload-read : (strict : Bool) (p : List ℕ) → AllBytes p → ReadOk Fits (payload_read_by F (head_by strict) begin p)
      unfolding payload_read_by
      payload-read strict p b =
          by_cond (ReadOk Fits) (ltb 256 (length p)) (λ _. refl) (λ _. scanned-ok (payload_by (head_by strict) p) (payload-ok strict p b))
