-- What is read of bytes fits the heads that are written, and written again with the shortest heads it takes no more bytes than were read.
use Prim.Native.Nat.{ℕ, zero, suc, ◌+◌, ◌^◌, ◌≤◌, ◌<◌}
use native.Mathlib.Omega.{arith}
use mathlib.Core.Path.{◌≡◌, refl, ap, subst}
use mathlib.Core.Bool.{Bool, true, false, cond}
use mathlib.Core.List.Memᴰ
use mathlib.Core.List.{List, [], ◌∷◌, Memᴰ}
use lib.Dec.{leb, ltb, eqb}
use lib.ListN.{length, take, drop, length-append, length-take, length-drop}
use borrow.Author.Tests.{leb-true}
use Rattle.refusal.specs.declared.Refusal.TheVariants.{Cut}
use Rattle.cbor.specs.Decode.{Outcome, refused, got, and_then, next, Heading, heading, Major, unsigneds}
use Rattle.cbor.specs.Decode.{negatives, byte_strings, text_strings, arrays, maps, tags, others}
use Rattle.cbor.specs.Decode.{major_of, members, pairs, special, content, decode_by, decode, ended, payload_by}
use Rattle.cbor.specs.Encode.{extra_of}
use Rattle.cbor.specs.HeadLaws.{HeadLaws}
use Rattle.cbor.specs.Item.{half, single, double, Item, Items, Pairs, unsigned, negative}
use Rattle.cbor.specs.Item.{bytes, text, array, map_item, tag, simple, float, more, empty, pair}
use Rattle.cbor.specs.Laws.{Suffix, Bytes, ItemLaws}
use Rattle.cbor.specs.View.{Scalar, number, minus, string, other, ScalarValid, View, scalar, list}
use Rattle.cbor.specs.View.{scalar_of, scalars_of, view_of, string_of, scalar_by, scalar_head, scalar_at}

-- ---- how many bytes they take with shortest heads
abbrev pub head_size : ℕ → ℕ
head_size n = extra_of n + 1

abbrev pub plain_size : Scalar → ℕ
plain_size (number n) = head_size n
plain_size (minus n) = head_size n
plain_size (string s) = head_size (length s) + length s
plain_size other = 1

abbrev pub plains_size : List Scalar → ℕ
plains_size [] = 0
plains_size (p ∷ ps) = plain_size p + plains_size ps

abbrev pub view_size : View → ℕ
view_size (scalar p) = plain_size p
view_size (list ps) = head_size (length ps) + plains_size ps

-- the values of pairs, each with a label
abbrev pub pairs_size : Pairs → ℕ
pairs_size empty = 0
pairs_size (pair k v ps) = 1 + view_size (view_of v) + pairs_size ps

pub plain-least : (p : Scalar) → 1 ≤ plain_size p
plain-least (number n) = omega arith
plain-least (minus n) = omega arith
plain-least (string s) = omega arith
plain-least other = omega arith

-- ---- what fits
abbrev pub PlainsFit : List Scalar → Type 0
PlainsFit [] = Unit {0}
PlainsFit (p ∷ ps) = ScalarValid p × PlainsFit ps

abbrev pub ViewFits : View → Type 0
ViewFits (scalar p) = ScalarValid p
ViewFits (list ps) = PlainsFit ps

abbrev pub ValuesFit : Pairs → Type 0
ValuesFit empty = Unit {0}
ValuesFit (pair k v ps) = ViewFits (view_of v) × ValuesFit ps

-- ---- bytes are bytes in every part
bytes_after : {n : ℕ} (t s : List ℕ) → Suffix n t s → Bytes s → Bytes t
bytes_after t s f b x m = b x (rw f.whole (Memᴰ.append_right f.front m))

suffix-long : {n : ℕ} (t s : List ℕ) → Suffix n t s → n + length t ≤ length s
suffix-long t s f = omega (arith, ap length f.whole, length-append f.front t, f.least)

-- the pairs of a map
abbrev pub MapFits : Item → Type 0
MapFits (unsigned n) = Unit {0}
MapFits (negative n) = Unit {0}
MapFits (bytes s) = Unit {0}
MapFits (text s) = Unit {0}
MapFits (array is) = Unit {0}
MapFits (map_item ps) = ValuesFit ps
MapFits (tag n i) = Unit {0}
MapFits (simple n) = Unit {0}
MapFits (float w n) = Unit {0}

abbrev pub map_size : Item → ℕ
map_size (unsigned n) = 0
map_size (negative n) = 0
map_size (bytes s) = 0
map_size (text s) = 0
map_size (array is) = 0
map_size (map_item ps) = 1 + pairs_size ps
map_size (tag n i) = 0
map_size (simple n) = 0
map_size (float w n) = 0

-- ---- an item of s, and what is left
pub record Read (s : List ℕ) (i : Item) (t : List ℕ) : Type 0 where
  pub fits : ViewFits (view_of i)
  pub size : view_size (view_of i) + length t ≤ length s
  pub member-fits : ScalarValid (scalar_of i)
  pub member-size : plain_size (scalar_of i) + length t ≤ length s
  pub pairs-fit : MapFits i
  pub pairs-size : map_size i + length t ≤ length s
  pub left : Bytes t

-- an item that is no number, string, array or map: a byte at least
rest_read : (s : List ℕ) (i : Item) (t : List ℕ) → view_of i ≡ scalar other → scalar_of i ≡ other → MapFits i → map_size i ≡ 0 → Bytes t →
    1 + length t ≤ length s → Read s i t
rest_read s i t v p f z b l = record {
  fits = rw v tt;
  size = rw v l;
  member-fits = rw p tt;
  member-size = rw p l;
  pairs-fit = f;
  pairs-size = omega arith;
  left = b;
}

special-read : (s : List ℕ) (info n : ℕ) (t : List ℕ) → Bytes t → 1 + length t ≤ length s → Read s (special info n) t
special-read s info n t b l = by (ltb info 25) (eqb info 25) (eqb info 26)
  where
    by : (x y z : Bool) → Read s (cond x (simple n) (cond y (float half n) (cond z (float single n) (float double n)))) t
    by true y z = rest_read s (simple n) t refl refl tt refl b l
    by false true z = rest_read s (float half n) t refl refl tt refl b l
    by false false true = rest_read s (float single n) t refl refl tt refl b l
    by false false false = rest_read s (float double n) t refl refl tt refl b l

-- ---- members and pairs
pub record MembersRead (n : ℕ) (s : List ℕ) (is : Items) (t : List ℕ) : Type 0 where
  pub fit : PlainsFit (scalars_of is)
  pub many : length (scalars_of is) ≡ n
  pub size : plains_size (scalars_of is) + length t ≤ length s
  pub left : Bytes t

pub record PairsRead (s : List ℕ) (ps : Pairs) (t : List ℕ) : Type 0 where
  pub fit : ValuesFit ps
  pub size : pairs_size ps + length t ≤ length s
  pub left : Bytes t

abbrev Gets : {A : Type 0} → (A → List ℕ → Type 0) → Outcome A → Type 0
Gets P (refused k) = Unit {0}
Gets P (got a t) = P a t

and-gets : {A B : Type 0} (P : A → List ℕ → Type 0) (Q : B → List ℕ → Type 0) (o : Outcome A) (f : A → List ℕ → Outcome B) → Gets P o →
    ((a : A) (t : List ℕ) → P a t → Gets Q (f a t)) → Gets Q (and_then o f)
and-gets P Q (refused k) f h g = tt
and-gets P Q (got a t) f h g = g a t h

module _ (item : List ℕ → Outcome Item) (reads : (s : List ℕ) → Bytes s → Gets (Read s) (item s)) where
  members-read : (n : ℕ) (s : List ℕ) → Bytes s → Gets (MembersRead n s) (members item n s)
  unfolding members
  members-read zero s b = record { fit = tt; many = refl; size = omega arith; left = b }
  members-read (suc n) s b =
      and-gets (Read s) (MembersRead (suc n) s) (item s) (λ i t. and_then (members item n t) (λ is u. got (more i is) u)) (reads s b)
      (λ i t h. and-gets (MembersRead n t) (MembersRead (suc n) s) (members item n t) (λ is u. got (more i is) u)
      (members-read n t h.left)
      (λ is u g. record {
        fit = (h.member-fits, g.fit);
        many = ap suc g.many;
        size = omega (arith, h.member-size, g.size);
        left = g.left;
      }))

  pairs-read : (n : ℕ) (s : List ℕ) → Bytes s → Gets (PairsRead s) (pairs item n s)
  unfolding pairs
  pairs-read zero s b = record { fit = tt; size = omega arith; left = b }
  pairs-read (suc n) s b =
      and-gets (Read s) (PairsRead s) (item s) (λ k t. and_then (item t) (λ v u. and_then (pairs item n u) (λ ps w. got (pair k v ps) w)))
      (reads s b)
      (λ k t h. and-gets (Read t) (PairsRead s) (item t) (λ v u. and_then (pairs item n u) (λ ps w. got (pair k v ps) w)) (reads t h.left)
      (λ v u g. and-gets (PairsRead u) (PairsRead s) (pairs item n u) (λ ps w. got (pair k v ps) w) (pairs-read n u g.left)
      (λ ps w f. record {
        fit = (g.fits, f.fit);
        size = omega (arith, f.size, g.size, h.member-size, plain-least (scalar_of k));
        left = f.left;
      })))

-- ---- strings
dropped : (n : ℕ) (s : List ℕ) (x : ℕ) → Memᴰ x (drop n s) → Memᴰ x s
dropped zero s x m = m
dropped (suc n) [] x m = m
dropped (suc n) (y ∷ s) x m = Memᴰ.tail (dropped n s x m)

record StringRead (n : ℕ) (s bs t : List ℕ) : Type 0 where
  long : length bs ≡ n
  size : n + length t ≤ length s
  left : Bytes t
  fits : length bs < 2 ^ 64

next-read : (n : ℕ) (s : List ℕ) → Bytes s → ScalarValid (string_of (next n s)) → Gets (StringRead n s) (next n s)
unfolding next
next-read n s b = by (leb n (length s)) refl
  where
    by : (x : Bool) → leb n (length s) ≡ x → ScalarValid (string_of (cond x (got (take n s) (drop n s)) (refused Cut))) →
        Gets (StringRead n s) (cond x (got (take n s) (drop n s)) (refused Cut))
    by false e f = tt
    by true e f =
        let room = leb-true n (length s) e in
        record {
          long = omega (arith, length-take n s);
          size = omega (arith, length-drop n s);
          left = λ x m. b x (dropped n s x m);
          fits = f;
        }

text-read : (n : ℕ) (s : List ℕ) → Bytes s → Gets (λ (bs t : List ℕ). (length t ≤ length s) × Bytes t) (next n s)
unfolding next
text-read n s b = by (leb n (length s))
  where
    by : (x : Bool) → Gets (λ (bs t : List ℕ). (length t ≤ length s) × Bytes t) (cond x (got (take n s) (drop n s)) (refused Cut))
    by false = tt
    by true = (omega (arith, length-drop n s), λ x m. b x (dropped n s x m))

-- ---- what follows a head
module _ (item : List ℕ → Outcome Item) (reads : (s : List ℕ) → Bytes s → Gets (Read s) (item s)) where
  content-read : (m : Major) (info n : ℕ) (whole s : List ℕ) → head_size n + length s ≤ length whole → ScalarValid (scalar_by m n s) →
      Bytes s →
      Gets (Read whole) (content item m info n s)
  content-read unsigneds info n whole s l f b =
      record { fits = f; size = l; member-fits = f; member-size = l; pairs-fit = tt; pairs-size = omega arith; left = b }
  content-read negatives info n whole s l f b =
      record { fits = f; size = l; member-fits = f; member-size = l; pairs-fit = tt; pairs-size = omega arith; left = b }
  content-read byte_strings info n whole s l f b =
      and-gets (StringRead n s) (Read whole) (next n s) (λ bs t. got (bytes bs) t) (next-read n s b f)
      (λ bs t h.
      let small : head_size (length bs) + length bs + length t ≤ length whole = rw h.long (omega (arith, h.size)) in
      record {
        fits = h.fits;
        size = small;
        member-fits = h.fits;
        member-size = small;
        pairs-fit = tt;
        pairs-size = omega arith;
        left = h.left;
      })
  content-read text_strings info n whole s l f b =
      and-gets (λ (bs t : List ℕ). (length t ≤ length s) × Bytes t) (Read whole) (next n s) (λ bs t. got (text bs) t) (text-read n s b)
      (λ bs t h. rest_read whole (text bs) t refl refl tt refl h.1 (omega (arith, h.0)))
  content-read arrays info n whole s l f b =
      and-gets (MembersRead n s) (Read whole) (members item n s) (λ is t. got (array is) t) (members-read item reads n s b)
      (λ is t h. record {
        fits = h.fit;
        size = rw h.many (omega (arith, h.size));
        member-fits = tt;
        member-size = omega (arith, h.size);
        pairs-fit = tt;
        pairs-size = omega (arith, h.size);
        left = h.left;
      })
  content-read maps info n whole s l f b =
      and-gets (PairsRead s) (Read whole) (pairs item n s) (λ ps t. got (map_item ps) t) (pairs-read item reads n s b)
      (λ ps t h. record {
        fits = tt;
        size = omega (arith, h.size);
        member-fits = tt;
        member-size = omega (arith, h.size);
        pairs-fit = h.fit;
        pairs-size = omega (arith, h.size);
        left = h.left;
      })
  content-read tags info n whole s l f b =
      and-gets (Read s) (Read whole) (item s) (λ i t. got (tag n i) t) (reads s b)
      (λ i t h. rest_read whole (tag n i) t refl refl tt refl h.left (omega (arith, h.member-size)))
  content-read others info n whole s l f b = special-read whole info n s b (omega arith)

-- ---- an item, and a payload
-- the pairs of a payload p
pub record Whole (p : List ℕ) (ps : Pairs) : Type 0 where
  pub fit : ValuesFit ps
  pub size : 1 + pairs_size ps ≤ length p

module _ (laws : ItemLaws) (H : HeadLaws) where
  head_read : (s : List ℕ) → Bytes s → (o : Outcome Heading) → heading s ≡ o → ScalarValid (scalar_head o) → (d : ℕ) →
      ((u : List ℕ) → Bytes u → Gets (Read u) (decode d u)) →
      Gets (Read s) (and_then o (λ h t. content (λ u. decode_by heading d u) (major_of h.major) h.info h.argument t))
  head_read s b (refused k) e f d reads = tt
  head_read s b (got h t) e f d reads =
      let after = laws.head-shortest s h t b e in
      content-read (λ u. decode_by heading d u) reads (major_of h.major) h.info h.argument s t
      (omega (arith, suffix-long t s after, H.length-head h.major h.argument)) f (bytes_after t s after b)

  decode-read : (d : ℕ) (s : List ℕ) → Bytes s → Gets (Read s) (decode d s)
  unfolding decode_by scalar_at
  decode-read zero s b = tt
  decode-read (suc d) s b = head_read s b (heading s) refl (laws.plain_fits s b) d (decode-read d)

  pub payload-map : (p : List ℕ) → Bytes p → (ps : Pairs) (t : List ℕ) → payload_by heading p ≡ got (map_item ps) t → Whole p ps
  unfolding payload_by
  payload-map p b ps t e = by (decode 8 p) (decode-read 8 p b) e
    where
      ends : (i : Item) (u : List ℕ) → Read p i u → ended i u ≡ got (map_item ps) t → Whole p ps
      ends i [] h q =
          let same : i ≡ map_item ps = cc in
          record { fit = subst MapFits same h.pairs-fit; size = omega (arith, ap map_size same, h.pairs-size) }
      ends i (x ∷ u) h q = absurd (let z : ◌≡◌ {A = ℕ} 0 1 = cc in omega arith)

      by : (o : Outcome Item) → Gets (Read p) o → and_then o ended ≡ got (map_item ps) t → Whole p ps
      by (refused k) h q = absurd (let z : ◌≡◌ {A = ℕ} 0 1 = cc in omega arith)
      by (got i u) h q = ends i u h q
