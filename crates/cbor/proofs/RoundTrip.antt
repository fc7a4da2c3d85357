-- What was encoded is read back: a head by its length information, an item by its parts.
-- Shown for every reader of heads that reads the written ones.
use Prim.Native.Nat.{ℕ, suc, ◌+◌, ◌*◌, ◌-◌, ◌/◌, ◌%◌, ◌^◌, ◌≤◌, ◌<◌}
use mathlib.Core.Path.{◌≡◌, refl, ap, ◌∙◌}
use mathlib.Core.Bool.{Bool, true, false, cond}
use lib.Dec.{eqb}
use mathlib.Core.List.{List, [], ◌∷◌, ◌++◌, append_assoc, append-nil}
use native.Mathlib.Omega.{arith}
use native.Mathlib.Decide.{dec_lt}
use borrow.Author.Tests.{le-ltb, lt-ltb, eq-eqb}
use lib.ListN.{length, length-append}
use lib.Seq.{take-append_seam, drop-append_seam, take_at, drop_at}
use Rattle.byte_io.specs.BigEndian.{bytes_of}
use Rattle.cbor.specs.Item.{Size, half, single, double, Item, Items, Pairs, unsigned, negative, bytes, text, array, map_item}
use Rattle.cbor.specs.Item.{tag, simple, float, no_items, more, empty, pair}
use Rattle.cbor.specs.Item.{count, count_pairs, depth, depths, depth_pairs, width, Fit, Fits, FitPairs}
use Rattle.cbor.specs.Decode.{Outcome, got, and_then, next, argument, heading, Heading}
use Rattle.cbor.specs.Decode.{members, pairs, major_of, content, decode_by, payload_by}
use Rattle.cbor.specs.Strict.{is_short, strict_heading, head_by}
use Rattle.cbor.specs.Encode.{head_with, info_of, extra_of, shortest, size_info, encode, encodes, encode_pairs}
use Rattle.byte_io.specs.BigEndianLemmas.{length-bytes_of, digits-bytes_of}
use Rattle.cbor.proofs.Heads.{next-got, argument-direct, argument-wide}

next-all : (s r : List ℕ) → next (length s) (s ++ r) ≡ got s r
next-all s r = next-got (length s) (s ++ r) (omega (arith, length-append s r)) ∙ rw (take-append_seam s r, drop-append_seam s r)

wide_read : (k w n : ℕ) (r : List ℕ) → 24 ≤ k → k ≤ 27 → 2 ^ (k - 24) ≡ w → n < 256 ^ w → argument k (bytes_of w n ++ r) ≡ got n r
wide_read k w n r l h e b =
    argument-wide k (bytes_of w n ++ r) l h
    ∙ rw (
      e,
      next-got w (bytes_of w n ++ r) (omega (arith, length-append (bytes_of w n) r, length-bytes_of w n)),
      take_at (bytes_of w n) r w (length-bytes_of w n),
      drop_at (bytes_of w n) r w (length-bytes_of w n),
    )
    (ap (λ (x : ℕ). got x r) (digits-bytes_of w 0 n b ∙ omega arith))

-- a head with k bytes of argument after the first
heading-byte : (m k : ℕ) (t : List ℕ) → k < 32
    → heading ((m * 32 + k) ∷ t) ≡ and_then (argument k t) (λ n u. got (record { major = m; info = k; argument = n }) u)
unfolding heading
heading-byte m k t h =
    let e : (m * 32 + k) % 32 ≡ k = omega arith in
    let f : (m * 32 + k) / 32 ≡ m = omega arith in
    rw (e, f)

head-wide : (m k w n : ℕ) (r : List ℕ) → 24 ≤ k → k ≤ 27 → 2 ^ (k - 24) ≡ w → n < 256 ^ w
    → heading (head_with m k w n ++ r) ≡ got (record { major = m; info = k; argument = n }) r
head-wide m k w n r l h e b = heading-byte m k (bytes_of w n ++ r) (omega arith) ∙ rw (wide_read k w n r l h e b)

pub head_read : (m n : ℕ) (r : List ℕ) → n < 2 ^ 64
    → heading (shortest m n ++ r) ≡ got (record { major = m; info = info_of n; argument = n }) r
unfolding shortest info_of extra_of bytes_of
head_read m n r h = go (dec_lt n 24) (dec_lt n 256) (dec_lt n 65536) (dec_lt n 4294967296)
  where
    go : Dec (n < 24) → Dec (n < 256) → Dec (n < 65536) → Dec (n < 4294967296)
        → heading (shortest m n ++ r) ≡ got (record { major = m; info = info_of n; argument = n }) r
    go (yes a) b c d = simp (lt-ltb n 24 a) (heading-byte m n r (omega arith) ∙ rw (argument-direct n r a))
    go (no a) (yes b) c d =
        let a' : 24 ≤ n = omega arith in
        simp (le-ltb n 24 a', lt-ltb n 256 b) (head-wide m 24 1 n r (omega arith) (omega arith) refl (omega arith))
    go (no a) (no b) (yes c) d =
        let a' : 24 ≤ n = omega arith in
        let b' : 256 ≤ n = omega arith in
        simp (le-ltb n 24 a', le-ltb n 256 b', lt-ltb n 65536 c) (head-wide m 25 2 n r (omega arith) (omega arith) refl (omega arith))
    go (no a) (no b) (no c) (yes d) =
        let a' : 24 ≤ n = omega arith in
        let b' : 256 ≤ n = omega arith in
        let c' : 65536 ≤ n = omega arith in
        simp (le-ltb n 24 a', le-ltb n 256 b', le-ltb n 65536 c', lt-ltb n 4294967296 d)
        (head-wide m 26 4 n r (omega arith) (omega arith) refl (omega arith))
    go (no a) (no b) (no c) (no d) =
        let a' : 24 ≤ n = omega arith in
        let b' : 256 ≤ n = omega arith in
        let c' : 65536 ≤ n = omega arith in
        let d' : 4294967296 ≤ n = omega arith in
        simp (le-ltb n 24 a', le-ltb n 256 b', le-ltb n 65536 c', le-ltb n 4294967296 d')
        (head-wide m 27 8 n r (omega arith) (omega arith) refl h)

-- a float's head
pub float_read : (w : Size) (n : ℕ) (r : List ℕ) → n < 256 ^ width w
    → heading (head_with 7 (size_info w) (width w) n ++ r) ≡ got (record { major = 7; info = size_info w; argument = n }) r
float_read half n r h = head-wide 7 25 2 n r (omega arith) (omega arith) refl h
float_read single n r h = head-wide 7 26 4 n r (omega arith) (omega arith) refl h
float_read double n r h = head-wide 7 27 8 n r (omega arith) (omega arith) refl h

-- a simple value's length information is none of a float's
small-info : (n : ℕ) → n < 256 → info_of n < 25
unfolding info_of
small-info n h = go (dec_lt n 24)
  where
    go : Dec (n < 24) → info_of n < 25
    go (yes a) = simp (lt-ltb n 24 a) (omega arith)
    go (no a) = let a' : 24 ≤ n = omega arith in simp (le-ltb n 24 a', lt-ltb n 256 h) (omega arith)

-- a reader of heads that reads every head that is written
pub record Reads (head : List ℕ → Outcome Heading) : Type 0 where
  pub short : (m n : ℕ) (r : List ℕ) → n < 2 ^ 64 → head (shortest m n ++ r) ≡ got (record { major = m; info = info_of n; argument = n }) r
  pub floats : (w : Size) (n : ℕ) (r : List ℕ) → n < 256 ^ width w
      → head (head_with 7 (size_info w) (width w) n ++ r) ≡ got (record { major = 7; info = size_info w; argument = n }) r

module _ (head : List ℕ → Outcome Heading) (read : Reads head) where
  -- a head, and what follows it
  decode-at : (d m n : ℕ) (t : List ℕ) → 1 ≤ d → n < 2 ^ 64
      → decode_by head d (shortest m n ++ t) ≡ content (decode_by head (d - 1)) (major_of m) (info_of n) n t
  unfolding decode_by
  decode-at d m n t l h =
      let e : d ≡ suc (d - 1) = omega arith in
      ap (λ (k : ℕ). decode_by head k (shortest m n ++ t)) e ∙ rw (read.short m n t h)

  decode-float : (d : ℕ) (w : Size) (n : ℕ) (t : List ℕ) → 1 ≤ d → n < 256 ^ width w
      → decode_by head d (head_with 7 (size_info w) (width w) n ++ t) ≡ content (decode_by head (d - 1)) (major_of 7) (size_info w) n t
  unfolding decode_by
  decode-float d w n t l h =
      let e : d ≡ suc (d - 1) = omega arith in
      ap (λ (k : ℕ). decode_by head k (head_with 7 (size_info w) (width w) n ++ t)) e ∙ rw (read.floats w n t h)

  mutual
    unfolding major_of members pairs

    pub read-item : (i : Item) (d : ℕ) (r : List ℕ) → depth i ≤ d → Fit i → decode_by head d (encode i ++ r) ≡ got i r
    read-item (unsigned n) d r l f = decode-at d 0 n r l f
    read-item (negative n) d r l f = decode-at d 1 n r l f
    read-item (bytes s) d r l f = rw append_assoc (decode-at d 2 (length s) (s ++ r) l f ∙ rw (next-all s r))
    read-item (text s) d r l f = rw append_assoc (decode-at d 3 (length s) (s ++ r) l f ∙ rw (next-all s r))
    read-item (array is) d r l f =
        rw append_assoc
        (decode-at d 4 (count is) (encodes is ++ r) (omega arith) f.0 ∙ rw (read-items is (d - 1) r (omega arith) f.1))
    read-item (map_item ps) d r l f =
        rw append_assoc
        (decode-at d 5 (count_pairs ps) (encode_pairs ps ++ r) (omega arith) f.0 ∙ rw (read_pairs ps (d - 1) r (omega arith) f.1))
    read-item (tag n i) d r l f =
        rw append_assoc (decode-at d 6 n (encode i ++ r) (omega arith) f.0 ∙ rw (read-item i (d - 1) r (omega arith) f.1))
    read-item (simple n) d r l f = decode-at d 7 n r l (omega arith) ∙ rw (lt-ltb (info_of n) 25 (small-info n f))
    read-item (float half n) d r l f = decode-float d half n r l f
    read-item (float single n) d r l f = decode-float d single n r l f
    read-item (float double n) d r l f = decode-float d double n r l f

    read-items : (is : Items) (d : ℕ) (r : List ℕ) → depths is ≤ d → Fits is
        → members (decode_by head d) (count is) (encodes is ++ r) ≡ got is r
    read-items no_items d r l f = refl
    read-items (more i is) d r l f =
        rw (
          append_assoc (encode i) (encodes is) r,
          read-item i d (encodes is ++ r) (omega arith) f.0,
          read-items is d r (omega arith) f.1,
        )

    read_pairs : (ps : Pairs) (d : ℕ) (r : List ℕ) → depth_pairs ps ≤ d → FitPairs ps
        → pairs (decode_by head d) (count_pairs ps) (encode_pairs ps ++ r) ≡ got ps r
    read_pairs empty d r l f = refl
    read_pairs (pair k v ps) d r l f =
        rw (
          append_assoc (encode k) (encode v ++ encode_pairs ps) r,
          append_assoc (encode v) (encode_pairs ps) r,
          read-item k d (encode v ++ (encode_pairs ps ++ r)) (omega arith) f.0,
          read-item v d (encode_pairs ps ++ r) (omega arith) f.1,
          read_pairs ps d r (omega arith) f.2,
        )

pub reads : Reads heading
reads = record { short = head_read; floats = float_read }

-- the written heads are the shortest
info-same : (n : ℕ) → eqb n n ≡ true
info-same n = eq-eqb n n refl

short-written : (m n : ℕ) → is_short m (info_of n) n ≡ true
unfolding is_short
short-written m n = rw (info-same (info_of n)) (go (eqb m 7))
  where
    go : (b : Bool) → cond b true true ≡ true
    go true = refl
    go false = refl

float-short : (w : Size) (n : ℕ) → is_short 7 (size_info w) n ≡ true
unfolding is_short
float-short w n = refl

pub strict-reads : Reads strict_heading
unfolding strict_heading
strict-reads = record {
  short = λ m n r h. rw (head_read m n r h, short-written m n);
  floats = λ w n r h. rw (float_read w n r h, float-short w n);
}

pub reads-by : (b : Bool) → Reads (head_by b)
reads-by true = strict-reads
reads-by false = reads

-- a whole payload
pub read-payload : (head : List ℕ → Outcome Heading) → Reads head → (i : Item) → depth i ≤ 8 → Fit i → payload_by head (encode i) ≡ got i []
unfolding payload_by
read-payload head read i l f =
    let e : decode_by head 8 (encode i) ≡ got i [] = rw (append-nil (encode i)) at (read-item head read i 8 [] l f) in rw e
