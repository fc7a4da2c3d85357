-- Labels with their values: their bytes, and how a destination holds them.
use Rattle.std.specs.Prelude.{Result}
use Rattle.refusal.specs.declared.Refusal.{Refusal}
use Prim.Native.Nat.{ℕ, ◌+◌, ◌-◌, ◌≤◌}
use mathlib.Core.Path.{◌≡◌, ap, sym, ◌∙◌}
use mathlib.Core.List.{List, ◌++◌, append_assoc, append-nil}
use lib.ListN.{length, take, drop, length-append}
use Rattle.byte_io.specs.Write.{Did, Wrote, emit}
use Rattle.byte_io.specs.WriteLemmas.{seam}
use Rattle.cbor.specs.Encode.{shortest, encode, encodes, encode_pairs}
use Rattle.cbor.specs.Item.{Item, Items, Pairs, array, count}
use Rattle.cojp.specs.Writing.{labelled}

-- ---- a label and its value
pub labelled-bytes : (n : ℕ) (i : Item) → encode_pairs (labelled n i) ≡ shortest 0 n ++ encode i
labelled-bytes n i = ap (λ (x : List ℕ). shortest 0 n ++ x) (append-nil (encode i))

pub labelled-length : (n : ℕ) (i : Item) → length (encode_pairs (labelled n i)) ≡ length (shortest 0 n) + length (encode i)
labelled-length n i = ap length (labelled-bytes n i) ∙ length-append (shortest 0 n) (encode i)

pub labelled-seam : (l : ℕ) (i : Item) {d d' e : List ℕ} {n m : ℕ} → length (shortest 0 l) + length (encode i) ≤ length d
    → Wrote (shortest 0 l) d n d' → Wrote (encode i) (take (length d' - n) (drop n d')) m e
    → Wrote (encode_pairs (labelled l i)) d (n + m) (take n d' ++ (e ++ drop (length d' - n) (drop n d')))
labelled-seam l i h w v = rw (labelled-bytes l i) (seam h w v)

-- ---- a label and an array: both heads, then the members
pub array-bytes : (n : ℕ) (is : Items) → encode_pairs (labelled n (array is)) ≡ (shortest 0 n ++ shortest 4 (count is)) ++ encodes is
array-bytes n is = labelled-bytes n (array is) ∙ sym (append_assoc (shortest 0 n) (shortest 4 (count is)) (encodes is))

pub array-length : (n : ℕ) (is : Items)
    → length (encode_pairs (labelled n (array is))) ≡ length (shortest 0 n ++ shortest 4 (count is)) + length (encodes is)
array-length n is = ap length (array-bytes n is) ∙ length-append (shortest 0 n ++ shortest 4 (count is)) (encodes is)

-- the same pairs, otherwise put
pub wrote-same : {ps qs : Pairs} {d d' : List ℕ} {n : ℕ} → ps ≡ qs → Wrote (encode_pairs qs) d n d' → Wrote (encode_pairs ps) d n d'
wrote-same e w = rw e w

pub did-same : {ps qs : Pairs} {d d' : List ℕ} {r : Result ℕ Refusal} → ps ≡ qs → Did (emit (encode_pairs qs)) d r d'
    → Did (emit (encode_pairs ps)) d r d'
did-same e w = rw e w

pub same-room : {ps qs : Pairs} (n : ℕ) → ps ≡ qs → length (encode_pairs ps) ≤ n → length (encode_pairs qs) ≤ n
same-room n e h = rw e at h
