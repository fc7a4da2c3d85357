-- A taken byte string is one pair: its label, and a byte string of at most 16 bytes.
use Rattle.std.specs.Prelude.{Result, Ok, Err}
use Rattle.refusal.specs.declared.Refusal.{Refusal}
use Prim.Native.Nat.{ℕ, ◌+◌, ◌-◌, ◌≤◌, ◌<◌}
use mathlib.Core.Path.{◌≡◌, refl, sym, ◌∙◌}
use mathlib.Core.Bool.{Bool, true, false}
use mathlib.Core.List.{List, ◌++◌}
use native.Mathlib.Omega.{arith}
use lib.ListN.{length, take, drop, length-append, length-take, length-drop}
use Rattle.lemmas.specs.lists.Prefix.{take-length-take}
use Rattle.refusal.specs.declared.Refusal.TheVariants.{Room}
use Rattle.byte_io.specs.Write.{Did, Wrote, emit}
use Rattle.cbor.specs.Answer.{head_plan}
use Rattle.cbor.specs.Encode.{shortest, encode, encode_pairs, extra_of}
use Rattle.cbor.specs.HeadLaws.{HeadLaws}
use Rattle.cbor.specs.Item.{bytes, empty}
use Rattle.byte_io.specs.WriteLemmas.{did-emit, did-kept, did-room, wrote_as, wrote-length}
use Rattle.cbor.specs.Writing.{head-did}
use Rattle.cojp.specs.Octets.{bytes_in}
use Rattle.cojp.specs.Reading.{if_taken}
use Rattle.cojp.specs.Writing.{labelled, octets_pairs}
use Rattle.cojp.specs.declared.octets.OctetsParameter.{OctetsParameter}
use Rattle.cojp_write.specs.octets.Size.{PairsSize}
use Rattle.cojp_write.proofs.octets.Joined.{labelled-length, labelled-seam}
use Rattle.cojp_write.proofs.range.Taken.{taken_is}

module _ (heads : HeadLaws) where
  -- a byte string, and a short one
  whole-string : (s : List ℕ) → length (encode (bytes s)) ≡ extra_of (length s) + 1 + length s
  whole-string s = length-append (shortest 2 (length s)) s ∙ rw (heads.length-head 2 (length s))

  pub string-length : (s : List ℕ) → length s ≤ 23 → length (encode (bytes s)) ≡ 1 + length s
  string-length s h = length-append (shortest 2 (length s)) s ∙ rw (heads.short-head 2 (length s) h)

  -- ---- a label, whose head takes l bytes, and a byte string, whose head takes h
  module _ (label : ℕ) (s d : List ℕ) {l h : ℕ} (e : l ≡ extra_of label + 1) (f : h ≡ extra_of (length s) + 1) where
    pub heads-most : l + h ≤ 18
    heads-most = omega (arith, heads.extra-most label, heads.extra-most (length s))

    whole : length (encode_pairs (labelled label (bytes s))) ≡ l + h + length s
    whole = omega (arith, labelled-length label (bytes s), heads.length-head 0 label, whole-string s)

    pub string-refused : length d < l + h + length s → Did (emit (encode_pairs (labelled label (bytes s)))) d (Err Room) d
    string-refused g = did-room (encode_pairs (labelled label (bytes s))) d (omega (arith, whole))

    -- there is room; the label was written, and the destination is d'
    module _ (g : l + h + length s ≤ length d) {r : Result ℕ Refusal} {d' : List ℕ} (w : Did (head_plan 0 label) d r d') where
      label-wrote : Wrote (shortest 0 label) d l d'
      label-wrote =
          let k =
          did-kept (shortest 0 label) d r d' (omega (arith, heads.length-head 0 label)) (head-did 0 label d r d' (omega arith) w) in
          wrote_as l (omega (arith, heads.length-head 0 label)) k

      label_kept : length d' ≡ length d
      label_kept = wrote-length label-wrote (omega (arith, heads.length-head 0 label))

      -- the byte string was written to the part after the label, which now is p
      pub string-done : (p : List ℕ) {q : Result ℕ Refusal} → Did (emit (encode (bytes s))) (take (length d' - l) (drop l d')) q p
          → Did (emit (encode_pairs (labelled label (bytes s)))) d (Ok (l + h + length s))
          (take l d' ++ (p ++ drop (length d' - l) (drop l d')))
      string-done p {q} v =
          let part = take (length d' - l) (drop l d') in
          let room : length (encode (bytes s)) ≤ length part =
          simp (length-take, length-drop) (omega (arith, label_kept, whole-string s)) in
          let w = labelled-seam label (bytes s) (omega (arith, heads.length-head 0 label, whole-string s)) label-wrote
          (did-kept (encode (bytes s)) part q p room v) in
          did-emit (omega (arith, whole)) (wrote_as (l + h + length s) (sym whole) w)

-- ---- the parameter
module _ (p : OctetsParameter) (t : Bool) (e : t ≡ if_taken p.disposition true false) (h : t ≡ true) where
  octets-taken : (n : ℕ) → octets_pairs n p ≡ labelled n (bytes (bytes_in p.value))
  octets-taken n = taken_is p.disposition (labelled n (bytes (bytes_in p.value))) empty t e h

  pub octets-known : (n : ℕ) {k : ℕ} → k ≡ length (bytes_in p.value) → octets_pairs n p ≡ labelled n (bytes (take k p.value.bytes))
  octets-known n f = octets-taken n ∙ rw (f, take-length-take p.value.len p.value.bytes)

  pub octets-size : HeadLaws → (n : ℕ) {l k : ℕ} → l ≡ extra_of n + 1 → k ≡ length (bytes_in p.value) → k ≤ 16
      → PairsSize (octets_pairs n p) 1 26 (record { members = 1; bytes = l + 1 + k })
  octets-size heads n f g m =
      let s = bytes_in p.value in
      rw (octets-taken n) (record {
        members = refl;
        bytes = omega (arith, labelled-length n (bytes s), heads.length-head 0 n, string-length heads s (omega arith));
        few = omega arith;
        small = omega (arith, heads.extra-most n);
      })
