-- A taken list is one pair: its label, and the head of its count and its bytes.
use Rattle.std.specs.Prelude.{Result, Ok, Err}
use Rattle.refusal.specs.declared.Refusal.{Refusal}
use Prim.Native.Nat.{ℕ, ◌+◌, ◌-◌, ◌≤◌, ◌<◌}
use mathlib.Core.Path.{◌≡◌, refl, ap, ◌∙◌}
use mathlib.Core.Bool.{Bool, true, false}
use mathlib.Core.List.{List, [], ◌++◌}
use native.Mathlib.Omega.{arith}
use borrow.Author.Tests.{le-leb, lt-leb}
use lib.Dec.{leb}
use lib.ListN.{length, take, drop, length-append}
use lib.Seq.{length-take-le}
use Rattle.lemmas.specs.logic.Tests.{both_left}
use Rattle.refusal.specs.declared.Refusal.TheVariants.{Room, Range}
use Rattle.byte_io.specs.Write.{Did, Wrote, emit}
use Rattle.byte_io.specs.WriteLemmas.{did-emit, did-room, did-refuse, seam}
use Rattle.cbor.specs.Encode.{shortest, encode_pairs, extra_of}
use Rattle.cbor.specs.HeadLaws.{HeadLaws}
use Rattle.cbor.specs.Item.{array, empty, count_pairs}
use Rattle.cbor.specs.View.{Scalar}
use Rattle.cojp.specs.Lists.{Picked, bytes_in, items_in, kept, same_as, list_answer, fitting}
use Rattle.cojp.specs.Bytes.{members_at}
use Rattle.cojp.specs.Reading.{if_taken}
use Rattle.cojp.specs.Writing.{labelled, list_pairs, list_in_range}
use Rattle.cojp.specs.declared.list.ItemList.{ItemList}
use Rattle.cojp.specs.declared.list.ListParameter.{ListParameter}
use Rattle.cojp.specs.declared.disposition.Disposition.{Disposition}
use Rattle.cojp.specs.declared.disposition.Disposition.TheVariants.{Absent, Taken, Discarded}
use Rattle.cojp_list.specs.Laws.{ListWritten}
use Rattle.cojp_write.specs.octets.Plan.{array_bytes, list_bytes, list_count, list_fits, array_plan, list_parameter_plan}
use Rattle.cojp_write.specs.octets.Size.{Sizes}
use Rattle.cojp_write.specs.declared.octets.size.Size.{Size}
use Rattle.cojp_write.proofs.octets.Joined.{labelled-bytes}
use Rattle.cojp_write.proofs.octets.Sizes.{sizes-most}
use Rattle.cojp_write.proofs.range.Taken.{taken_is, taken_not}

module _ (heads : HeadLaws) (label : ℕ) (l : ItemList) {n m : ℕ} (e : n ≡ extra_of label + 1) (f : m ≡ extra_of l.count + 1) where
  pub array-heads : n + m ≤ 18
  array-heads = omega (arith, heads.extra-most label, heads.extra-most l.count)

  array-length : length (array_bytes label l) ≡ n + m + length (bytes_in l)
  array-length =
      simp length-append (omega (arith, heads.length-head 0 label, heads.length-head 4 l.count))

  module _ (z : length l.bytes ≡ 253) (d : List ℕ) (i : l.len ≤ 253) where
    whole : length (array_bytes label l) ≡ n + m + l.len
    whole = omega (arith, array-length, length-take-le l.len l.bytes (omega arith))

    planned : {r : Result ℕ Refusal} {d' : List ℕ} → Did (emit (array_bytes label l)) d r d' → Did (array_plan label l) d r d'
    unfolding array_plan
    planned w = rw (le-leb l.len 253 i) w

    pub array-room : length d < n + m + l.len → Did (array_plan label l) d (Err Room) d
    array-room h = planned (did-room (array_bytes label l) d (omega (arith, whole)))

    -- there is room: the label was written, and the array to the part after it
    pub array-done : n + m + l.len ≤ length d → {a k : ℕ} {d' p : List ℕ} → Wrote (shortest 0 label) d a d'
        → Wrote (shortest 4 l.count ++ bytes_in l) (take (length d' - a) (drop a d')) k p
        → Did (array_plan label l) d (Ok (a + k)) (take a d' ++ (p ++ drop (length d' - a) (drop a d')))
    array-done h w v =
        let parts = length-append (shortest 0 label) (shortest 4 l.count ++ bytes_in l) in
        planned (did-emit (omega (arith, whole)) (seam (omega (arith, whole, parts)) w v))

pub array-range : (label : ℕ) (l : ItemList) (d : List ℕ) → 253 < l.len → Did (array_plan label l) d (Err Range) d
unfolding array_plan
array-range label l d h = rw (lt-leb l.len 253 h) (did-refuse Range d)

-- ---- the parameter
module _ (p : ListParameter) (t : Bool) (e : t ≡ if_taken p.disposition true false) (h : t ≡ true) where
  pub list-size : HeadLaws → (label : ℕ) {n m k : ℕ} → n ≡ extra_of label + 1 → m ≡ extra_of p.value.count + 1
      → k ≡ length (bytes_in p.value) → k ≤ 253
      → Sizes (list_count p) (list_bytes label p) 1 271 (record { members = 1; bytes = n + m + k })
  list-size heads label {n} {m} {k} f g i j =
      rw (taken_is {A = ℕ} p.disposition 1 0 t e h, taken_is p.disposition (array_bytes label p.value) [] t e h) (record {
        members = refl;
        bytes = omega (arith, array-length heads label p.value f g);
        few = omega arith;
        small = omega (arith, array-heads heads label p.value f g);
      })

module _ (p : ListParameter) (t : Bool) (e : t ≡ if_taken p.disposition true false) (h : t ≡ false) where
  pub list-none : (label : ℕ) {s : Size} → Sizes 0 [] 0 0 s → Sizes (list_count p) (list_bytes label p) 1 271 s
  list-none label z =
      rw (taken_not {A = ℕ} p.disposition 1 0 t e h, taken_not p.disposition (array_bytes label p.value) [] t e h)
      (sizes-most 1 271 (omega arith) (omega arith) z)

-- ---- in range, a list's pair is its label, the head of its count and its bytes
module _ (f : List Scalar → Picked) (law : ListWritten f) (label : ℕ) (p : ListParameter) (h : list_in_range f p ≡ true) where
  go : (r : Disposition) → if_taken r (kept f p.value) true ≡ true
      → encode_pairs (if_taken r (labelled label (array (items_in f p.value))) empty) ≡ if_taken r (array_bytes label p.value) []
  go Absent k = refl
  go Taken k = labelled-bytes label (array (items_in f p.value)) ∙ ap (λ (s : List ℕ). shortest 0 label ++ s) (law p.value k)
  go Discarded k = refl

  pub list-bytes : encode_pairs (list_pairs label f p) ≡ list_bytes label p
  list-bytes = go p.disposition h

pub list_count_lem : (f : List Scalar → Picked) (label : ℕ) (p : ListParameter) → count_pairs (list_pairs label f p) ≡ list_count p
list_count_lem f label p = go p.disposition
  where
    go : (r : Disposition) → count_pairs (if_taken r (labelled label (array (items_in f p.value))) empty) ≡ if_taken r 1 0
    go Absent = refl
    go Taken = refl
    go Discarded = refl

-- what a caller that has judged the list learns
module _ (f : List Scalar → Picked) (p : ListParameter) where
  kept-fits : (r : Disposition) → if_taken r (kept f p.value) true ≡ true → if_taken r (leb p.value.len 253) true ≡ true
  unfolding kept
  kept-fits Absent k = refl
  kept-fits Taken k =
      both_left (leb p.value.len 253)
      (same_as (list_answer (fitting 253 (f (members_at p.value.count (bytes_in p.value))))) p.value) k
  kept-fits Discarded k = refl

  pub list-fits : list_in_range f p ≡ true → list_fits p ≡ true
  list-fits h = kept-fits p.disposition h

module _ (label : ℕ) (p : ListParameter) (h : list_fits p ≡ true) where
  plan : (r : Disposition) → if_taken r (leb p.value.len 253) true ≡ true
      → if_taken r (array_plan label p.value) (emit []) ≡ emit (if_taken r (array_bytes label p.value) [])
  unfolding array_plan
  plan Absent k = refl
  plan Taken k = simp k
  plan Discarded k = refl

  pub list-did : {d d' : List ℕ} {r : Result ℕ Refusal} → Did (list_parameter_plan label p) d r d' → Did (emit (list_bytes label p)) d r d'
  list-did w = rw (plan p.disposition h) at w
