-- A list within its array is written as the head of its count and its bytes behind that.
use Rattle.std.specs.Prelude.{ℕ, ◌+◌, ◌≤◌, ◌<◌, ◌≡◌, List, ◌++◌, length, Result, Ok, Err}
use Rattle.std.proofs.Common.{arith, ◌∙◌, length-append, length-take-le, le-leb}
use borrow.Author.Tests.{lt-leb}
use Rattle.refusal.specs.declared.Refusal.{Refusal}
use Rattle.refusal.specs.declared.Refusal.TheVariants.{Room, Range}
use Rattle.byte_io.specs.Write.{Did, Wrote, emit}
use Rattle.byte_io.specs.WriteLemmas.{did-emit, did-room, did-refuse}
use Rattle.cbor.specs.Encode.{shortest, extra_of}
use Rattle.cbor.specs.HeadLaws.{HeadLaws}
use Rattle.cojp.specs.Lists.{bytes_in, list_plan}
use Rattle.cojp.specs.declared.list.ItemList.{ItemList}

pub list_over : (l : ItemList) (d : List ℕ) → 253 < l.len → Did (list_plan l) d (Err Range) d
unfolding list_plan
list_over l d h = rw (lt-leb l.len 253 h) (did-refuse Range d)

-- what a caller that has judged the list learns
pub list-did : (l : ItemList) → l.len ≤ 253 → {d d' : List ℕ} {r : Result ℕ Refusal} → Did (list_plan l) d r d'
    → Did (emit (shortest 4 l.count ++ bytes_in l)) d r d'
unfolding list_plan
list-did l i w = rw (le-leb l.len 253 i) at w

module _ (H : HeadLaws) (l : ItemList) (z : length l.bytes ≡ 253) (i : l.len ≤ 253) (d : List ℕ) where
  whole : {n : ℕ} → n ≡ extra_of l.count + 1 → length (shortest 4 l.count ++ bytes_in l) ≡ n + l.len
  whole e =
      length-append (shortest 4 l.count) (bytes_in l)
      ∙ omega (arith, e, H.length-head 4 l.count, length-take-le l.len l.bytes (omega arith))

  planned : {r : Result ℕ Refusal} {d' : List ℕ} → Did (emit (shortest 4 l.count ++ bytes_in l)) d r d' → Did (list_plan l) d r d'
  unfolding list_plan
  planned w = rw (le-leb l.len 253 i) w

  pub list-lacks : {n : ℕ} → n ≡ extra_of l.count + 1 → length d < n + l.len → Did (list_plan l) d (Err Room) d
  list-lacks e h = planned (did-room (shortest 4 l.count ++ bytes_in l) d (omega (arith, whole e)))

  pub list-room : {n : ℕ} → n ≡ extra_of l.count + 1 → n + l.len ≤ length d
      → (l.len ≤ 253) × (length (shortest 4 l.count) + length (bytes_in l) ≤ length d)
  list-room e h =
      let t : length (bytes_in l) ≡ l.len = length-take-le l.len l.bytes (omega arith) in
      (i, omega (arith, h, e, t, H.length-head 4 l.count))

  pub list_done : {n k : ℕ} {d' : List ℕ} → n ≡ extra_of l.count + 1 → n + l.len ≤ length d
      → Wrote (shortest 4 l.count ++ bytes_in l) d k d' → Did (list_plan l) d (Ok k) d'
  list_done e h w = planned (did-emit (omega (arith, h, whole e)) w)
