-- A list that is kept takes at most 262 bytes and few levels, and the numbers that were read of its bytes fit their heads.
use Prim.Native.Nat.{ℕ, zero, suc, ◌≤◌}
use mathlib.Core.Path.{◌≡◌, refl, ap, sym, ◌∙◌}
use mathlib.Core.Bool.{Bool, true, false, cond, ◌&&◌}
use mathlib.Core.List.Memᴰ
use mathlib.Core.List.{List, [], ◌∷◌, Memᴰ}
use native.Mathlib.Omega.{arith}
use borrow.Author.Tests.{leb-true}
use lib.Dec.{leb}
use lib.ListN.{length, take, length-append, length-take}
use Rattle.lemmas.specs.logic.Tests.{both_left}
use Rattle.cbor.specs.Decode.{Outcome, refused, got, decode}
use Rattle.cbor.specs.Encode.{shortest, encode, encodes}
use Rattle.cbor.specs.HeadLaws.{HeadLaws}
use Rattle.cbor.specs.Item.{Item, array, count, depths, Fit, Fits}
use Rattle.cbor.specs.Laws.{ItemLaws, Bytes, Suffix}
use Rattle.cbor.specs.View.{Scalar, number, minus, string, other, scalar_at, and_on, scalars_at}
use Rattle.cojp.specs.Lists.{Picked, nothing, picked, before, scalar_item, items_of, strings_in, error_reports_in}
use Rattle.cojp.specs.Lists.{at_least_one, is_integer, bytes_in, list_answer, fitting, same_as, kept, picked_items, items_in}
use Rattle.cojp.specs.Bytes.{members_at}
use Rattle.protocol_version.specs.Version.{by_version}
use Rattle.cojp.specs.ListLemmas.{scalar-fit}
use Rattle.cojp.specs.Writing.{labelled, list_pairs, list_in_range, missing}
use Rattle.cojp.specs.declared.list.ItemList.{ItemList}
use Rattle.cojp.specs.declared.list.ListParameter.{ListParameter}
use Rattle.protocol_version.specs.declared.Version.{Version}
use Rattle.protocol_version.specs.declared.Version.TheVariants.{Draft, Published}
use Rattle.cojp_list.specs.Laws.{ListWritten}
use Rattle.cojp_laws.proofs.Fine.{Fine, FineItems, fine-if, fine-none, fine-array}

-- ---- bytes are bytes in every part
earlier : (n : ℕ) (s : List ℕ) (x : ℕ) → Memᴰ x (take n s) → Memᴰ x s
earlier (suc n) (y ∷ s) x (Memᴰ.head e) = Memᴰ.head e
earlier (suc n) (y ∷ s) x (Memᴰ.tail m) = Memᴰ.tail (earlier n s x m)
earlier zero s x m = elim m [ ]
earlier (suc n) [] x m = elim m [ ]

bytes_after : (t s : List ℕ) → Suffix 1 t s → Bytes s → Bytes t
bytes_after t s f b x m = b x (rw f.whole (Memᴰ.append_right f.front m))

-- ---- what is read of bytes fits
module _ (laws : ItemLaws) where
  plains-fit : (d n : ℕ) (s : List ℕ) → Bytes s → Fits (items_of (scalars_at d n s))
  plains-fit d zero s b = tt
  plains-fit d (suc n) s b = go (λ t c. plains-fit d n t c) (decode d s) refl
    where
      go : ((t : List ℕ) → Bytes t → Fits (items_of (scalars_at d n t))) → (o : Outcome Item) → decode d s ≡ o
          → Fits (items_of (and_on (scalar_at s) o (λ t. scalars_at d n t)))
      go h (refused k) e = (omega arith, tt)
      go h (got i t) e = (scalar-fit (scalar_at s) (laws.plain_fits s b), h t (bytes_after t s (laws.item-suffix d s i t e) b))

-- ---- and so does what is kept of it
abbrev Keeps : (List Scalar → Picked) → Type 0
Keeps f = (ms : List Scalar) → Fits (items_of ms) → Fits (picked_items (f ms))

one-fits : (p : Scalar) (q : Picked) → Fit (scalar_item p) → Fits (picked_items q) → Fits (picked_items (before (p ∷ []) q))
one-fits p nothing h k = tt
one-fits p (picked ps) h k = (h, k)

three-fit : (p q : Scalar) (r : Picked) → Fit (scalar_item p) → Fit (scalar_item q) → Fits (picked_items r)
    → Fits (picked_items (before (p ∷ q ∷ other ∷ []) r))
three-fit p q nothing h k l = tt
three-fit p q (picked ps) h k l = (h, (k, (omega arith, l)))

pub strings-fit : Keeps strings_in
unfolding strings_in
strings-fit [] h = tt
strings-fit (number n ∷ r) h = tt
strings-fit (minus n ∷ r) h = tt
strings-fit (string s ∷ r) h = one-fits (string s) (strings_in r) h.0 (strings-fit r h.1)
strings-fit (other ∷ r) h = tt

faults-fit : Keeps error_reports_in
unfolding error_reports_in
faults-fit [] h = tt
faults-fit (p ∷ []) h = tt
faults-fit (p ∷ q ∷ []) h = tt
faults-fit (p ∷ q ∷ x ∷ r) h = go (faults-fit r h.1.1.1) (is_integer p && is_integer q)
  where
    go : Fits (picked_items (error_reports_in r)) → (b : Bool)
        → Fits (picked_items (cond b (before (p ∷ q ∷ other ∷ []) (error_reports_in r)) nothing))
    go k true = three-fit p q (error_reports_in r) h.0 h.1.0 k
    go k false = tt

pub some_fit : Keeps (at_least_one error_reports_in)
some_fit [] h = tt
some_fit (p ∷ ms) h = faults-fit (p ∷ ms) h

-- ---- levels and bytes
plain-level : (p : Scalar) (ps : List Scalar) → depths (items_of ps) ≤ 1 → depths (items_of (p ∷ ps)) ≤ 1
plain-level (number n) ps h = omega arith
plain-level (minus n) ps h = omega arith
plain-level (string s) ps h = omega arith
plain-level other ps h = omega arith

items-level : (ps : List Scalar) → depths (items_of ps) ≤ 1
items-level [] = omega arith
items-level (p ∷ ps) = plain-level p ps (items-level ps)

picked-level : (q : Picked) → depths (picked_items q) ≤ 1
picked-level nothing = omega arith
picked-level (picked ps) = items-level ps

module _ (heads : HeadLaws) where
  plain-some : (p : Scalar) → 1 ≤ length (encode (scalar_item p))
  plain-some (number n) = omega (arith, heads.length-head 0 n)
  plain-some (minus n) = omega (arith, heads.length-head 1 n)
  plain-some (string s) = omega (arith, heads.length-head 2 (length s), length-append (shortest 2 (length s)) s)
  plain-some other = omega (arith, heads.length-head 7 22)

  items-few : (ps : List Scalar) → count (items_of ps) ≤ length (encodes (items_of ps))
  items-few [] = omega arith
  items-few (p ∷ ps) =
      omega (arith, plain-some p, items-few ps, length-append (encode (scalar_item p)) (encodes (items_of ps)))

  picked-few : (q : Picked) → count (picked_items q) ≤ length (encodes (picked_items q))
  picked-few nothing = omega arith
  picked-few (picked ps) = items-few ps

  module _ (laws : ItemLaws) (f : List Scalar → Picked) (keeps : Keeps f) (whole : ListWritten f) where
    kept_small : (l : ItemList) → kept f l ≡ true → length (bytes_in l) ≤ 253
    unfolding kept
    kept_small l h =
        let few = leb-true l.len 253
        (both_left (leb l.len 253) (same_as (list_answer (fitting 253 (f (members_at l.count (bytes_in l))))) l) h) in
        omega (arith, length-take l.len l.bytes)

    fine-kept : (l : ItemList) → Bytes l.bytes → kept f l ≡ true → FineItems (items_in f l) 262 262
    fine-kept l b h =
        let q = f (members_at l.count (bytes_in l)) in
        let is = items_in f l in
        let head = shortest 4 (count is) in
        let same = sym (length-append head (encodes is)) ∙ ap length (whole l h) ∙ length-append (shortest 4 l.count) (bytes_in l) in
        let small : length (encodes is) ≤ 262 =
        omega (arith, same, kept_small l h, heads.length-head 4 l.count, heads.extra-most l.count) in
        record {
          few = omega (arith, small, picked-few q);
          small = small;
          level = picked-level q;
          fit = keeps (members_at l.count (bytes_in l))
              (plains-fit laws 6 l.count (bytes_in l) (λ x m. b x (earlier l.len l.bytes x m)));
        }

    pub fine-list : (v : Version) (n : ℕ) (p : ListParameter) → n ≤ 23 → by_version v (missing p.disposition) (list_in_range f p) ≡ true
        → Bytes p.value.bytes
        → Fine (list_pairs n f p) 1 (by_version v 0 272)
    fine-list Draft n p k h b = fine-none p.disposition (labelled n (array (items_in f p.value))) h
    fine-list Published n p k h b =
        let is = items_in f p.value in
        fine-if p.disposition (labelled n (array is)) 272 (λ e.
        let g = fine-kept p.value b (simp e at h) in
        fine-array heads n is 262 262 9 k (omega arith) (omega (arith, heads.length-head 4 (count is), heads.extra-most (count is))) g)
