-- How bytes are read as a data item (RFC 7049, section 2, in the order of document 01's "Item scan").
-- At each item: level first, then a missing first byte, then FORM, then missing argument bytes, then missing string bytes.
use Rattle.std.specs.Prelude.{ℕ, zero, suc, ◌-◌, ◌/◌, ◌%◌, ◌^◌, List, [], ◌∷◌, cond, length, take, drop, ltb, leb, eqb}
use Rattle.refusal.specs.declared.Refusal.{Refusal}
use Rattle.refusal.specs.declared.Refusal.TheVariants.{Cut, Form, Deep, Extra}
use Rattle.byte_io.specs.BigEndian.{big_endian}
use Rattle.cbor.specs.Item.{half, single, double, Item, Items, Pairs, unsigned, negative, bytes}
use Rattle.cbor.specs.Item.{text, array, map_item, tag, simple, float, no_items, more, empty, pair}

-- reading from the front of some bytes: a refusal, or a value and the bytes after it
pub data Outcome (A : Type 0) : Type 0 where
  refused : Refusal → Outcome A
  got : A → List ℕ → Outcome A

abbrev pub and_then : {A B : Type 0} → Outcome A → (A → List ℕ → Outcome B) → Outcome B
and_then (refused k) f = refused k
and_then (got a s) f = f a s

-- the next n bytes
unfoldable pub next : ℕ → List ℕ → Outcome (List ℕ)
next n s = cond (leb n (length s)) (got (take n s) (drop n s)) (refused Cut)

-- ---- heads
-- the argument that the length information announces: 0 to 23 direct, 24 to 27 in 1, 2, 4 or 8 bytes, 28 to 31 refused
unfoldable pub argument : ℕ → List ℕ → Outcome ℕ
argument info s =
    cond (ltb info 24)
    (got info s)
    (cond (ltb 27 info) (refused Form) (and_then (next (2 ^ (info - 24)) s) (λ bs t. got (big_endian bs) t)))

pub record Heading : Type 0 where
  pub major : ℕ
  pub info : ℕ
  pub argument : ℕ

-- a head: three bits of major type and five of length information, then the argument; a head longer than needed is read
unfoldable pub heading : List ℕ → Outcome Heading
heading [] = refused Cut
heading (b ∷ s) = and_then (argument (b % 32) s) (λ n t. got (record { major = b / 32; info = b % 32; argument = n }) t)

-- ---- items
-- the eight major types
pub data Major : Type 0 where
  unsigneds negatives byte_strings text_strings arrays maps tags others : Major

unfoldable pub major_of : ℕ → Major
major_of zero = unsigneds
major_of (suc zero) = negatives
major_of (suc (suc zero)) = byte_strings
major_of (suc (suc (suc zero))) = text_strings
major_of (suc (suc (suc (suc zero)))) = arrays
major_of (suc (suc (suc (suc (suc zero))))) = maps
major_of (suc (suc (suc (suc (suc (suc zero)))))) = tags
major_of (suc (suc (suc (suc (suc (suc (suc m))))))) = others

-- n items one after the other, and n pairs; `item` reads one
unfoldable pub members : (List ℕ → Outcome Item) → ℕ → List ℕ → Outcome Items
members item zero s = got no_items s
members item (suc n) s = and_then (item s) (λ i t. and_then (members item n t) (λ is u. got (more i is) u))

unfoldable pub pairs : (List ℕ → Outcome Item) → ℕ → List ℕ → Outcome Pairs
pairs item zero s = got empty s
pairs item (suc n) s =
    and_then (item s) (λ k t. and_then (item t) (λ v u. and_then (pairs item n u) (λ ps w. got (pair k v ps) w)))

-- major type 7: length information 25, 26 and 27 are floats of 2, 4 and 8 bytes, the others simple values, which are not judged
abbrev pub special : ℕ → ℕ → Item
special info n =
    cond (ltb info 25) (simple n) (cond (eqb info 25) (float half n) (cond (eqb info 26) (float single n) (float double n)))

-- what follows a head of each major type, its length information and its argument n given; `item` reads an item one level deeper
abbrev pub content : (List ℕ → Outcome Item) → Major → ℕ → ℕ → List ℕ → Outcome Item
content item unsigneds info n s = got (unsigned n) s
content item negatives info n s = got (negative n) s
content item byte_strings info n s = and_then (next n s) (λ bs t. got (bytes bs) t)
content item text_strings info n s = and_then (next n s) (λ bs t. got (text bs) t)
content item arrays info n s = and_then (members item n s) (λ is t. got (array is) t)
content item maps info n s = and_then (pairs item n s) (λ ps t. got (map_item ps) t)
content item tags info n s = and_then (item s) (λ i t. got (tag n i) t)
content item others info n s = got (special info n) s

-- an item where so many levels are left, its heads read by `head`: a stricter reading has another reader of heads and the rest alike
unfoldable pub decode_by : (List ℕ → Outcome Heading) → ℕ → List ℕ → Outcome Item
decode_by head zero s = refused Deep
decode_by head (suc d) s =
    and_then (head s) (λ h t. content (λ u. decode_by head d u) (major_of h.major) h.info h.argument t)

abbrev pub decode : ℕ → List ℕ → Outcome Item
decode d s = decode_by heading d s

-- ---- a whole payload: at most 8 levels, and nothing may follow the outermost item
abbrev pub ended : Item → List ℕ → Outcome Item
ended i [] = got i []
ended i (b ∷ s) = refused Extra

unfoldable pub payload_by : (List ℕ → Outcome Heading) → List ℕ → Outcome Item
payload_by head s = and_then (decode_by head 8 s) ended

abbrev pub payload : List ℕ → Outcome Item
payload s = payload_by heading s
