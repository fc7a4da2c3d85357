-- A list that was read is kept: what is written of its members reads back as them, one after the other.
use Prim.Native.Nat.{ℕ, ◌-◌, ◌≤◌}
use native.Mathlib.Omega.{arith}
use mathlib.Core.Path.{◌≡◌, refl, ◌∙◌}
use mathlib.Core.Bool.{Bool, true, false, cond}
use mathlib.Core.List.{List, [], ◌∷◌, ◌++◌}
use lib.Dec.{leb}
use lib.ListN.{length, replicate, length-append}
use lib.Seq.{take-append_seam}
use borrow.Author.Tests.{leb-true, le-leb, eq-eqb}
use Rattle.lemmas.specs.lists.SameLemmas.{same_refl}
use Rattle.cbor.specs.Encode.{encode, encodes, shortest}
use Rattle.cbor.specs.Item.{Fit}
use Rattle.cbor.specs.Laws.{ItemLaws}
use Rattle.cbor.specs.View.{Scalar, number, minus, string, other, View, scalar, list}
use Rattle.cojp.specs.Bytes.{members_at}
use Rattle.cojp.specs.Lists.{Picked, nothing, picked, before, scalar_item, items_of, written, strings_in, fitting, list_of, list_answer}
use Rattle.cojp.specs.Lists.{same_as, kept, list_taken, blacklist_taken}
use Rattle.cojp.specs.ListLemmas.{scalar-back, scalar-depth}
use Rattle.cojp.specs.Octets.{padded}
use Rattle.cojp.specs.Writing.{list_in_range}

-- ---- members that a head can hold
abbrev pub Small : List Scalar → Type 0
Small [] = Unit {0}
Small (p ∷ ps) = Fit (scalar_item p) × Small ps

module _ (laws : ItemLaws) where
  -- what is written of them reads back
  pub members-back : (ps : List Scalar) → Small ps → members_at (length ps) (written ps) ≡ ps
  members-back [] h = refl
  members-back (p ∷ ps) h =
      let l = encode (scalar_item p) ++ encodes (items_of ps) in
      let got-it = laws.round_trip (scalar_item p) 6 (encodes (items_of ps)) (scalar-depth p) h.0 in
      let here = laws.item-plain 5 l (scalar_item p) (encodes (items_of ps)) got-it ∙ scalar-back p in
      rw (got-it, here, members-back ps h.1)

  -- so a list of them is kept, if they are what would be picked of them and have room
  pub listed_kept : (f : List Scalar → Picked) (ps : List Scalar) → Small ps → f ps ≡ picked ps → length (written ps) ≤ 253
      → kept f (list_of ps) ≡ true
  unfolding kept same_as padded
  listed_kept f ps h e r =
      let w = written ps in
      let bytes = take-append_seam w (replicate (253 - length w) 0) in
      rw (bytes, members-back ps h, e, le-leb (length w) 253 r, bytes, eq-eqb (length ps) (length ps) refl) (same_refl w)

-- ---- byte strings
-- picked ones are byte strings, and would be picked again
pub record Strings (ps : List Scalar) : Type 0 where
  pub again : strings_in ps ≡ picked ps
  pub small : length (written ps) ≤ 253 → Small ps

abbrev Stringy : Picked → Type 0
Stringy nothing = Unit {0}
Stringy (picked ps) = Strings ps

one_more : (s : List ℕ) (q : Picked) → Stringy q → Stringy (before (string s ∷ []) q)
unfolding strings_in
one_more s nothing h = tt
one_more s (picked ps) h = record {
  again = rw h.again;
  small = λ r.
      let parts = length-append (encode (scalar_item (string s))) (written ps) in
      let text = length-append (shortest 2 (length s)) s in
      (omega (arith, r, parts, text), h.small (omega (arith, r, parts)));
}

strings-picked : (ms : List Scalar) → Stringy (strings_in ms)
unfolding strings_in
strings-picked [] = record { again = refl; small = λ r. tt }
strings-picked (number n ∷ r) = tt
strings-picked (minus n ∷ r) = tt
strings-picked (string s ∷ r) = one_more s (strings_in r) (strings-picked r)
strings-picked (other ∷ r) = tt

-- ---- a blacklist that is taken is in range
pub blacklist-good : ItemLaws → (x : View) → list_in_range strings_in (blacklist_taken x) ≡ true
blacklist-good laws (scalar p) = refl
blacklist-good laws (list ms) = go (strings_in ms) (strings-picked ms)
  where
    by : (ps : List Scalar) → Strings ps → (b : Bool) → leb (length (written ps)) 253 ≡ b
        → list_in_range strings_in (list_taken (list_answer (cond b (picked ps) nothing))) ≡ true
    by ps h false e = refl
    by ps h true e =
        let r = leb-true (length (written ps)) 253 e in
        listed_kept laws strings_in ps (h.small r) h.again r

    go : (q : Picked) → Stringy q → list_in_range strings_in (list_taken (list_answer (fitting 253 q))) ≡ true
    go nothing h = refl
    go (picked ps) h = by ps h (leb (length (written ps)) 253) refl
