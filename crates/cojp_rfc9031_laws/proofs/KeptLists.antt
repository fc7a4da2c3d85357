-- A list that was read is in its limits: what is written of its members reads back as them. It takes no more bytes than the array did.
use Prim.Native.Nat.{ℕ, suc, ◌+◌, ◌-◌, ◌≤◌}
use native.Mathlib.Omega.{arith}
use mathlib.Core.Path.{◌≡◌, refl, ap, ◌∙◌}
use mathlib.Core.Bool.{Bool, true, false, cond, ◌&&◌}
use mathlib.Core.List.{List, [], ◌∷◌, ◌++◌}
use lib.ListN.{length, replicate, length-append}
use lib.Seq.{take-append_seam}
use borrow.Author.Tests.{le-leb, eq-eqb}
use Rattle.lemmas.specs.lists.SameLemmas.{same_refl}
use Rattle.cbor.specs.Encode.{encode, encodes, shortest}
use Rattle.cbor.specs.HeadLaws.{HeadLaws}
use Rattle.cbor.specs.Item.{array, count}
use Rattle.cbor.specs.Laws.{ItemLaws}
use Rattle.cbor.specs.View.{Scalar, number, minus, string, other}
use Rattle.cojp.specs.Bytes.{members_at}
use Rattle.cojp.specs.Lists.{Picked, nothing, picked, before, scalar_item, items_of, written, is_integer}
use Rattle.cojp.specs.Lists.{strings_in, error_reports_in, at_least_one, list_of, bytes_in, same_as, kept, items_in}
use Rattle.cojp.specs.ListLemmas.{scalar-back, scalar-depth, scalar-fit, items-count}
use Rattle.cojp.specs.Octets.{padded}
use Rattle.cojp_rfc9031_laws.proofs.Items.{head_size, plain_size, plains_size, plain-least, PlainsFit}

-- ---- how many bytes are written
module _ (H : HeadLaws) where
  pub item-size : (p : Scalar) → length (encode (scalar_item p)) ≡ plain_size p
  item-size (number n) = H.length-head 0 n
  item-size (minus n) = H.length-head 1 n
  item-size (string s) = length-append (shortest 2 (length s)) s ∙ ap (λ (n : ℕ). n + length s) (H.length-head 2 (length s))
  item-size other = H.short-head 7 22 (omega arith)

  pub written-size : (ps : List Scalar) → length (written ps) ≡ plains_size ps
  written-size [] = refl
  written-size (p ∷ ps) = length-append (encode (scalar_item p)) (written ps) ∙ omega (arith, item-size p, written-size ps)

-- ---- members that would be picked again
module _ (laws : ItemLaws) (H : HeadLaws) where
  members-back : (ps : List Scalar) → PlainsFit ps → members_at (length ps) (written ps) ≡ ps
  members-back [] h = refl
  members-back (p ∷ ps) h =
      let rest = encodes (items_of ps) in
      let got-it = laws.round_trip (scalar_item p) 6 rest (scalar-depth p) (scalar-fit p h.0) in
      let here = laws.item-plain 5 (encode (scalar_item p) ++ rest) (scalar_item p) rest got-it ∙ scalar-back p in
      rw (got-it, here, members-back ps h.1)

  module _ (f : List Scalar → Picked) (ps : List Scalar) (fit : PlainsFit ps) (again : f ps ≡ picked ps) where
    read-bytes : bytes_in (list_of ps) ≡ written ps
    unfolding padded
    read-bytes = take-append_seam (written ps) (replicate (253 - length (written ps)) 0)

    pub list-kept : length (written ps) ≤ 253 → kept f (list_of ps) ≡ true
    unfolding kept same_as padded
    list-kept r =
        let w = written ps in
        let own = take-append_seam w (replicate (253 - length w) 0) in
        rw (own, members-back ps fit, again, le-leb (length w) 253 r, own, eq-eqb (length ps) (length ps) refl) (same_refl w)

    pub list-size : length (encode (array (items_in f (list_of ps)))) ≡ head_size (length ps) + plains_size ps
    list-size =
        rw (
          read-bytes,
          members-back ps fit,
          again,
          length-append (shortest 4 (count (items_of ps))) (written ps),
          H.length-head 4 (count (items_of ps)),
          items-count ps,
          written-size H ps,
        )

-- ---- what is picked: so many members, none larger, and they would be picked again
pub record Picks (f : List Scalar → Picked) (ms ps : List Scalar) : Type 0 where
  pub again : f ps ≡ picked ps
  pub fit : PlainsFit ms → PlainsFit ps
  pub many : length ps ≡ length ms
  pub size : plains_size ps ≤ plains_size ms

abbrev pub Picking : (List Scalar → Picked) → List Scalar → Picked → Type 0
Picking f ms nothing = Unit {0}
Picking f ms (picked ps) = Picks f ms ps

string-more : (s : List ℕ) (ms : List Scalar) (q : Picked) → Picking strings_in ms q →
    Picking strings_in (string s ∷ ms) (before (string s ∷ []) q)
unfolding strings_in
string-more s ms nothing h = tt
string-more s ms (picked ps) h = record {
  again = rw h.again;
  fit = λ g. (g.0, h.fit g.1);
  many = ap suc h.many;
  size = omega (arith, h.size);
}

pub strings-picked : (ms : List Scalar) → Picking strings_in ms (strings_in ms)
unfolding strings_in
strings-picked [] = record { again = refl; fit = λ g. tt; many = refl; size = omega arith }
strings-picked (number n ∷ r) = tt
strings-picked (minus n ∷ r) = tt
strings-picked (string s ∷ r) = string-more s r (strings_in r) (strings-picked r)
strings-picked (other ∷ r) = tt

fault-more : (p q x : Scalar) (ms : List Scalar) (r : Picked) → (is_integer p && is_integer q) ≡ true → Picking error_reports_in ms r →
    Picking error_reports_in (p ∷ q ∷ x ∷ ms) (before (p ∷ q ∷ other ∷ []) r)
unfolding error_reports_in
fault-more p q x ms nothing e h = tt
fault-more p q x ms (picked ps) e h = record {
  again = rw (e, h.again);
  fit = λ g. (g.0, (g.1.0, (tt, h.fit g.1.1.1)));
  many = ap (λ (n : ℕ). suc (suc (suc n))) h.many;
  size = omega (arith, h.size, plain-least x);
}

faults-picked : (ms : List Scalar) → Picking error_reports_in ms (error_reports_in ms)
unfolding error_reports_in
faults-picked [] = record { again = refl; fit = λ g. tt; many = refl; size = omega arith }
faults-picked (p ∷ []) = tt
faults-picked (p ∷ q ∷ []) = tt
faults-picked (p ∷ q ∷ x ∷ r) = by (is_integer p && is_integer q) refl (faults-picked r)
  where
    by : (b : Bool) → (is_integer p && is_integer q) ≡ b → Picking error_reports_in r (error_reports_in r) →
        Picking error_reports_in (p ∷ q ∷ x ∷ r) (cond b (before (p ∷ q ∷ other ∷ []) (error_reports_in r)) nothing)
    by true e h = fault-more p q x r (error_reports_in r) e h
    by false e h = tt

-- one at least
some-again : (ms ps : List Scalar) → Picks error_reports_in ms ps → 1 ≤ length ms → Picks (at_least_one error_reports_in) ms ps
some-again ms [] h l = absurd (omega (arith, h.many))
some-again ms (p ∷ ps) h l = record { again = h.again; fit = h.fit; many = h.many; size = h.size }

pub reports-picked : (ms : List Scalar) → Picking (at_least_one error_reports_in) ms (at_least_one error_reports_in ms)
reports-picked [] = tt
reports-picked (m ∷ ms) = by (error_reports_in (m ∷ ms)) (faults-picked (m ∷ ms))
  where
    by : (q : Picked) → Picking error_reports_in (m ∷ ms) q → Picking (at_least_one error_reports_in) (m ∷ ms) q
    by nothing h = tt
    by (picked ps) h = some-again (m ∷ ms) ps h (omega arith)
