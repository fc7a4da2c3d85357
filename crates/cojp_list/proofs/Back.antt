-- What is written of a list that is kept reads back as it.
use Prim.Native.Nat.{ℕ, ◌≤◌}
use mathlib.Core.Path.{◌≡◌, refl, ap, sym, ◌∙◌}
use mathlib.Core.Bool.{Bool, true, false, cond, ◌&&◌}
use mathlib.Core.List.{List, [], ◌∷◌, ◌++◌}
use native.Mathlib.Omega.{arith}
use lib.Dec.{leb, eqb}
use lib.ListN.{length, take}
use lib.Seq.{take-append_seam}
use borrow.Author.Tests.{le-leb, leb-true, eqb-true}
use Rattle.cbor.specs.Encode.{encode, shortest}
use Rattle.cbor.specs.Item.{array}
use Rattle.cbor.specs.View.{Scalar, number, minus, string, other, scalars_of, view_of}
use Rattle.lemmas.specs.lists.Same.{same}
use Rattle.lemmas.specs.lists.SameLemmas.{same-equal}
use Rattle.lemmas.specs.logic.Tests.{both_left, both_right}
use Rattle.cojp.specs.Bytes.{members_at}
use Rattle.cojp.specs.Octets.{padded}
use Rattle.cojp.specs.Lists.{Picked, nothing, picked, before, fitting, items_of, written, is_integer, strings_in, error_reports_in}
use Rattle.cojp.specs.Lists.{at_least_one, in_array, list_of, list_answer, bytes_in, same_as, kept, items_in, picked_items}
use Rattle.cojp.specs.ListLemmas.{scalar-back, items-count}
use Rattle.cojp.specs.declared.list.ItemList.{ItemList}

-- ---- members as items, and back
plains-back : (ps : List Scalar) → scalars_of (items_of ps) ≡ ps
plains-back [] = refl
plains-back (p ∷ ps) = rw (scalar-back p, plains-back ps)

-- ---- what is kept is kept again
abbrev pub Again : (List Scalar → Picked) → Type 0
Again f = (ms ps : List Scalar) → f ms ≡ picked ps → f ps ≡ picked ps

never : {A : Type 0} (ps : List Scalar) → nothing ≡ picked ps → A
never ps e = absurd (let z : ◌≡◌ {A = ℕ} 0 1 = cc in omega arith)

again-before : (f : List Scalar → Picked) (xs : List Scalar) (q : Picked) (ps : List Scalar)
    → ((qs : List Scalar) → q ≡ picked qs → f (xs ++ qs) ≡ picked (xs ++ qs)) → before xs q ≡ picked ps → f ps ≡ picked ps
again-before f xs nothing ps h e = never ps e
again-before f xs (picked qs) ps h e = let g : xs ++ qs ≡ ps = cc in rw g at (h qs refl)

pub strings-again : Again strings_in
unfolding strings_in
strings-again [] ps e = let g : [] ≡ ps = cc in rw (← g)
strings-again (number n ∷ r) ps e = never ps e
strings-again (minus n ∷ r) ps e = never ps e
strings-again (string s ∷ r) ps e =
    again-before strings_in (string s ∷ []) (strings_in r) ps (λ qs g. rw (strings-again r qs g)) e
strings-again (other ∷ r) ps e = never ps e

faults-again : Again error_reports_in
unfolding error_reports_in
faults-again [] ps e = let g : [] ≡ ps = cc in rw (← g)
faults-again (p ∷ []) ps e = never ps e
faults-again (p ∷ q ∷ []) ps e = never ps e
faults-again (p ∷ q ∷ x ∷ r) ps e = go (λ qs g. faults-again r qs g) (is_integer p && is_integer q) refl e
  where
    go : ((qs : List Scalar) → error_reports_in r ≡ picked qs → error_reports_in qs ≡ picked qs)
        → (b : Bool) → (is_integer p && is_integer q) ≡ b
        → cond b (before (p ∷ q ∷ other ∷ []) (error_reports_in r)) nothing ≡ picked ps → error_reports_in ps ≡ picked ps
    go h false f e = never ps e
    go h true f e = again-before error_reports_in (p ∷ q ∷ other ∷ []) (error_reports_in r) ps (λ qs g. rw (f, h qs g)) e

pub some-again : Again (at_least_one error_reports_in)
unfolding error_reports_in
some-again [] ps e = never ps e
some-again (p ∷ ms) ps e = go ps (faults-again (p ∷ ms) ps e) (first p ms ps e)
  where
    first : (p : Scalar) (ms ps : List Scalar) → error_reports_in (p ∷ ms) ≡ picked ps → ps ≡ [] → ⊥
    first p [] ps e = never ps e
    first p (q ∷ []) ps e = never ps e
    first p (q ∷ x ∷ r) ps e = by (is_integer p && is_integer q) (error_reports_in r) e
      where
        by : (b : Bool) (k : Picked) → cond b (before (p ∷ q ∷ other ∷ []) k) nothing ≡ picked ps → ps ≡ [] → ⊥
        by false k e = never ps e
        by true nothing e = never ps e
        by true (picked qs) e = λ g. let z : ◌≡◌ {A = ℕ} 0 1 = cc in omega arith

    go : (ps : List Scalar) → error_reports_in ps ≡ picked ps → (ps ≡ [] → ⊥) → at_least_one error_reports_in ps ≡ picked ps
    go [] e h = absurd (h refl)
    go (q ∷ ps) e h = e

-- ---- a list that is kept
pub record Parts (f : List Scalar → Picked) (l : ItemList) : Type 0 where
  pub members : List Scalar
  pub picks : f (members_at l.count (bytes_in l)) ≡ picked members
  pub small : length (written members) ≤ 253
  pub many : length members ≡ l.count
  pub bytes : written members ≡ bytes_in l

pub kept-parts : (f : List Scalar → Picked) (l : ItemList) → kept f l ≡ true → Parts f l
unfolding kept same_as padded
kept-parts f l e =
    go (f (members_at l.count (bytes_in l))) refl
    (both_right (leb l.len 253) (same_as (list_answer (fitting 253 (f (members_at l.count (bytes_in l))))) l) e)
  where
    by : (ps : List Scalar) → f (members_at l.count (bytes_in l)) ≡ picked ps → (b : Bool) → leb (length (written ps)) 253 ≡ b
        → same_as (list_answer (cond b (picked ps) nothing)) l ≡ true → Parts f l
    by ps g false k h = absurd (let z : ◌≡◌ {A = ℕ} 0 1 = cc in omega arith)
    by ps g true k h =
        let counts = eqb (length ps) l.count in
        let same = same (take (length (written ps)) (padded 253 (written ps))) (bytes_in l) in
        record {
          members = ps;
          picks = g;
          small = leb-true (length (written ps)) 253 k;
          many = eqb-true (length ps) l.count (both_left counts same h);
          bytes = sym (take-append_seam (written ps) _)
              ∙ same-equal (take (length (written ps)) (padded 253 (written ps))) (bytes_in l) (both_right counts same h);
        }

    go : (q : Picked) → f (members_at l.count (bytes_in l)) ≡ q → same_as (list_answer (fitting 253 q)) l ≡ true → Parts f l
    go nothing g h = absurd (let z : ◌≡◌ {A = ℕ} 0 1 = cc in omega arith)
    go (picked ps) g h = by ps g (leb (length (written ps)) 253) refl h

module _ (f : List Scalar → Picked) (l : ItemList) (p : Parts f l) where
  items-are : items_in f l ≡ items_of p.members
  items-are = ap picked_items p.picks

  pub list_written : encode (array (items_in f l)) ≡ shortest 4 l.count ++ bytes_in l
  list_written = rw (items-are, items-count p.members, p.many, p.bytes)

  pub list_back : Again f
      → list_answer (fitting 253 (in_array f (view_of (array (items_in f l))))) ≡ record { good = true; value = list_of p.members }
  list_back a =
      rw (
        items-are,
        plains-back p.members,
        a (members_at l.count (bytes_in l)) p.members p.picks,
        le-leb (length (written p.members)) 253 p.small,
      )

  pub list_same : ((list_of p.members).count ≡ l.count) × (bytes_in (list_of p.members) ≡ bytes_in l)
  unfolding padded
  list_same = (p.many, take-append_seam (written p.members) _ ∙ p.bytes)
