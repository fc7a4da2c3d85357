-- One known label more says what became of its own parameter and nothing of the others. What each value tells can be told in other words.
use Prim.Native.Nat.{ℕ, ◌≤◌}
use native.Mathlib.Omega.{arith}
use mathlib.Core.Path.{◌≡◌, refl}
use mathlib.Core.Bool.{Bool, true, false, cond}
use mathlib.Core.List.{List, [], ◌∷◌, ◌++◌}
use lib.Dec.{eqb}
use borrow.Author.Tests.{eq-eqb}
use Rattle.cbor.specs.Item.{Pairs, empty, pair}
use Rattle.cbor.specs.View.{View, label_of, view_of}
use Rattle.cbor.specs.declared.value.Label.{Label}
use Rattle.cbor.specs.declared.value.Label.TheVariants as label
use Rattle.cojp.specs.Reading.{Reading, refused, read}
use Rattle.lemmas.specs.logic.Tests.{neither_left, neither_right}
use Rattle.cojp_rfc9031_laws.specs.GoodValues.{Chosen, CameAs}
use Rattle.cojp_rfc9031_laws.specs.Labels.{is_in, Known, known_of, labels_of, known_first, known_in}
use Rattle.cojp_rfc9031_laws.proofs.Items.{view_size, pairs_size}
use Rattle.cojp_rfc9031_laws.proofs.Walk.{Took}

-- two things that hold of what was read
pub took-both : {S : Type 0} (P Q : S → Type 0) (r : Reading S) → Took P r → Took Q r → Took (λ s. P s × Q s) r
took-both P Q (refused k) p q = absurd p
took-both P Q (read s) p q = (p, q)

module _ {P : Type 0} (Told : View → P → Type 0) (absent : P) (n : ℕ) (p : P) where
  pub met-others : (ks : List Known) (k : Known) → eqb n k.label ≡ false → CameAs Told absent n ks p →
      CameAs Told absent n (ks ++ (k ∷ [])) p
  met-others [] k e h = rw e h
  met-others (j ∷ ks) k e h = by (eqb n j.label) (met-others ks k e) h
    where
      by : (b : Bool) → (CameAs Told absent n ks p → CameAs Told absent n (ks ++ (k ∷ [])) p) →
          Chosen b (Told j.value p) (CameAs Told absent n ks p) → Chosen b (Told j.value p) (CameAs Told absent n (ks ++ (k ∷ [])) p)
      by true f g = g
      by false f g = f g

  pub met-first : (ks : List Known) (v : View) → is_in n (labels_of ks) ≡ false → Told v p →
      CameAs Told absent n (ks ++ (known_of n v ∷ [])) p
  met-first [] v e t = rw (eq-eqb n n refl) t
  met-first (j ∷ ks) v e t =
      rw (neither_left (eqb n j.label) (is_in n (labels_of ks)) e)
      (met-first ks v (neither_right (eqb n j.label) (is_in n (labels_of ks)) e) t)

-- ---- every known value is small in a small payload
abbrev pub Small : List Known → Type 0
Small [] = Unit {0}
Small (k ∷ ks) = (view_size k.value ≤ 254) × Small ks

pub small-known : (known : List ℕ) (ps : Pairs) → pairs_size ps ≤ 255 → Small (known_in known ps)
small-known known empty l = tt
small-known known (pair k v ps) l = first (label_of k) (small-known known ps (omega (arith, l)))
  where
    first : (a : Label) → Small (known_in known ps) → Small (known_first known a (view_of v) (known_in known ps))
    first label.NoInteger h = h
    first label.Negative h = h
    first (label.Number n) h = by (is_in n known)
      where
        by : (b : Bool) → Small (cond b (known_of n (view_of v) ∷ known_in known ps) (known_in known ps))
        by true = (omega (arith, l), h)
        by false = h

pub told-so : {P : Type 0} (T U : View → P → Type 0) (absent : P) (n : ℕ) (p : P) → ((x : View) → view_size x ≤ 254 → T x p → U x p) →
    (ks : List Known) → Small ks → CameAs T absent n ks p → CameAs U absent n ks p
told-so T U absent n p f [] s h = h
told-so T U absent n p f (k ∷ ks) s h = by (eqb n k.label) (told-so T U absent n p f ks s.1) h
  where
    by : (b : Bool) → (CameAs T absent n ks p → CameAs U absent n ks p) →
        Chosen b (T k.value p) (CameAs T absent n ks p) → Chosen b (U k.value p) (CameAs U absent n ks p)
    by true g t = f k.value s.0 t
    by false g t = g t
