-- A pair that is taken into what was gathered, for any object; and a walk over pairs that are taken one by one.
use Rattle.std.specs.Prelude.{Ok, Err, Result, IfOk}
use Prim.Native.Nat.{ℕ, ◌+◌, ◌-◌, ◌≤◌, ◌<◌}
use mathlib.Core.Path.{◌≡◌, refl, ap, ◌∙◌}
use mathlib.Core.List.{List}
use lib.ListN.{drop}
use Rattle.refusal.specs.declared.Refusal.{Refusal}
use Rattle.cojp.specs.Bytes.{value_view, after_value, EndsAt}
use Rattle.cojp.specs.Reading.{Reading, refused, map_reading}
use Rattle.cojp.specs.Walk.{Form, known_read}
use Rattle.cojp.specs.declared.walk.LabelStatus.TheVariants.{Unknown}
use Rattle.cojp_map.specs.Pairs.{PairLabelSpec}
use Rattle.cojp_map.proofs.Maps.{turned-known, turned-passed, turned-refused, Walking, turn-stops, turn-goes}
use Rattle.cojp_read.specs.Pair.{reading_in, PairTaken}

-- what an answer says is put in its place
pub put-reading : {A B : Type 0} (f : A → B) (r : Result ℕ Refusal) (a : A) (x : Reading A) → reading_in (λ (n : ℕ). a) r ≡ x
    → reading_in (λ (n : ℕ). f a) r ≡ map_reading f x
put-reading {A} f r a x e = go r ∙ ap (map_reading f) e
  where
    go : (r : Result ℕ Refusal) → reading_in (λ (n : ℕ). f a) r ≡ map_reading f (reading_in (λ (n : ℕ). a) r)
    go (Ok n) = refl
    go (Err k) = refl

module _ {S : Type 0} (F : Form S) where
  module _ (c : S) (s l : List ℕ) (p : Result (ℕ × ℕ) Refusal) (t : PairLabelSpec s l p) where
    pub taken-refused : (k : Refusal) → p ≡ Err k → (d : S) → PairTaken F c s l (Err k) d
    taken-refused k h d =
        let turned = turned-refused F c s l p t k h d 0 in
        record { says = turned.says; ends = tt }

    module _ (q : ℕ × ℕ) (h : p ≡ Ok q) where
      pub taken-known : 0 < q.0 → (r : Result ℕ Refusal) (d : S)
          → reading_in (λ (n : ℕ). d) r ≡ known_read F (F.standing c q.0) c q.0 (value_view (drop q.1 s))
          → IfOk r (λ (n : ℕ). EndsAt s n (after_value (drop q.1 s))) → PairTaken F c s l r d
      taken-known some (Ok n) d says ends =
          let turned = turned-known F c s l p t q h some (Ok tt) d n says ends in
          record { says = turned.says; ends = turned.ends }
      taken-known some (Err k) d says ends =
          let turned = turned-known F c s l p t q h some (Err k) d 0 says tt in
          record { says = turned.says; ends = tt }

      pub taken-passed : F.standing c q.0 ≡ Unknown → (next : ℕ) → EndsAt s next (after_value (drop q.1 s))
          → PairTaken F c s l (Ok next) (F.passing c)
      taken-passed unknown next e =
          let turned = turned-passed F c s l p t q h unknown next e in
          record { says = turned.says; ends = turned.ends }

  module _ (total : Reading S) (count : ℕ) {p n : ℕ} {c : S} (s l : List ℕ) (i : Walking F total count p n c l) (h : 0 < n) where
    pub pair-stops : (k : Refusal) (d : S) → PairTaken F c s l (Err k) d → refused k ≡ total
    pair-stops k d t = turn-stops F total count s l i h (Err k) d 0 (record { says = t.says; ends = tt }) k refl

    pub pair-goes : (next : ℕ) (d : S) → PairTaken F c s l (Ok next) d → (q : ℕ) → q ≤ p + 1
        → Walking F total count q (n - 1) d (drop next s)
    pair-goes next d t q f = turn-goes F total count s l i h (Ok tt) d next (record { says = t.says; ends = t.ends }) refl q f
