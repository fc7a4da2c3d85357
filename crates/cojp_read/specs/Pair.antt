-- For the contracts of private functions alone: what a reader answers, and a pair of the map that is taken into what was gathered.
use Rattle.std.specs.Prelude.{ℕ, List, ◌≡◌, Result, Ok, Err, IfOk}
use Rattle.refusal.specs.declared.Refusal.{Refusal}
use Rattle.cbor.specs.View.{label_at}
use Rattle.cojp.specs.Bytes.{value_view, after_value, EndsAt}
use Rattle.cojp.specs.Reading.{Reading, refused, read}
use Rattle.cojp.specs.Walk.{Form, pair_read}

-- an answer as a reading, what was read being put in its place
abbrev pub reading_in : {A B : Type 0} → (A → B) → Result A Refusal → Reading B
reading_in f (Ok a) = read (f a)
reading_in f (Err k) = refused k

-- c was gathered before the pair at the bytes l of the payload s, and d after it; the answer is where the bytes go on
pub record PairTaken {S : Type 0} (F : Form S) (c : S) (s l : List ℕ) (r : Result ℕ Refusal) (d : S) : Type 0 where
  pub says : reading_in (λ (n : ℕ). d) r ≡ pair_read F c (label_at l) (value_view (after_value l))
  pub ends : IfOk r (λ (next : ℕ). EndsAt s next (after_value (after_value l)))
