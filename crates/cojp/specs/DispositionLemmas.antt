-- Lemmas: nothing here has to be believed.
-- What is taken of a parameter, by its disposition.
use Rattle.std.specs.Prelude.{ℕ, ◌≡◌, refl, true}
use Rattle.std.proofs.Common.{arith}
use Rattle.cojp.specs.Reading.{if_taken}
use Rattle.cojp.specs.Writing.{missing}
use Rattle.cojp.specs.declared.disposition.Disposition.{Disposition}
use Rattle.cojp.specs.declared.disposition.Disposition.TheVariants.{Absent, Taken, Discarded}

-- what holds of both values holds of the one that is chosen
pub by-disposition : {A : Type 0} (P : A → Type 0) (r : Disposition) {x y : A} → P x → P y → P (if_taken r x y)
by-disposition P Absent f g = g
by-disposition P Taken f g = f
by-disposition P Discarded f g = g

pub missing-keeps : {A : Type 0} (r : Disposition) (x y : A) → missing r ≡ true → if_taken r x y ≡ y
missing-keeps Absent x y e = refl
missing-keeps Taken x y e = absurd (let z : ◌≡◌ {A = ℕ} 0 1 = cc in omega arith)
missing-keeps Discarded x y e = refl
