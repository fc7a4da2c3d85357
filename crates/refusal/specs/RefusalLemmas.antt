-- Lemmas: nothing here has to be believed.
-- No verdict is both, and a refusal's number is not 0.
use Rattle.std.specs.Prelude.{ℕ, ◌≡◌, refl, List, ◌∷◌, Ok, Err}
use Rattle.std.proofs.Common.{arith, sym}
use Rattle.refusal.specs.Refusal.{number_of}
use Rattle.refusal.specs.Order.{in_order}
use Rattle.refusal.specs.Verdict.{Verdict}
use Rattle.refusal.specs.declared.Refusal.{Refusal}
use Rattle.refusal.specs.declared.Refusal.TheVariants.{Cut, Form, Deep, Extra, «Type», Twice, Keys, Role, Owed, Clash, Clock, Room}
use Rattle.refusal.specs.declared.Refusal.TheVariants.{Range, Silent, Long, Phase, Full, Unknown, Loose, Seal, Spent, Stale}

pub refused-not : {A : Type 0} (k : Refusal) → ◌≡◌ {A = Verdict} (Err k) (Ok tt) → A
refused-not k e = absurd (let z : ◌≡◌ {A = ℕ} 0 1 = cc in omega arith)

pub accepted-not : {A : Type 0} (k : Refusal) → ◌≡◌ {A = Verdict} (Ok tt) (Err k) → A
accepted-not k e = refused-not k (sym e)

-- a refusal's number is not 0
pub refused-first : (k : Refusal) (numbers : List ℕ) → in_order (number_of k ∷ numbers) ≡ number_of k
refused-first Cut numbers = refl
refused-first Form numbers = refl
refused-first Deep numbers = refl
refused-first Extra numbers = refl
refused-first «Type» numbers = refl
refused-first Twice numbers = refl
refused-first Keys numbers = refl
refused-first Role numbers = refl
refused-first Owed numbers = refl
refused-first Clash numbers = refl
refused-first Clock numbers = refl
refused-first Room numbers = refl
refused-first Range numbers = refl
refused-first Silent numbers = refl
refused-first Long numbers = refl
refused-first Phase numbers = refl
refused-first Full numbers = refl
refused-first Unknown numbers = refl
refused-first Loose numbers = refl
refused-first Seal numbers = refl
refused-first Spent numbers = refl
refused-first Stale numbers = refl
