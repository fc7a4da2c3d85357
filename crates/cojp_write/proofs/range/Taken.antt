-- A parameter's report decides what is written of it and whether it is judged.
use mathlib.Core.Path.{◌≡◌, refl, sym, ◌∙◌}
use mathlib.Core.Bool.{Bool, true, false, false≢true}
use Rattle.cojp.specs.Reading.{if_taken}
use Rattle.cojp.specs.declared.disposition.Disposition.{Disposition}
use Rattle.cojp.specs.declared.disposition.Disposition.TheVariants.{Absent, Taken, Discarded}

module _ {A : Type 0} where
  pub taken_is : (r : Disposition) (a b : A) (t : Bool) → t ≡ if_taken r true false → t ≡ true → if_taken r a b ≡ a
  taken_is Absent a b t e h = absurd (false≢true (sym e ∙ h))
  taken_is Taken a b t e h = refl
  taken_is Discarded a b t e h = absurd (false≢true (sym e ∙ h))

  pub taken_not : (r : Disposition) (a b : A) (t : Bool) → t ≡ if_taken r true false → t ≡ false → if_taken r a b ≡ b
  taken_not Absent a b t e h = refl
  taken_not Taken a b t e h = absurd (false≢true (sym h ∙ e))
  taken_not Discarded a b t e h = refl
