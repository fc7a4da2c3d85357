-- What a parameter's report decides. A law over every type does not fit into a contract, so it is shown here by the three reports.
use mathlib.Core.Path.{◌≡◌, refl, sym, ◌∙◌}
use mathlib.Core.Bool.{Bool, true, false}
use Rattle.cojp.specs.Reading.{if_taken}
use Rattle.cojp.specs.declared.disposition.Disposition.{Disposition}
use Rattle.cojp.specs.declared.disposition.Disposition.TheVariants.{Absent, Taken, Discarded}
use Rattle.lemmas.specs.logic.Tests.{never}

module _ {X : Type 0} (r : Disposition) (x old : X) (t : Bool) (e : t ≡ if_taken r true false) where
  taken-by : (s : Disposition) → if_taken s true false ≡ true → if_taken s x old ≡ x
  taken-by Absent h = never false h refl
  taken-by Taken h = refl
  taken-by Discarded h = never false h refl

  not-by : (s : Disposition) → if_taken s true false ≡ false → if_taken s x old ≡ old
  not-by Absent h = refl
  not-by Taken h = never true refl h
  not-by Discarded h = refl

  pub taken_is : t ≡ true → if_taken r x old ≡ x
  taken_is h = taken-by r (sym e ∙ h)

  pub taken_not : t ≡ false → if_taken r x old ≡ old
  taken_not h = not-by r (sym e ∙ h)
