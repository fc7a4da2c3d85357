-- The table of names has each refusal's name at the refusal's place, which is its number less 1.
use Prim.Native.Nat.{◌-◌, ◌≤◌, ◌<◌}
use native.Mathlib.Omega.{arith}
use mathlib.Core.Path.{◌≡◌, refl}
use mathlib.Core.List.{List, [], ◌∷◌, map}
use lib.ListN.{get_or}
use Rattle.refusal.specs.Refusal.{number_of, name_of}
use Rattle.refusal.specs.declared.Refusal.{Refusal}
use Rattle.refusal.specs.declared.Refusal.TheVariants.{Cut, Form, Deep, Extra, «Type», Twice, Keys, Role, Owed, Clash, Clock, Room}
use Rattle.refusal.specs.declared.Refusal.TheVariants.{Range, Silent, Long, Phase, Full, Unknown, Loose, Seal, Spent, Stale}

abbrev every : List Refusal
every = Cut ∷ Form ∷ Deep ∷ Extra ∷ «Type» ∷ Twice ∷ Keys ∷ Role ∷ Owed ∷ Clash ∷ Clock ∷ Room ∷ Range ∷ Silent ∷ Long ∷ Phase ∷ Full
    ∷ Unknown ∷ Loose ∷ Seal ∷ Spent ∷ Stale ∷ []

pub record Placed (r : Refusal) : Type 0 where
  pub low : 1 ≤ number_of r
  pub high : number_of r - 1 < 22
  pub name : get_or (map name_of every) (number_of r - 1) [] ≡ name_of r

pub placed : (r : Refusal) → Placed r
placed Cut = record { low = omega arith; high = omega arith; name = refl }
placed Form = record { low = omega arith; high = omega arith; name = refl }
placed Deep = record { low = omega arith; high = omega arith; name = refl }
placed Extra = record { low = omega arith; high = omega arith; name = refl }
placed «Type» = record { low = omega arith; high = omega arith; name = refl }
placed Twice = record { low = omega arith; high = omega arith; name = refl }
placed Keys = record { low = omega arith; high = omega arith; name = refl }
placed Role = record { low = omega arith; high = omega arith; name = refl }
placed Owed = record { low = omega arith; high = omega arith; name = refl }
placed Clash = record { low = omega arith; high = omega arith; name = refl }
placed Clock = record { low = omega arith; high = omega arith; name = refl }
placed Room = record { low = omega arith; high = omega arith; name = refl }
placed Range = record { low = omega arith; high = omega arith; name = refl }
placed Silent = record { low = omega arith; high = omega arith; name = refl }
placed Long = record { low = omega arith; high = omega arith; name = refl }
placed Phase = record { low = omega arith; high = omega arith; name = refl }
placed Full = record { low = omega arith; high = omega arith; name = refl }
placed Unknown = record { low = omega arith; high = omega arith; name = refl }
placed Loose = record { low = omega arith; high = omega arith; name = refl }
placed Seal = record { low = omega arith; high = omega arith; name = refl }
placed Spent = record { low = omega arith; high = omega arith; name = refl }
placed Stale = record { low = omega arith; high = omega arith; name = refl }
