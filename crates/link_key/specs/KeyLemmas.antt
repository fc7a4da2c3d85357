-- Lemmas: nothing here has to be believed.
-- What a search for a key gave.
use Rattle.std.specs.Prelude.{◌≡◌, refl}
use Rattle.std.specs.declared.option.Option.TheVariants.{None, Some}
use Rattle.std.proofs.Math.Option.{Option, none, some}
use Rattle.link_key.specs.Key.{found_key}
use Rattle.link_key.specs.declared.Key.{Key}

pub found_some : (o : Option Key) {k : Key} → found_key o ≡ Some k → o ≡ some k
found_some none e = cc
found_some (some l) e = cc

pub found_none : (o : Option Key) → found_key o ≡ None → o ≡ none
found_none none e = refl
found_none (some k) e = cc
