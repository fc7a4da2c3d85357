-- A shift that drops bit 7, and the modulus added where it was set.
use mathlib.Core.Path.{refl}
use Rattle.lemmas.specs.lists.Xor.{◌⊕◌}
use Rattle.aes.specs.Field.{xtime}
use Rattle.aes.proofs.expansion.times_x.Goals as goal

pub returns : goal.returns
unfolding xtime ◌⊕◌
returns c = refl
