-- The table is right, and the round keys are the key's.
use mathlib.Core.Path.{◌∙◌}
use Rattle.aes.specs.Cipher.{encrypted}
use Rattle.aes.proofs.cipher.encrypt.Goals as goal

pub returns : goal.returns
unfolding encrypted
returns c = c.encrypt_by.ensures.standard c.round_table-t.ensures.right ∙ rw c.expand.ensures
