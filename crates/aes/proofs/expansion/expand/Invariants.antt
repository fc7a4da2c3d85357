-- The invariant: round keys 0 to n stand in place, and rc is the constant of the next.
use Rattle.std.proofs.Common.{◌≡◌, [], get_or}
use Rattle.lemmas.specs.lists.Table.{table}
use Rattle.aes.specs.Field.{sub_byte}
use Rattle.aes.proofs.RoundKeys.{Expanding}
use Rattle.aes.proofs.expansion.expand.Given as goal

abbrev pub invariant-loop-n : goal.invariant-loop-n
invariant-loop-n l = (l.list ≡ table 256 sub_byte) × Expanding (get_or l.initial.keys 0 []) l.keys l.rc l.n
