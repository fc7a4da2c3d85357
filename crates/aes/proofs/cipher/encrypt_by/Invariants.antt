-- The invariant: the words hold the state after n rounds over the table, and so the standard's state if the table is right.
use Rattle.aes.specs.Words.{state_of}
use Rattle.aes.proofs.Rounds.{Rounding}
use Rattle.aes.proofs.cipher.encrypt_by.Given as goal

abbrev pub invariant-loop-k : goal.invariant-loop-k
invariant-loop-k l = Rounding l.t l.fn.keys (state_of l.initial.x) (state_of l.x) l.k-index
