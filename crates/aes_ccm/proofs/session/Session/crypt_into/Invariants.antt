-- The invariant: so many bytes are encrypted, and within a block the key stream's block at hand is that of the next byte.
use Rattle.std.proofs.Common.{◌≡◌, ◌+◌, ◌/◌, ◌%◌}
use Rattle.lemmas.specs.lists.Writing.{Writing}
use Rattle.aes_ccm.specs.Ccm.{stream}
use Rattle.aes_ccm.proofs.Streams.{crypt_byte}
use Rattle.aes_ccm.proofs.session.Session.crypt_into.Given as goal

abbrev pub invariant-loop-j : goal.invariant-loop-j
invariant-loop-j l =
    Writing (crypt_byte l.self.keys l.self.nonce l.src) l.initial.dst l.dst l.j
    × ((l.j % 16 ≡ 0 → ⊥) → l.s ≡ stream l.self.keys l.self.nonce (l.j / 16 + 1))
