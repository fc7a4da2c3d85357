-- The invariant: the chain over the rest from here is the chain over all from the start.
use Rattle.std.proofs.Common.{◌≡◌}
use Rattle.aes_ccm.specs.Ccm.{blocks, chain}
use Rattle.aes_ccm.proofs.session.Session.absorb.Given as goal

abbrev pub invariant-loop-chunk : goal.invariant-loop-chunk
invariant-loop-chunk l =
    (chain l.self.keys l.y (blocks l.chunk-iterator.rest.now) ≡ chain l.self.keys l.initial.y (blocks l.s)) × (l.chunk-iterator.size ≡ 16)
