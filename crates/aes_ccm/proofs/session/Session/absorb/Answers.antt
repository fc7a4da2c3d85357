-- The invariant: the chain over the rest from here is the chain over all from the start.
use Rattle.std.proofs.Common.{◌∙◌, sym, min, length, ap, ℕ}
use Rattle.aes_ccm.proofs.Blocks.{chain-chunk, chain-done}
use Rattle.aes_ccm.proofs.session.Session.absorb.Goals as goal

pub loop-chunk-preserved : goal.loop-chunk-preserved
loop-chunk-preserved c =
    let steps = c.in-Some.ensures.steps in
    let turn = c.loop-chunk in
    let long = steps.1.1 ∙ ap (λ (n : ℕ). min n (length turn.chunk-iterator.rest.now)) turn.invariant.1 in (
      chain-chunk c.args.self.now.keys turn.y c.in-Some.chunk.now c.next.new.self.rest.now steps.1.0 long steps.1.2 c.block.ensures
          c.add_round_key.ensures c.encrypt-y.ensures
          ∙ turn.invariant.0,
      steps.0 ∙ turn.invariant.1,
    )

pub returns : goal.returns
returns c =
    let turn = c.loop-chunk in
    sym (chain-done c.args.self.now.keys turn.y turn.chunk-iterator.rest.now c.in-None.ensures.steps.1.0) ∙ turn.invariant.0
