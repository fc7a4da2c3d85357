-- The invariant: so many bytes are encrypted, and within a block the key stream's block at hand is that of the next byte.
use Rattle.std.proofs.Common.{◌≡◌, refl, sym, ◌∙◌, ap, List, ◌++◌, ℕ, ◌+◌, ◌/◌, ◌%◌, length, get_or, drop, arith}
use Rattle.lemmas.specs.lists.Xor.{◌⊕◌}
use Rattle.lemmas.specs.lists.Writing.{begin, step, all}
use Rattle.aes_ccm.specs.Ccm.{stream, counter}
use Rattle.aes_ccm.proofs.Streams.{crypt-bytes}
use Rattle.aes_ccm.proofs.session.Session.crypt_into.Goals as goal
use Rattle.aes_ccm.proofs.session.Session.crypt_into.Goals.{then-j-eq0, else-j-eq0}

pub loop-j-init : goal.loop-j-init
loop-j-init c = (begin, λ k. absurd (k refl))

pub loop-j-preserved : goal.loop-j-preserved
unfolding ◌⊕◌ stream counter
loop-j-preserved c =
    let keys = c.args.self.now.keys in
    let nonce = c.args.self.now.nonce in
    let turn = c.loop-j in
    -- the block of the key stream that is at hand is the one for this byte
    let current : c.if-j-eq0.s ≡ stream keys nonce (turn.j / 16 + 1)
    = elim c.if-j-eq0.branch [
      | then-j-eq0 w ↦ w.s-is ∙ w.encrypt_framed-s.ensures
      | else-j-eq0 w ↦ w.s-is ∙ turn.invariant.1 w.if-j-eq0.false
    ] in (
      step turn.invariant.0 (omega arith) (ap (λ (l : List ℕ). get_or c.args.src.now turn.j 0 ⊕ get_or l (turn.j % 16) 0) current),
      λ k. let q : (turn.j + 1) / 16 ≡ turn.j / 16 = omega arith in current ∙ ap (λ (i : ℕ). stream keys nonce (i + 1)) (sym q),
    )

pub returns : goal.returns
returns c =
    let src = c.args.src.now in
    let dst = c.args.dst.now in
    all (length src) c.loop-j.invariant.0 (omega arith)
    ∙ ap (λ (l : List ℕ). l ++ drop (length src) dst)
    (sym (crypt-bytes c.laws.ensures c.args.self.now.keys c.args.self.now.nonce src))
