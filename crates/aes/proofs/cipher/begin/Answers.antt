-- Each word is the sum of two words, and so are its bytes.
use mathlib.Core.Path.{◌∙◌}
use Rattle.lemmas.specs.lists.Xor.{◌⊕◌}
use Rattle.aes.proofs.Words.{add-bytes, joined, begun}
use Rattle.aes.proofs.cipher.begin.Goals as goal

pub returns : goal.returns
unfolding ◌⊕◌
returns c =
    let s0 = c.word_at in
    let k0 = c.word_at-2 in
    let s4 = c.word_at-3 in
    let k4 = c.word_at-4 in
    let s8 = c.word_at-5 in
    let k8 = c.word_at-6 in
    let s12 = c.word_at-7 in
    let k12 = c.word_at-8 in
    joined (add-bytes s0.result k0.result s0.ensures k0.ensures)
    (add-bytes s4.result k4.result s4.ensures k4.ensures)
    (add-bytes s8.result k8.result s8.ensures k8.ensures) (add-bytes s12.result k12.result s12.ensures k12.ensures)
    ∙ begun c.args.s c.args.k
