-- Four bytes of entries as a word, and the round key's word added.
use mathlib.Core.Path.{refl, ◌∙◌}
use Rattle.lemmas.specs.lists.Xor.{◌⊕◌}
use Rattle.aes.proofs.Words.{add-bytes, column-eq}
use Rattle.aes.proofs.columns.last_column.Goals as goal

pub returns : goal.returns
unfolding ◌⊕◌
returns c =
    let first = c.substituted.ensures in
    let second = c.substituted-2.ensures in
    let third = c.substituted-3.ensures in
    let fourth = c.substituted-4.ensures in
    add-bytes c.word.result c.args.k (c.word.ensures ∙ column-eq first second third fourth) refl
