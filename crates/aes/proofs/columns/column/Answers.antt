-- The word of the table's four entries, turned, and the round key's word, byte by byte.
use Rattle.std.proofs.Common.{◌/◌, ◌%◌, ◌∙◌, ap, List, ℕ}
use Rattle.lemmas.specs.lists.Xor.{◌⊕◌}
use Rattle.aes.specs.Words.{turned}
use Rattle.aes.proofs.Words.{column-bytes}
use Rattle.aes.proofs.columns.column.Goals as goal

pub returns : goal.returns
unfolding ◌⊕◌
returns c =
    let args = c.args in
    column-bytes args.t.now (args.a % 256) (args.b / 256 % 256) (args.c / 65536 % 256) (args.d / 16777216 % 256)
    c.turned.result c.turned-3.result c.turned-6.result args.k c.turned.ensures
    (c.turned-3.ensures ∙ ap turned c.turned-2.ensures)
    (c.turned-6.ensures ∙ ap turned c.turned-5.ensures ∙ ap (λ (l : List ℕ). turned (turned l)) c.turned-4.ensures)
