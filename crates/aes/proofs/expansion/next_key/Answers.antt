-- Each word of the next key is the sum of the word before it and the one four back.
use mathlib.Core.Path.{◌∙◌}
use Rattle.lemmas.specs.lists.Xor.{◌⊕◌}
use Rattle.aes.proofs.RoundKeys.{next-key-bytes}
use Rattle.aes.proofs.expansion.next_key.Goals as goal

pub returns : goal.returns
unfolding ◌⊕◌
returns c =
    let p = c.word_at in
    let u = c.substituted_word in
    let v = c.word in
    let q = c.word_at-2 in
    let r = c.word_at-3 in
    let s = c.word_at-4 in
    c.bytes_of.ensures
    ∙ next-key-bytes c.args.rc c.args.k p.result q.result r.result s.result u.result v.result
    p.ensures q.ensures r.ensures s.ensures u.ensures v.ensures
