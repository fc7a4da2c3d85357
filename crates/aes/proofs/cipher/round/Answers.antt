-- The four columns are the table's columns of what ShiftRows picks, each with its word of the round key added.
use mathlib.Core.Path.{◌∙◌}
use Rattle.aes.specs.Words.{spread_by}
use Rattle.aes.proofs.Words.{columns, rounded}
use Rattle.aes.proofs.cipher.round.Goals as goal

pub returns : goal.returns
returns c =
    let args = c.args in
    let t = args.t.now in
    let s = args.s in
    let k = args.k in
    let k0 = c.word_at in
    let k4 = c.word_at-2 in
    let k8 = c.word_at-3 in
    let k12 = c.word_at-4 in
    let w = c.column in
    let x = c.column-2 in
    let y = c.column-3 in
    let z = c.column-4 in
    columns (spread_by t) s.a s.b s.c s.d k k0.result k4.result k8.result k12.result
    w.result x.result y.result z.result k0.ensures k4.ensures k8.ensures k12.ensures
    w.ensures x.ensures y.ensures z.ensures
    ∙ rounded t s.a s.b s.c s.d k
