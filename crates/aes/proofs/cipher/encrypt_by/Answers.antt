-- The invariant: the words hold the state after n rounds over the table, and so the standard's state if the table is right.
use Rattle.std.proofs.Common.{◌<◌, ◌∙◌, ap, List, ℕ, rules}
use Rattle.aes.specs.Cipher.{add_round_key}
use Rattle.aes.specs.Words.{state_of, spread_by, columns_by}
use Rattle.aes.proofs.Rounds.{round-begin, round-key, round-step, round-all, round-standard}
use Rattle.aes.proofs.Words.{state-all}
use Rattle.aes.proofs.cipher.encrypt_by.Goals as goal

pub loop-k-init : goal.loop-k-init
loop-k-init c = round-begin

pub loop-k-preserved : goal.loop-k-preserved
loop-k-preserved c =
    let turn = c.loop-k in
    let low : turn.k-index < 9 = search rules in
    round-step turn.invariant low (state-all _ _ _ _)
    (c.round-x.ensures
    ∙ ap (λ (k : List ℕ). add_round_key (columns_by (spread_by c.args.t.now) (state_of turn.x)) k) (round-key c.args.keys turn.k-index low))

pub returns-clause-exact : goal.returns-clause-exact
returns-clause-exact c =
    round-all c.args.block c.begin-x.ensures c.loop-k.invariant (search rules) c.finish.ensures c.bytes_of.ensures

pub returns-clause-standard : goal.returns-clause-standard
returns-clause-standard c =
    round-standard c.args.block c.begin-x.ensures c.loop-k.invariant (search rules) c.finish.ensures c.bytes_of.ensures
    (state-all _ _ _ _)
