-- The word's bit is asked and set as the definitions say.
use mathlib.Core.Path.{sym}
use mathlib.Core.Bool.{false}
use Rattle.lemmas.specs.logic.Tests.{is_true, is_false}
use Rattle.link_key.proofs.set.Flags.{asked, set-in, outside-none, one_more}
use Rattle.link_key.proofs.set.seen.join.Goals as goal

pub returns-then-valid-clause-told : goal.returns-then-valid-clause-told
returns-then-valid-clause-told c = asked c.args.seen.now c.args.key (is_true c.valid.ensures c.if-valid.true)

pub returns-then-valid-clause-after : goal.returns-then-valid-clause-after
returns-then-valid-clause-after c = set-in c.args.seen.now c.args.key (is_true c.valid.ensures c.if-valid.true)

pub returns-then-valid-clause-so_far : goal.returns-then-valid-clause-so_far
returns-then-valid-clause-so_far c =
    let seen = c.args.seen.now in
    let ok = is_true c.valid.ensures c.if-valid.true in
    λ ks so_far. one_more seen c.args.key ks so_far _ _ (asked seen c.args.key ok) (set-in seen c.args.key ok)

pub returns-clause-told : goal.returns-clause-told
returns-clause-told c =
    let none = outside-none c.args.seen.now c.args.key (is_false c.valid.ensures c.if-valid.false) in
    sym none.0

pub returns-clause-after : goal.returns-clause-after
returns-clause-after c =
    let none = outside-none c.args.seen.now c.args.key (is_false c.valid.ensures c.if-valid.false) in
    sym none.1

pub returns-clause-so_far : goal.returns-clause-so_far
returns-clause-so_far c =
    let seen = c.args.seen.now in
    let none = outside-none seen c.args.key (is_false c.valid.ensures c.if-valid.false) in
    λ ks so_far. one_more seen c.args.key ks so_far false seen (sym none.0) (sym none.1)
