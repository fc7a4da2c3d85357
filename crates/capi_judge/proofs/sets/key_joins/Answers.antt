-- Identifier and usage are judged, then the flag.
use Rattle.capi_judge.proofs.Keys.{no_name, no-use, key-told}
use Rattle.capi_judge.proofs.sets.key_joins.Goals as goal

pub returns-then-identifier-eq0-clause-told : goal.returns-then-identifier-eq0-clause-told
returns-then-identifier-eq0-clause-told c =
    (no_name c.args.src.now c.args.at c.args.seen.now c.if-identifier-eq0.true).0

pub returns-then-identifier-eq0-clause-after : goal.returns-then-identifier-eq0-clause-after
returns-then-identifier-eq0-clause-after c =
    (no_name c.args.src.now c.args.at c.args.seen.now c.if-identifier-eq0.true).1

pub returns-then-src-at-gt14-clause-told : goal.returns-then-src-at-gt14-clause-told
returns-then-src-at-gt14-clause-told c =
    (no-use c.args.src.now c.args.at c.args.seen.now c.if-src-at-gt14.true).0

pub returns-then-src-at-gt14-clause-after : goal.returns-then-src-at-gt14-clause-after
returns-then-src-at-gt14-clause-after c =
    (no-use c.args.src.now c.args.at c.args.seen.now c.if-src-at-gt14.true).1

pub returns-clause-told : goal.returns-clause-told
returns-clause-told c =
    let s = c.args.src.now in
    (key-told s c.args.at c.args.seen.now c.requires c.if-identifier-eq0.false c.set_flag.ensures.low
    c.if-src-at-gt14.false c.set_flag.ensures.told c.set_flag.ensures.after).0

pub returns-clause-after : goal.returns-clause-after
returns-clause-after c =
    let s = c.args.src.now in
    (key-told s c.args.at c.args.seen.now c.requires c.if-identifier-eq0.false c.set_flag.ensures.low
    c.if-src-at-gt14.false c.set_flag.ensures.told c.set_flag.ensures.after).1
