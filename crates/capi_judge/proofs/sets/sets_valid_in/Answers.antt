-- One table for both sets; then the place of the pending one.
use Rattle.lemmas.specs.logic.Tests.{is_true, is_false}
use Rattle.capi_judge.proofs.Together.{active-not, pending-not, both-good, none-there}
use Rattle.capi_judge.proofs.sets.sets_valid_in.Goals as goal

pub returns-then-not-set_joins : goal.returns-then-not-set_joins
returns-then-not-set_joins c =
    let laws = c.flags_law.ensures in
    let keys = c.laws.ensures in
    let s = c.args.src.now in
    let z = c.none_seen-seen.ensures.clear in
    active-not keys laws c.args.allowed c.args.border s c.args.at z (is_false c.set_joins.ensures.told c.if-not-set_joins.true)

pub returns-then-not-set_joins-2 : goal.returns-then-not-set_joins-2
returns-then-not-set_joins-2 c =
    let laws = c.flags_law.ensures in
    let keys = c.laws.ensures in
    let s = c.args.src.now in
    let z = c.none_seen-seen.ensures.clear in
    let e = is_true c.set_joins.ensures.told c.if-not-set_joins.false in
    let f = c.set_joins.ensures.after c.if-not-set_joins.false in
    pending-not keys laws c.args.allowed c.args.border s c.args.at z e f (is_false c.set_joins-2.ensures.told c.if-not-set_joins-2.true)

pub returns-then-not-border : goal.returns-then-not-border
returns-then-not-border c =
    let laws = c.flags_law.ensures in
    let keys = c.laws.ensures in
    let s = c.args.src.now in
    let z = c.none_seen-seen.ensures.clear in
    let e = is_true c.set_joins.ensures.told c.if-not-set_joins.false in
    let f = c.set_joins.ensures.after c.if-not-set_joins.false in
    both-good keys laws c.args.allowed c.args.border s c.args.at z e f (is_true c.set_joins-2.ensures.told c.if-not-set_joins-2.false)
    (rw c.if-not-border.true)

pub returns-else-not-border : goal.returns-else-not-border
returns-else-not-border c =
    let laws = c.flags_law.ensures in
    let keys = c.laws.ensures in
    let s = c.args.src.now in
    let z = c.none_seen-seen.ensures.clear in
    let e = is_true c.set_joins.ensures.told c.if-not-set_joins.false in
    let f = c.set_joins.ensures.after c.if-not-set_joins.false in
    both-good keys laws c.args.allowed c.args.border s c.args.at z e f (is_true c.set_joins-2.ensures.told c.if-not-set_joins-2.false)
    (rw c.if-not-border.false (none-there keys laws c.args.allowed c.args.border s c.args.at c.requires))
