-- After the groups above are surveyed, what was counted and marked is theirs.
use mathlib.Core.Bool.{not}
use native.Mathlib.Omega.{arith}
use lib.Dec.{eqb}
use Rattle.address_slots.specs.SlotLemmas.{bit-most}
use Rattle.address_slots.proofs.SummaryLaws.{survey-none, survey-more, sum-most, marks-most}
use Rattle.address_slots.proofs.groups.summarize_in.Goals as goal

pub loop-group-init : goal.loop-group-init
loop-group-init c = survey-none c.args.count c.args.memory.now c.requires.count_bound

pub overflow_add-free : goal.overflow_add-free
overflow_add-free c =
    let a = c.args in
    let x = c.loop-group in
    let most = sum-most a.count a.memory.now x.free x.marks x.group x.invariant c.requires.count_bound c.loop-group-test.true
    c.group_end-end.result c.count_free-found.result c.group_end-end.ensures c.count_free-found.ensures in
    record { fits = omega (arith, most) }

pub overflow_mul-marks : goal.overflow_mul-marks
overflow_mul-marks c =
    let a = c.args in
    let x = c.loop-group in
    let most = marks-most a.count a.memory.now x.free x.marks x.group x.invariant c.requires.count_bound c.loop-group-test.true in
    record { fits = omega (arith, most) }

pub overflow_add-marks : goal.overflow_add-marks
overflow_add-marks c =
    let a = c.args in
    let x = c.loop-group in
    let most = marks-most a.count a.memory.now x.free x.marks x.group x.invariant c.requires.count_bound c.loop-group-test.true in
    record { fits = omega (arith, most, c.mark_of-mark.ensures, bit-most (not (eqb c.count_free-found.result 0))) }

pub loop-group-preserved : goal.loop-group-preserved
loop-group-preserved c =
    let a = c.args in
    let x = c.loop-group in
    survey-more a.count a.memory.now x.free x.marks x.group x.invariant c.requires.count_bound c.loop-group-test.true
    c.group_end-end.result c.count_free-found.result c.group_end-end.ensures c.count_free-found.ensures
    c.mark_of-mark.result c.mark_of-mark.ensures
