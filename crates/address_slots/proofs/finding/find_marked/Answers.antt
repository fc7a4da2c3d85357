-- Where no group so far was marked and had a free place, the search goes on as from the start.
use Rattle.address_slots.proofs.Passing.{pass-unmarked, pass-full, pass-found, pass-end}
use Rattle.address_slots.proofs.finding.find_marked.Goals as goal
use Rattle.address_slots.proofs.finding.find_marked.Goals.{then-left-eq1+in_default, else-left-eq1}

pub returns-in-Some : goal.returns-in-Some
returns-in-Some c =
    let a = c.args in
    let turn = c.loop-group in
    pass-found a.count a.memory.now a.marks turn.left turn.group turn.invariant c.loop-group-test.true c.if-left-eq1.true c.in-Some.place
    c.in-Some.ensures

pub loop-group-preserved : goal.loop-group-preserved
loop-group-preserved c =
    let a = c.args in
    let turn = c.loop-group in
    elim c.if-left-eq1.branch [
      | then-left-eq1+in_default w ↦
          pass-full a.count a.memory.now a.marks turn.left turn.group turn.invariant c.loop-group-test.true w.in_default.ensures
      | else-left-eq1 w ↦
          pass-unmarked a.count a.memory.now a.marks turn.left turn.group turn.invariant c.loop-group-test.true w.if-left-eq1.false
    ]

pub returns : goal.returns
returns c =
    let a = c.args in
    let turn = c.loop-group in
    pass-end a.count a.memory.now a.marks turn.left turn.group turn.invariant c.loop-group-test.false
