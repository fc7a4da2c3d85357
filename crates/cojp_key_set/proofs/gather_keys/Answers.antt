-- Each turn puts one key more in front of the groups that are left; at the end the count decides.
use Rattle.std.proofs.Common.{◌≤◌, refl, arith}
use lib.Dec.{ltb}
use borrow.Author.Tests.{ltb-true}
use Rattle.lemmas.specs.logic.Tests.{both_left, is_true, is_false}
use Rattle.link_key.specs.declared.set.key_set.KeySet.{KeySet}
use Rattle.cojp_key_set.specs.Groups.{storable}
use Rattle.cojp.proofs.Nexts.{keys-settled}
use Rattle.cojp_key_set.proofs.KeySets.{gathering-done}
use Rattle.cojp_key_set.proofs.KeySets.{gathering-stored, gathering-nine}
use Rattle.cojp_key_set.proofs.gather_keys.Goals as goal
use Rattle.cojp_key_set.proofs.gather_keys.Goals.{then-is_storable, else-is_storable}

pub loop-remaining-preserved : goal.loop-remaining-preserved
loop-remaining-preserved c =
    let a = c.args in
    let l = c.loop-remaining in
    let k : KeySet = record { count = l.n; keys = l.keys } in
    let r = c.read_group in
    let g = c.in-Some.group in
    let told = c.is_storable.ensures in
    let storing = storable g.identifier g.usage g.len in
    elim c.if-is_storable.branch [
      | then-is_storable w ↦
          let made = w.group_key-key in
          let counted = w.count_with-n in
          rw (w.n-is, w.keys-is, w.seen-is)
          (gathering-stored a.allowed a.s.now a.from a.count l.at l.remaining k l.seen l.invariant r.result r.ensures.group_at
          g c.in-Some.is r.ensures.rest
          (ltb-true l.n 8 (both_left (ltb l.n 8) storing (is_true told w.if-is_storable.true))) made.result
          made.ensures _ counted.ensures.so_far counted.result counted.ensures.value)
      | else-is_storable w ↦
          rw (w.n-is, w.keys-is, w.seen-is)
          (gathering-nine a.allowed a.s.now a.from a.count l.at l.remaining k l.seen l.invariant r.result r.ensures.group_at
          g c.in-Some.is r.ensures.rest (is_false told w.if-is_storable.false))
    ]

pub returns-clause-value : goal.returns-clause-value
returns-clause-value c =
    let a = c.args in
    let l = c.loop-remaining in
    let k : KeySet = record { count = l.n; keys = l.keys } in
    let none : l.remaining ≤ 0 = omega arith in
    keys-settled c.close_set.result _ c.close_set.result.next c.close_set.ensures.value _
    (gathering-done a.allowed a.s.now a.from a.count l.at l.remaining k l.seen l.invariant none _ refl)
