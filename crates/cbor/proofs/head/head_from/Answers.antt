-- Each return answers as the laws of Heads say of the argument.
use Prim.Native.Nat.{◌/◌, ◌%◌, ◌+◌}
use mathlib.Core.Bool.{true}
use mathlib.Core.Path.{ap}
use lib.ListN.{drop}
use Rattle.refusal.specs.declared.Refusal.TheVariants.{Cut, Form}
use Rattle.cbor.proofs.Heads.{argument-direct, argument-form, argument_cut, argument-whole, direct-short, head-no, head-yes}
use Rattle.cbor.proofs.head.head_from.Goals as goal

pub returns-then-info-lt24 : goal.returns-then-info-lt24
returns-then-info-lt24 c =
    let a = c.args in
    head-yes a.s.now a.at a.first (a.first % 32) a.at true c.requires
    (argument-direct (a.first % 32) (drop a.at a.s.now) c.if-info-lt24.true)
    (direct-short (a.first / 32) (a.first % 32) c.if-info-lt24.true)

pub returns-then-info-gt27 : goal.returns-then-info-gt27
returns-then-info-gt27 c =
    let a = c.args in
    head-no a.s.now a.at a.first Form (argument-form (a.first % 32) (drop a.at a.s.now) c.if-info-gt27.true)

pub returns-then-s-next : goal.returns-then-s-next
returns-then-s-next c =
    let w = c.width in
    let a = c.args in
    head-no a.s.now a.at a.first Cut
    (argument_cut a.s.now (a.first % 32) a.at (a.at + w.result) (ap (a.at +◌) w.ensures.0)
    c.if-info-gt27.false c.requires c.if-s-next.true)

pub returns : goal.returns
returns c =
    let a = c.args in
    let n = c.number_of-argument.result in
    head-yes a.s.now a.at a.first n (a.at + c.width.result)
    c.is_short-short.result
    c.if-s-next.false
    (argument-whole a.s.now (a.first % 32) a.at (a.at + c.width.result) (ap (a.at +◌) c.width.ensures.0) n
    c.if-info-lt24.false c.if-info-gt27.false c.if-s-next.false c.number_of-argument.ensures)
    c.is_short-short.ensures
