-- One end for each answer (proofs/Ends.antt).
use Rattle.trace_record.specs.Layout.{delivery_of}
use Rattle.trace_record.proofs.Ends.{delivery-long, delivery-used, delivery-good}
use Rattle.trace_record.proofs.entries.delivery_at.Goals as goal

pub returns-then-len-gt256 : goal.returns-then-len-gt256
returns-then-len-gt256 c =
    let a = c.args in
    delivery-long a.s.now a.at (delivery_of a.update) _ c.number_at-len.ensures c.if-len-gt256.true

pub returns-then-blank : goal.returns-then-blank
returns-then-blank c =
    let a = c.args in
    delivery-good a.s.now a.at (delivery_of a.update) _ c.number_at-len.ensures c.if-len-gt256.false _ c.blank.ensures _
    c.number_at-time.ensures c.if-blank.true _ c.delivery_of.ensures

pub returns : goal.returns
returns c =
    let a = c.args in
    delivery-used a.s.now a.at (delivery_of a.update) _ c.number_at-len.ensures c.if-len-gt256.false _
    c.blank.ensures c.if-blank.false
