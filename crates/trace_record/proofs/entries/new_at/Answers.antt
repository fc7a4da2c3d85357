-- One end for each answer (proofs/Ends.antt); a length that is good leaves room for the identifier.
use mathlib.Core.Path.{sym, ◌∙◌}
use Rattle.trace_record.proofs.Ends.{new-role, new-length, new-used, new-good}
use Rattle.trace_record.proofs.entries.new_at.Goals as goal

pub returns-then-role-gt1 : goal.returns-then-role-gt1
returns-then-role-gt1 c = new-role c.args.s.now c.args.at c.if-role-gt1.true

pub returns-then-not-is_network_length : goal.returns-then-not-is_network_length
returns-then-not-is_network_length c =
    new-length c.args.s.now c.args.at c.if-role-gt1.false
    (sym c.is_network_length.ensures ∙ c.if-not-is_network_length.true)

pub returns-then-blank : goal.returns-then-blank
returns-then-blank c =
    let good = sym c.is_network_length.ensures ∙ c.if-not-is_network_length.false in
    new-good c.args.s.now c.args.at c.if-role-gt1.false good _ c.network_used-used.ensures _ c.blank.ensures c.if-blank.true

pub returns : goal.returns
returns c =
    let good = sym c.is_network_length.ensures ∙ c.if-not-is_network_length.false in
    new-used c.args.s.now c.args.at c.if-role-gt1.false good _ c.network_used-used.ensures _ c.blank.ensures c.if-blank.false
