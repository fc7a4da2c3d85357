-- One end for each answer (proofs/Ends.antt).
use Rattle.trace_record.proofs.Ends.{verified-bad, verified-good}
use Rattle.trace_record.proofs.entries.verified_at.Goals as goal

pub returns-then-frame_type-gt1 : goal.returns-then-frame_type-gt1
returns-then-frame_type-gt1 c = let a = c.args in
    verified-bad a.s.now a.at c.if-frame_type-gt1.true

pub returns : goal.returns
returns c = let a = c.args in
    verified-good a.s.now a.at c.if-frame_type-gt1.false
