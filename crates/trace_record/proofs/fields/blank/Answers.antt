-- All bytes of the part are zero.
use Rattle.std.proofs.Common.{◌∙◌}
use Rattle.trace_record.proofs.Zeros.{part-blank}
use Rattle.trace_record.proofs.fields.blank.Goals as goal

pub returns : goal.returns
returns c = c.is_zero.ensures ∙ part-blank c.args.n c.args.at c.args.s.now
