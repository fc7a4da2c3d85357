-- The fields are copied, then the check's four bytes behind them.
use Rattle.std.proofs.Common.{◌∙◌}
use Rattle.address_journal.proofs.Bytes.{with_check-is}
use Rattle.address_journal.proofs.format.with_check.Goals as goal

pub returns : goal.returns
returns c =
    with_check-is c.args.fields c.copy_from_slice.new.self c.copy_from_slice-2.new.self c.args.check c.copy_from_slice.ensures.len
    c.copy_from_slice.ensures.after c.ranges.check.fits (c.copy_from_slice-2.ensures.after ∙ c.to_be_bytes.ensures)
