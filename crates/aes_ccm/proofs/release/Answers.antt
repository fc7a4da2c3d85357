-- The text at the front, or nothing where its tag is wrong.
use Rattle.std.proofs.Common.{rules}
use Rattle.aes_ccm.proofs.Done.{release-done, release-refused}
use Rattle.aes_ccm.proofs.release.Goals as goal

pub returns-then-not-right : goal.returns-then-not-right
returns-then-not-right c = release-refused c.args.right c.args.text.now c.args.dst.now (search rules)

pub returns : goal.returns
returns c =
    release-done c.args.right c.args.text.now c.args.dst.now c.copy_from_slice.new.self (search rules) c.copy_from_slice.ensures.after
