-- The crates of calls promise it for theirs; the library's own three questions say it by their definitions.
use Rattle.pothatch.proofs.Sizes.{no_size}
use Rattle.pothatch.proofs.Names.{no_name}
use Rattle.pothatch.proofs.Usages.{no-usage}
use Rattle.pothatch.proofs.refusals_keep_law.Goals as goal

pub returns : goal.returns
returns c =
    record {
      size = no_size;
      name = no_name;
      usage = no-usage;
      payload = c.refusals_keep_law.ensures;
      node = c.refusals_keep_law-2.ensures;
      serial = c.refusals_keep_law-3.ensures;
      replay = c.refusals_keep_law-4.ensures;
      ledger = c.refusals_keep_law-5.ensures;
      cipher = c.refusals_keep_law-6.ensures;
      proxy = c.refusals_keep_law-7.ensures;
    }
