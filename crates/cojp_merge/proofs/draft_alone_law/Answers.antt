-- What a reading takes is in range, and what it notes tells its form.
use Rattle.cojp_merge.proofs.DraftAlone.{draft-alone}
use Rattle.cojp_merge.proofs.draft_alone_law.Goals as goal

pub returns : goal.returns
returns c = draft-alone c.reads_in_range_law.ensures
