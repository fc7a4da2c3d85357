-- The join rate in the part after the blacklist.
use Rattle.byte_io.specs.WriteLemmas.{seam}
use Rattle.cojp_write.proofs.configuration.put_additions.Goals as goal

pub returns : goal.returns
returns c =
    seam c.requires.1 c.put_list-n.ensures c.put_rate.ensures
