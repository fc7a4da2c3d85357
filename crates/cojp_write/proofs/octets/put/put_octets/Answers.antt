-- A parameter that is in range and has room is written.
use Rattle.cojp_write.proofs.octets.Plans.{did-wrote, string-did}
use Rattle.cojp_write.proofs.octets.put.put_octets.Goals as goal

pub returns : goal.returns
returns c =
    rw c.unwrap_or.ensures (did-wrote _ _ _ _ c.requires.1 (string-did c.args.label c.args.p c.requires.0 c.write_octets.ensures))
