-- Heads, bytes and lease, each in the part after what is written.
use native.Mathlib.Omega.{arith}
use Rattle.byte_io.specs.WriteLemmas.{seam}
use Rattle.cojp_write.proofs.configuration.Addresses.{place-seam}
use Rattle.cojp_write.proofs.configuration.address.put_place.Goals as goal

pub returns : goal.returns
returns c =
    let front = seam (omega (arith, c.requires.1)) c.put_labelled-n1.ensures c.put_bytes.ensures in
    place-seam c.args.a c.args.members c.requires.0 c.requires.1 front c.put_optional.ensures
