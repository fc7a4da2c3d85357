-- Identifier, perhaps usage, value, perhaps additional information, each in the part after what is written.
use native.Mathlib.Omega.{arith}
use lib.ListN.{length-append}
use Rattle.byte_io.specs.WriteLemmas.{seam}
use Rattle.cbor.specs.Encode.{shortest, encodes}
use Rattle.cojp_write.specs.configuration.Room.{used_items}
use Rattle.cojp_write.proofs.configuration.KeySets.{group-seam}
use Rattle.cojp_write.proofs.configuration.key_set.put_key.Goals as goal

pub returns : goal.returns
returns c =
    let k = c.args.k in
    let front = seam (omega (arith, c.requires)) c.put_head-n1.ensures c.put_optional.ensures in
    let sum = length-append (shortest 0 c.args.k.identifier) (encodes (used_items c.args.k.usage)) in
    group-seam k c.requires (seam (omega (arith, c.requires, sum)) front c.put_bytes.ensures) c.put_info.ensures
