-- The last bytes of the number, after zeros where there is more room.
use Rattle.image.proofs.Bytes.{written}
use Rattle.image.proofs.number.put_number.Goals as goal

pub returns : goal.returns
returns c =
    let a = c.args in
    let bytes = c.copy_from_slice.ensures.after in
    written a.dst.now a.width a.n c.saturating_sub-zeros.result c.fill.new.self c.copy_from_slice.new.self
    c.ranges.n.fits c.requires c.saturating_sub-zeros.ensures (c.fill.ensures.after (λ y e. e)) (rw c.to_be_bytes.ensures at bytes)
