-- Eight bytes, the first of them zeros, are the number.
use Rattle.std.proofs.Common.{◌∙◌}
use Rattle.image.proofs.Bytes.{loaded}
use Rattle.image.proofs.number.number_at.Goals as goal

pub returns : goal.returns
returns c =
    let a = c.args in
    c.from_be_bytes.ensures ∙ loaded a.s.now a.at a.width c.copy_from_slice.new.self c.requires.0 c.requires.1 c.copy_from_slice.ensures.after
