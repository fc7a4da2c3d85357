-- A rotation by eight bits moves each byte up by one place.
use Rattle.std.proofs.Common.{◌∙◌, ap, rules}
use Rattle.aes.specs.Words.{bytes_of}
use Rattle.aes.proofs.Words.{rotated-bytes}
use Rattle.aes.proofs.columns.turned.Goals as goal

pub returns : goal.returns
returns c = ap bytes_of c.rotate_left.ensures ∙ rotated-bytes c.args.w (search rules)
