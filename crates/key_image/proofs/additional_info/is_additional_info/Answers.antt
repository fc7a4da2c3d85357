-- The length tells which bytes must be zeros; a number is 0 if its bytes are.
use Rattle.key_image.proofs.Images.{absent-judged, four-judged}
use Rattle.key_image.proofs.additional_info.is_additional_info.Goals as goal

pub returns-then-len-eq0 : goal.returns-then-len-eq0
returns-then-len-eq0 c =
    absent-judged c.args.src.now c.args.at c.if-len-eq0.true c.number_at.ensures

pub returns-then-len-eq4 : goal.returns-then-len-eq4
returns-then-len-eq4 c =
    four-judged c.args.src.now c.args.at c.requires c.if-len-eq4.true c.number_at-then-len-eq4.ensures
