-- One answer for each case of the verdict.
use mathlib.Core.Path.{ap, ◌∙◌}
use lib.ListN.{replicate}
use Rattle.image.proofs.Lent.{accepted, refused}
use Rattle.node_image.specs.Answers.{frame_key_image}
use Rattle.capi_node.proofs.frames.store_key.Goals as goal

pub returns-in-Ok : goal.returns-in-Ok
returns-in-Ok c =
    let p =
    accepted c.args.verdict (replicate 33 0) (frame_key_image.put (c.args.key, 0)) c.in-Ok.is
    c.put_frame_key.ensures in
    record { number = p.0; out = p.1 }

pub returns-in-Err : goal.returns-in-Err
returns-in-Err c =
    let p =
    refused c.args.verdict (replicate 33 0) (frame_key_image.put (c.args.key, 0)) _ c.in-Err.is
    c.number.ensures (c.clear.ensures ∙ ap (λ n. replicate n 0) c.requires) in
    record { number = p.0; out = p.1 }
