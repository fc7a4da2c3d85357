-- Type and identifier are judged first; then the key must be held and cover the type.
use Rattle.std.proofs.Common.{◌∙◌, drop}
use Rattle.node_image.specs.Node.{sets_part}
use Rattle.capi_node.proofs.Finding.{other-type, no-identifier, by-held}
use Rattle.capi_node.proofs.find.receiving_key_in.Goals as goal

pub returns-then-frame_type-gt1 : goal.returns-then-frame_type-gt1
returns-then-frame_type-gt1 c =
    c.without_key.ensures
    ∙ other-type (sets_part.get (drop 29 c.args.s.now)) c.args.frame_type c.args.identifier c.if-frame_type-gt1.true

pub returns-then-identifier-eq0 : goal.returns-then-identifier-eq0
returns-then-identifier-eq0 c =
    c.without_key-then-identifier-eq0.ensures
    ∙ no-identifier (sets_part.get (drop 29 c.args.s.now)) c.args.frame_type c.args.identifier c.if-frame_type-gt1.false
    c.if-identifier-eq0.true

pub returns : goal.returns
returns c =
    c.covering.ensures
    ∙ by-held (sets_part.get (drop 29 c.args.s.now)) c.args.frame_type c.args.identifier c.if-frame_type-gt1.false
    c.if-identifier-eq0.false c.held_key_in.ensures
