-- Each field is written to the part after those before it.
use native.Mathlib.Omega.{arith}
use Rattle.image.specs.Fields.{next_field, four-fields, wrote-same}
use Rattle.node_image.specs.Held.{held_address_part, held_octets_part}
use Rattle.node_image.specs.Node.{form_fields, form_of}
use Rattle.node_image.proofs.state.put_holding.Goals as goal

pub returns : goal.returns
returns c =
    let n = c.args.node in
    let w1 = next_field (omega (arith, c.requires)) c.put_held_address.ensures
    c.put_held_octets.ensures in
    let w2 = next_field (omega (arith, c.requires)) w1 c.put_held_octets-2.ensures in
    let w3 = next_field (omega (arith, c.requires)) w2 c.put_held_octets-3.ensures in
    let w4 = next_field (omega (arith, c.requires)) w3 c.put_form.ensures in
    wrote-same
    (four-fields (held_address_part.put c.args.node.address) (held_octets_part.put c.args.node.jrc) (held_octets_part.put c.args.node.network)
    (held_octets_part.put c.args.node.prefix) (form_fields.put (form_of n))) w4
