-- Each field stands at its place.
use Rattle.node_image.specs.NodeLemmas.{form-got, held-got, node-got}
use Rattle.node_image.proofs.state.node_in.Goals as goal

pub returns : goal.returns
returns c =
    let s = c.args.s.now in
    let form = form-got s c.version_at.ensures c.held_list_at.ensures
    c.held_rate_at.ensures c.error_reports_at.ensures in
    let held = held-got s c.held_address_at.ensures c.held_octets_at.ensures
    c.held_octets_at-2.ensures c.held_octets_at-3.ensures form in
    node-got s c.attempt_at.ensures c.sets_at.ensures held
