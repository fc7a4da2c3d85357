-- The fields are asked one after the other, as in the definition.
use Rattle.lemmas.specs.logic.Tests.{is_true, is_false}
use Rattle.object_image.proofs.Objects.{bad-address, bad-jrc, bad-network, by-prefix}
use Rattle.object_image.proofs.configuration.is_earlier.Goals as goal

pub returns-then-not-is_address_parameter : goal.returns-then-not-is_address_parameter
returns-then-not-is_address_parameter c =
    let keys = is_true c.is_keys_parameter.ensures c.if-not-is_keys_parameter.false in
    bad-address c.args.s.now c.args.at keys
    (is_false c.is_address_parameter.ensures c.if-not-is_address_parameter.true)

pub returns-then-not-is_octets_parameter : goal.returns-then-not-is_octets_parameter
returns-then-not-is_octets_parameter c =
    let keys = is_true c.is_keys_parameter.ensures c.if-not-is_keys_parameter.false in
    let address = is_true c.is_address_parameter.ensures c.if-not-is_address_parameter.false in
    bad-jrc c.args.s.now c.args.at keys address
    (is_false c.is_octets_parameter.ensures c.if-not-is_octets_parameter.true)

pub returns-then-not-is_octets_parameter-2 : goal.returns-then-not-is_octets_parameter-2
returns-then-not-is_octets_parameter-2 c =
    let keys = is_true c.is_keys_parameter.ensures c.if-not-is_keys_parameter.false in
    let address = is_true c.is_address_parameter.ensures c.if-not-is_address_parameter.false in
    let jrc = is_true c.is_octets_parameter.ensures c.if-not-is_octets_parameter.false in
    bad-network c.args.s.now c.args.at keys address jrc
    (is_false c.is_octets_parameter-2.ensures c.if-not-is_octets_parameter-2.true)

pub returns : goal.returns
returns c =
    let keys = is_true c.is_keys_parameter.ensures c.if-not-is_keys_parameter.false in
    let address = is_true c.is_address_parameter.ensures c.if-not-is_address_parameter.false in
    let jrc = is_true c.is_octets_parameter.ensures c.if-not-is_octets_parameter.false in
    let network = is_true c.is_octets_parameter-2.ensures c.if-not-is_octets_parameter-2.false in
    by-prefix c.args.s.now c.args.at keys address jrc network c.is_octets_parameter-3.ensures
