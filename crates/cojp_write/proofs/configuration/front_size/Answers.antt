-- The parameters' sizes, added up in the order of writing.
use Rattle.cojp.specs.Writing.{join, keys_pairs, address_pairs, octets_pairs}
use Rattle.cojp_write.proofs.octets.Sizes.{sizes-join}
use Rattle.cojp_write.proofs.configuration.front_size.Goals as goal

pub returns : goal.returns
returns c =
    let ka = join (keys_pairs c.args.c.keys) (address_pairs c.args.c.address) in
    let kaj = join ka (octets_pairs 4 c.args.c.jrc) in
    let kajn = join kaj (octets_pairs 5 c.args.c.network) in
    let z1 = sizes-join (keys_pairs c.args.c.keys) (address_pairs c.args.c.address) c.keys_size-size.ensures c.address_size.ensures
    c.plus-size.ensures in
    let z2 = sizes-join ka (octets_pairs 4 c.args.c.jrc) z1 c.octets_size.ensures c.plus-size-2.ensures in
    let z3 = sizes-join kaj (octets_pairs 5 c.args.c.network) z2 c.octets_size-2.ensures c.plus-size-3.ensures in
    sizes-join kajn (octets_pairs 6 c.args.c.prefix) z3 c.octets_size-3.ensures c.plus.ensures
