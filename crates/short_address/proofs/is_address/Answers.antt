-- An address is judged by its number.
use Rattle.std.proofs.Common.{◌≡◌, length, rules}
use Rattle.short_address.proofs.Addresses.{judged}
use Rattle.short_address.proofs.is_address.Goals as goal

pub returns : goal.returns
returns c =
    let bytes = c.args.bytes in
    let two : length c.args.bytes ≡ 2 = search rules in
    judged bytes _ two (search rules) c.from_be_bytes.ensures c.from_be_bytes.type_inv
