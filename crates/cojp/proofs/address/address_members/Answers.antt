-- The first member is the byte string.
use Rattle.std.proofs.Common.{refl}
use Rattle.cojp.proofs.Addresses.{address-headless}
use Rattle.cojp.proofs.address.address_members.Goals as goal

pub returns-in_default : goal.returns-in_default
returns-in_default c =
    let a = c.args in
    record {
      value = address-headless a.s.now a.at a.count c.member_at.result c.member_at.ensures _ c.in_default.not-Bytes refl;
      rest = tt;
    }
