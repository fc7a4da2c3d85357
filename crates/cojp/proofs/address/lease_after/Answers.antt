-- Nothing follows, or one number.
use Rattle.std.proofs.Common.{◌≡◌, ◌+◌, ◌-◌, take, drop, refl, arith}
use Rattle.cojp.proofs.Addresses.{lease-none, lease-one, lease-many, lease-other}
use Rattle.cojp.proofs.address.lease_after.Goals as goal

pub returns-then-left-eq0-clause-value : goal.returns-then-left-eq0-clause-value
returns-then-left-eq0-clause-value c =
    let a = c.args in
    let part : a.start + a.len - a.start ≡ a.len = omega arith in
    lease-none a.s.now (take a.len (drop a.start a.s.now)) (a.start + a.len) a.left _ c.if-left-eq0.true
    (rw part at c.address_from.ensures)

pub returns-in_default : goal.returns-in_default
returns-in_default c =
    let a = c.args in
    record {
      value =
          lease-other a.s.now (take a.len (drop a.start a.s.now)) (a.start + a.len) a.left _ c.member_at.result c.member_at.ensures
          c.if-left-eq0.false c.in_default.not-Number refl;
      rest = tt;
    }

pub returns-then-left-ne1-clause-value : goal.returns-then-left-ne1-clause-value
returns-then-left-ne1-clause-value c =
    let a = c.args in
    let m = c.in-Number in
    lease-many a.s.now (take a.len (drop a.start a.s.now)) (a.start + a.len) a.left _ c.member_at.result c.member_at.ensures
    m.number m.next m.is c.if-left-eq0.false c.if-left-ne1.true refl

pub returns-clause-value : goal.returns-clause-value
returns-clause-value c =
    let a = c.args in
    let m = c.in-Number in
    let part : a.start + a.len - a.start ≡ a.len = omega arith in
    lease-one a.s.now (take a.len (drop a.start a.s.now)) (a.start + a.len) a.left _ c.member_at.result c.member_at.ensures
    m.number m.next m.is c.if-left-ne1.false (rw part at c.address_from-2.ensures)
