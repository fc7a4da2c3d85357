-- The length decides.
use Rattle.std.proofs.Common.{ap}
use Rattle.cojp.proofs.Arrays.{string-after}
use Rattle.cojp.proofs.Strings.{octets-few, octets-many, octets-taken, octets-broken}
use Rattle.cojp.specs.Reading.{read}
use Rattle.cojp.proofs.octets.read_octets.Goals as goal

pub returns-in_default : goal.returns-in_default
returns-in_default c =
    let a = c.args in
    record { value = octets-broken a.s.now a.at a.least c.value_at.result c.value_at.ensures c.in_default.not-Bytes; rest = tt }

pub returns-then-len-least-clause-value : goal.returns-then-len-least-clause-value
returns-then-len-least-clause-value c =
    let a = c.args in
    let m = c.in-Bytes in
    octets-few a.s.now a.at a.least c.value_at.result c.value_at.ensures m.start m.len m.is _ (ap read c.no_octets.ensures)
    c.if-len-least.true

pub returns-then-len-least-clause-rest : goal.returns-then-len-least-clause-rest
returns-then-len-least-clause-rest c =
    let a = c.args in
    let m = c.in-Bytes in
    string-after a.s.now a.at c.value_at.result c.value_at.ensures m.start m.len m.is

pub returns-then-len-gt-MOST-clause-value : goal.returns-then-len-gt-MOST-clause-value
returns-then-len-gt-MOST-clause-value c =
    let a = c.args in
    let m = c.in-Bytes in
    octets-many a.s.now a.at a.least c.value_at.result c.value_at.ensures m.start m.len m.is _
    (ap read c.no_octets-then-len-gt-MOST.ensures) c.if-len-least.false c.if-len-gt-MOST.true

pub returns-then-len-gt-MOST-clause-rest : goal.returns-then-len-gt-MOST-clause-rest
returns-then-len-gt-MOST-clause-rest c =
    let a = c.args in
    let m = c.in-Bytes in
    string-after a.s.now a.at c.value_at.result c.value_at.ensures m.start m.len m.is

pub returns-clause-value : goal.returns-clause-value
returns-clause-value c =
    let a = c.args in
    let m = c.in-Bytes in
    octets-taken a.s.now a.at a.least c.value_at.result c.value_at.ensures m.start m.len m.is
    c.copied.result c.if-len-least.false c.if-len-gt-MOST.false c.copied.ensures

pub returns-clause-rest : goal.returns-clause-rest
returns-clause-rest c =
    let a = c.args in
    let m = c.in-Bytes in
    string-after a.s.now a.at c.value_at.result c.value_at.ensures m.start m.len m.is
