-- Where keys may have additional information, a byte string after the value is it or breaks the pattern; else the value closes the group.
use Rattle.std.proofs.Common.{refl}
use Rattle.cojp_key_set.proofs.Groups.{value-draft, value-last, value-broken, value-allowed}
use Rattle.cojp_key_set.proofs.group.after_value.Goals as goal

pub returns-in_err-additional_info_at-in-Bytes-clause-group_at : goal.returns-in_err-additional_info_at-in-Bytes-clause-group_at
returns-in_err-additional_info_at-in-Bytes-clause-group_at c =
    let a = c.args in
    let m = c.member_at-further in
    rw (c.if-allowed.true, c.from_residual.ensures)
    (value-broken a.part.now a.identifier a.usage a.start a.len a.left c.requires m.result m.ensures c.in-Bytes.from c.in-Bytes.n
    c.in-Bytes.is c.in_err-additional_info_at-in-Bytes.ensures)

pub returns-in-Bytes-clause-group_at : goal.returns-in-Bytes-clause-group_at
returns-in-Bytes-clause-group_at c =
    let a = c.args in
    let m = c.member_at-further in
    rw c.if-allowed.true
    (value-allowed a.part.now a.identifier a.usage a.start a.len a.left c.requires m.result m.ensures c.in-Bytes.from c.in-Bytes.n
    c.in-Bytes.is _ c.in_ok-additional_info_at-in-Bytes.ensures)

pub returns-in_default : goal.returns-in_default
returns-in_default c =
    let a = c.args in
    let m = c.member_at-further in
    record {
      group_at =
          rw c.if-allowed.true
          (value-last a.part.now a.identifier a.usage a.start a.len a.left c.requires m.result m.ensures c.in_default.not-Bytes);
      rest = refl;
    }

pub returns-else-allowed-clause-group_at : goal.returns-else-allowed-clause-group_at
returns-else-allowed-clause-group_at c =
    let a = c.args in
    rw c.if-allowed.false (value-draft a.part.now a.identifier a.usage a.start a.len a.left c.requires)
