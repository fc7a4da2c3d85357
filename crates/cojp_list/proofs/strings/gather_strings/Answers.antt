-- A turn adds one byte string, or finds none or no room.
use Rattle.std.proofs.Common.{◌≡◌, ◌+◌, ◌-◌, drop, arith}
use Rattle.cojp.specs.Lists.{strings_in}
use Rattle.cojp_list.proofs.ByteStrings.{strings-broken, strings-turn, strings-none}
use Rattle.cojp_list.proofs.Gathering.{gathering-done, gathering-ended, turn-full, turn_more}
use Rattle.cojp_list.proofs.strings.gather_strings.Goals as goal

pub returns-in_default : goal.returns-in_default
returns-in_default c =
    strings-broken c.loop-i.invariant c.member_at.ensures (omega arith) c.in_default.not-Bytes

pub returns-in_default-write_bytes : goal.returns-in_default-write_bytes
returns-in_default-write_bytes c =
    let m = c.in-Bytes in
    turn-full
    (strings-turn c.loop-i.invariant c.member_at.ensures m.is ((m.start + m.n) - m.start) (omega arith) c.write_bytes.ensures)
    c.in_default-write_bytes.field-0 c.in_default-write_bytes.is

pub loop-i-preserved : goal.loop-i-preserved
loop-i-preserved c =
    let m = c.in-Bytes in
    let left : c.args.count - (c.loop-i.i + 1) ≡ c.args.count - c.loop-i.i - 1 = omega arith in
    rw left
    (turn_more
    (strings-turn c.loop-i.invariant c.member_at.ensures m.is ((m.start + m.n) - m.start) (omega arith) c.write_bytes.ensures)
    c.in-Ok.k c.in-Ok.is)

pub returns : goal.returns
returns c =
    let l = c.loop-i in
    let all : l.i ≡ c.args.count = omega arith in
    rw all at
    (gathering-done l.invariant (gathering-ended strings_in (c.args.count - l.i) (drop l.at c.args.s.now) strings-none (omega arith)))
