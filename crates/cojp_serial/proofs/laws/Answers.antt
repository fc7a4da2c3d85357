-- Each law by its file; the empty object beside a reading's refusal is the readers' demand 1.
use Rattle.cojp_serial.proofs.Again.{end-after-end}
use Rattle.cojp_serial.proofs.Lent.{lent-lengths-may-change}
use Rattle.cojp_serial.proofs.Numbers.{numbers-in-order}
use Rattle.cojp_serial.proofs.Passed.{long-where-passed, fitting-parts-taken, writes-its-own}
use Rattle.cojp_serial.proofs.Refused.{refused-calls}
use Rattle.cojp_serial.proofs.Short.{short-store-is-range}
use Rattle.cojp_serial.proofs.Unread.{beyond-is-unread, nothing-of-the-former-board}
use Rattle.cojp_serial.proofs.Until.{long-until-reset, phase-until-reset}
use Rattle.cojp_serial.proofs.Whole.{end-reads-the-whole}
use Rattle.cojp_serial.proofs.laws.Goals as goal

pub returns : goal.returns
returns c = record {
  numbers = numbers-in-order;
  whole = end-reads-the-whole;
  unread = beyond-is-unread;
  former-board = nothing-of-the-former-board;
  refused = refused-calls c.readers_demand1_law.ensures;
  long = long-until-reset;
  phase = phase-until-reset;
  passed = long-where-passed;
  fitting = fitting-parts-taken;
  own = writes-its-own;
  end-again = end-after-end;
  short = short-store-is-range;
  lengths = lent-lengths-may-change;
}
