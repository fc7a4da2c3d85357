-- Each kind's answer is the definition's: the tests for the kinds before it fail by computing,
-- and the body's size gives what each reader asks.
use native.Mathlib.Omega.{arith}
use lib.Seq.{drop-drop}
use Rattle.std.proofs.lemmas.Bool.Decides.{nat_tests}
use Rattle.trace_record.specs.Layout.{fields}
use Rattle.trace_record.proofs.entries.fields_at.Goals as goal

pub returns-in-1 : goal.returns-in-1
unfolding fields
returns-in-1 c = rw c.in-1.is c.new_at.ensures

pub returns-in-2 : goal.returns-in-2
unfolding fields
returns-in-2 c =
    rw (c.in-2.is, c.number_at.ensures, c.number_at-in-2.ensures, drop-drop 8 c.args.at c.args.s.now)

pub returns-in-3 : goal.returns-in-3
unfolding fields
returns-in-3 c = rw c.in-3.is c.delivery_at.ensures

pub returns-in-4 : goal.returns-in-4
unfolding fields
returns-in-4 c = rw c.in-4.is c.delivery_at-in-4.ensures

pub returns-in-5 : goal.returns-in-5
unfolding fields
returns-in-5 c = rw c.in-5.is c.verified_at.ensures

pub returns-in-6 : goal.returns-in-6
unfolding fields
returns-in-6 c = rw (c.in-6.is, c.number_at-in-6.ensures)

pub returns-in_default : goal.returns-in_default
unfolding fields
returns-in_default c = grind (arith, nat_tests)
