-- `Decimal::more` meets its contract. The invariant: reading what is left from here gives what reading all from the start does.
use Rattle.std.proofs.Common.{◌≡◌, drop}
use Rattle.tool_numerals.specs.Decimal.{read_on}
use Rattle.tool_numerals.proofs.decimal.Decimal.more.Given as goal

abbrev pub invariant-loop-c : goal.invariant-loop-c
invariant-loop-c l = read_on l.number (drop l.c-index l.part) ≡ read_on l.initial.number l.part
