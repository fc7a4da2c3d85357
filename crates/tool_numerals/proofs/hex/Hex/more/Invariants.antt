-- `Hex::more` meets its contract. The invariant: reading what is left from here ends where reading all from the start does.
use Rattle.std.proofs.Common.{◌≡◌, length, drop}
use Rattle.tool_numerals.specs.Hex.{read_on, written_on}
use Rattle.tool_numerals.proofs.hex.Hex.more.Given as goal

abbrev pub invariant-loop-c : goal.invariant-loop-c
invariant-loop-c l =
    let room = length l.initial.buffer in
    (length l.buffer ≡ room)
    × (read_on l.hex room (drop l.c-index l.part) ≡ read_on l.fn.self room l.part)
    × (written_on l.hex l.buffer room (drop l.c-index l.part) ≡ written_on l.fn.self l.initial.buffer room l.part)
