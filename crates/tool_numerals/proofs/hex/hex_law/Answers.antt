-- HEX is bytes: character after character, reading goes on to the bytes that all its digits stand for.
use Rattle.tool_numerals.proofs.Digits.{hex_is_bytes}
use Rattle.tool_numerals.proofs.hex.hex_law.Goals as goal

pub returns : goal.returns
returns c = hex_is_bytes
