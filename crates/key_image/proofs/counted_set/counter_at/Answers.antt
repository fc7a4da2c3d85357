-- Four bytes are read as std reads them.
use Rattle.std.specs.Prelude.{◌≡◌, length, drop}
use Rattle.std.proofs.Common.{ap, arith, ◌∙◌, length-drop, length-take-le}
use Rattle.byte_io.specs.BigEndian.{big_endian}
use Rattle.image.specs.Numbers.{four_bytes}
use Rattle.key_image.proofs.counted_set.counter_at.Goals as goal

pub returns : goal.returns
returns c =
    let rest = drop c.args.at c.args.src.now in
    let four : length c.array_at.result ≡ 4 =
    ap length c.array_at.ensures ∙ length-take-le 4 rest (omega (arith, length-drop c.args.at c.args.src.now)) in
    c.from_be_bytes.ensures ∙ four_bytes c.array_at.result four ∙ ap big_endian c.array_at.ensures
