-- Eight steps of one bit each.
use Rattle.address_journal.proofs.Remainder.{eight-bits}
use Rattle.address_journal.proofs.crc.crc_byte.Goals as goal

pub returns : goal.returns
returns c =
    eight-bits _ _ _ _ _ _ _ _ _ _ c.crc_bit.ensures
    c.crc_bit-2.ensures
    c.crc_bit-3.ensures c.crc_bit-low.ensures
    c.crc_bit-4.ensures c.crc_bit-5.ensures
    c.crc_bit-6.ensures c.crc_bit-7.ensures
