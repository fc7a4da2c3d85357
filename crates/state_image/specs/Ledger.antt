-- The image of a ledger, 16 bytes: kind L, layout, first address 2, size 2, free addresses 2, marks 8. The places stand in lent memory.
use Rattle.std.specs.Prelude.{ℕ}
use Rattle.image.specs.Part.{Part, number, both, viewed, headed}
use Rattle.address_ledger.specs.Ledger.{ledger_of}
use Rattle.address_ledger.specs.declared.ledger.Ledger.{Ledger}

abbrev pub ledger_fields : Part (ℕ × (ℕ × (ℕ × ℕ)))
ledger_fields = both (number 2) (both (number 2) (both (number 2) (number 8)))

abbrev pub ledger_to : ℕ × (ℕ × (ℕ × ℕ)) → Ledger
ledger_to x = ledger_of x.0 x.1.0 x.1.1.0 x.1.1.1

abbrev pub ledger_from : Ledger → ℕ × (ℕ × (ℕ × ℕ))
ledger_from l = (l.first, (l.size, (l.free, l.summary)))

abbrev pub ledger_image : Part Ledger
ledger_image = headed 0x4c (viewed ledger_fields ledger_to ledger_from)
