-- The format of a journal, our own: a header of 16 bytes, then records of 16 bytes. Numbers are written high byte first.
use Rattle.std.specs.Prelude.{ℕ, ◌+◌, ◌*◌, ◌/◌, ◌%◌, List, [], ◌∷◌, ◌++◌, get_or, take, drop, replicate}
use Rattle.address_journal.specs.Crc32.{crc32}

-- a number in four bytes
abbrev pub four_bytes : ℕ → List ℕ
four_bytes n = n / 0x1000000 ∷ n / 0x10000 % 256 ∷ n / 0x100 % 256 ∷ n % 256 ∷ []

-- the number in the two bytes from offset k on
abbrev pub two_at : List ℕ → ℕ → ℕ
two_at s k = get_or s k 0 * 256 + get_or s (k + 1) 0

-- ---- the header: PHLJ, the layout's version 1, the first address, the size, two zeros; then the CRC-32 of these twelve bytes
abbrev pub header_fields : ℕ → ℕ → List ℕ
header_fields first size = 0x50 ∷ 0x48 ∷ 0x4c ∷ 0x4a ∷ 0 ∷ 1 ∷ first / 256 ∷ first % 256 ∷ size / 256 ∷ size % 256 ∷ 0 ∷ 0 ∷ []

unfoldable pub header_check : ℕ → ℕ → ℕ
header_check first size = crc32 0 (header_fields first size)

unfoldable pub header_of : ℕ → ℕ → List ℕ
header_of first size = header_fields first size ++ four_bytes (header_check first size)

-- ---- a record: the kind (1 granted, 2 given back), the board, the address, a zero; then the CRC-32 of these twelve bytes, which
-- continues that of the record before it (of the header, for the first record)
abbrev pub record_fields : ℕ → List ℕ → ℕ → List ℕ
record_fields kind board address = kind ∷ (board ++ (address / 256 ∷ address % 256 ∷ 0 ∷ []))

unfoldable pub check_of : ℕ → List ℕ → ℕ → ℕ → ℕ
check_of kind board address previous = crc32 previous (record_fields kind board address)

unfoldable pub record_with : ℕ → List ℕ → ℕ → ℕ → List ℕ
record_with kind board address check = record_fields kind board address ++ four_bytes check

abbrev pub record_of : ℕ → List ℕ → ℕ → ℕ → List ℕ
record_of kind board address previous = record_with kind board address (check_of kind board address previous)

-- ---- the fields of a record that is read
abbrev pub kind_in : List ℕ → ℕ
kind_in r = get_or r 0 0

abbrev pub board_in : List ℕ → List ℕ
board_in r = take 8 (drop 1 r)

abbrev pub address_in : List ℕ → ℕ
address_in r = two_at r 9

-- what some file systems leave where a record was to be written
abbrev pub zero_record : List ℕ
zero_record = replicate 16 0
