-- HEX as the desk tools take it: hexadecimal digits, either case, an even count, spaces at will among them.
use Rattle.std.specs.Prelude.{ℕ, ◌+◌, ◌-◌, ◌*◌, ◌%◌, min, ◌≡◌, Bool, true, false, cond, not, ◌&&◌, ◌||◌, List, [], ◌∷◌, Option, None, Some, leb, ltb, eqb, length, set}
use Rattle.std.specs.Option.{is_some}
use Rattle.std.proofs.lemmas.List.Edits.{sets}
use Rattle.tool_numerals.specs.declared.hex.Hex.{Hex}

-- what a character is in HEX
pub data Sign : Type 0 where
  Digit : ℕ → Sign
  Space Stray : Sign

-- what a character is: `0` to `9`, `A` to `F`, `a` to `f`, a space, or none of these
abbrev pub sign_of : ℕ → Sign
sign_of c =
    cond (leb 48 c && leb c 57) (Digit (c - 48))
    (cond (leb 65 c && leb c 70) (Digit (c - 55))
    (cond (leb 97 c && leb c 102) (Digit (c - 87))
    (cond (eqb c 32) Space Stray)))

-- the value of a digit
abbrev pub sign_value : Sign → Option ℕ
sign_value (Digit v) = Some v
sign_value Space = None
sign_value Stray = None

-- the digits among the characters
abbrev pub before : Sign → List ℕ → List ℕ
before (Digit v) digits = v ∷ digits
before Space digits = digits
before Stray digits = digits

abbrev pub digits_of : List ℕ → List ℕ
digits_of [] = []
digits_of (c ∷ chars) = before (sign_of c) (digits_of chars)

-- whether a character is neither a digit nor a space
abbrev pub is_stray : Sign → Bool
is_stray (Digit v) = false
is_stray Space = false
is_stray Stray = true

abbrev pub any_stray : List ℕ → Bool
any_stray [] = false
any_stray (c ∷ chars) = is_stray (sign_of c) || any_stray chars

-- the bytes that digits stand for, two digits to a byte, the higher first
abbrev pub bytes_of : List ℕ → List ℕ
bytes_of [] = []
bytes_of (h ∷ []) = []
bytes_of (h ∷ l ∷ digits) = (h * 16 + l) ∷ bytes_of digits

-- whether their count is odd
abbrev pub is_odd : List ℕ → Bool
is_odd [] = false
is_odd (d ∷ digits) = not (is_odd digits)

-- what HEX stands for where the buffer has room for so many bytes
abbrev pub payload_of : ℕ → List ℕ → Option ℕ
payload_of room chars = cond (any_stray chars || is_odd (digits_of chars)) None (Some (min room (length (bytes_of (digits_of chars)))))

-- Reading goes character by character: what was read, and what stands in the buffer.

abbrev pub fresh : Hex
fresh = record { len = 0; high = None; stray = false }

-- one digit more: the first of a byte waits, the second goes to the buffer with the first, where there is room
abbrev pub with_digit : Hex → ℕ → ℕ → Hex
with_digit h room v = digit_after h.high
  where
    digit_after : Option ℕ → Hex
    digit_after None = record { len = h.len; high = Some v; stray = h.stray }
    digit_after (Some high) = record { len = cond (ltb h.len room) (h.len + 1) h.len; high = None; stray = h.stray }

-- the buffer after it; past its end nothing is written
abbrev pub stored_digit : Hex → List ℕ → ℕ → List ℕ
stored_digit h buffer v = stored_after h.high
  where
    stored_after : Option ℕ → List ℕ
    stored_after None = buffer
    stored_after (Some high) = set buffer h.len (high % 16 * 16 + v)

-- one character more
abbrev pub with_character : Hex → ℕ → Sign → Hex
with_character h room (Digit v) = with_digit h room v
with_character h room Space = h
with_character h room Stray = record { len = h.len; high = h.high; stray = true }

abbrev pub stored : Hex → List ℕ → Sign → List ℕ
stored h buffer (Digit v) = stored_digit h buffer v
stored h buffer Space = buffer
stored h buffer Stray = buffer

-- a part more
abbrev pub read_on : Hex → ℕ → List ℕ → Hex
read_on h room [] = h
read_on h room (c ∷ part) = read_on (with_character h room (sign_of c)) room part

abbrev pub written_on : Hex → List ℕ → ℕ → List ℕ → List ℕ
written_on h buffer room [] = buffer
written_on h buffer room (c ∷ part) = written_on (with_character h room (sign_of c)) (stored h buffer (sign_of c)) room part

-- what was read, taken for the whole
abbrev pub answer_of : Hex → Option ℕ
answer_of h = cond (h.stray || is_some h.high) None (Some h.len)

-- HEX that is read whole, in one part or many, is what it stands for, and the buffer begins with its bytes, as many as have room.
abbrev pub HexIsBytes : Type 0
HexIsBytes = (buffer chars : List ℕ)
    → (answer_of (read_on fresh (length buffer) chars) ≡ payload_of (length buffer) chars)
    × (written_on fresh buffer (length buffer) chars ≡ sets buffer 0 (bytes_of (digits_of chars)))
