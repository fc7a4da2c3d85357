-- Decimal numbers as the desk tools take them: digits alone, leading zeros at will, 0 to 2 ^ 64 - 1.
use Rattle.std.specs.Prelude.{ℕ, ◌+◌, ◌-◌, ◌*◌, ◌^◌, Bool, true, cond, ◌&&◌, List, [], ◌∷◌, Option, None, Some, leb, ltb}
use Rattle.tool_numerals.specs.declared.decimal.Decimal.{Decimal}
use Rattle.tool_numerals.specs.declared.decimal.Decimal.TheVariants.{Empty, Number, Fault}

-- `0` to `9` in ASCII
abbrev pub is_digit : ℕ → Bool
is_digit c = leb 48 c && leb c 57

-- every character of the word is a digit
abbrev pub all_digits : List ℕ → Bool
all_digits [] = true
all_digits (c ∷ word) = is_digit c && all_digits word

-- the number that digits stand for, the first of them the highest, where v stands before them
abbrev pub value_after : ℕ → List ℕ → ℕ
value_after v [] = v
value_after v (c ∷ word) = value_after (v * 10 + (c - 48)) word

-- what a number of such a size is to the tools
abbrev pub fitting : Bool → ℕ → Decimal
fitting digits v = cond (digits && ltb v (2 ^ 64)) (Number v) Fault

-- what a word stands for
abbrev pub number_of : List ℕ → Decimal
number_of [] = Empty
number_of (c ∷ word) = fitting (all_digits (c ∷ word)) (value_after 0 (c ∷ word))

-- one character more after the number v
abbrev pub number_with : ℕ → ℕ → Decimal
number_with v c = fitting (is_digit c) (v * 10 + (c - 48))

-- one character more after what was read
abbrev pub stepped : Decimal → ℕ → Decimal
stepped Empty c = number_with 0 c
stepped (Number v) c = number_with v c
stepped Fault c = Fault

-- a part of a word after what was read
abbrev pub read_on : Decimal → List ℕ → Decimal
read_on d [] = d
read_on d (c ∷ part) = read_on (stepped d c) part

-- the number that was read, where one was
abbrev pub value_of : Decimal → Option ℕ
value_of Empty = None
value_of (Number v) = Some v
value_of Fault = None
