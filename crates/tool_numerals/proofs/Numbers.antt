-- A word read character by character is the number that it stands for.
use Prim.Native.Nat.{ℕ, ◌+◌, ◌-◌, ◌*◌, ◌^◌, ◌≤◌, ◌<◌}
use native.Mathlib.Omega.{arith}
use mathlib.Core.Path.{◌≡◌, refl}
use mathlib.Core.Bool.{Bool, true, false, cond, ◌&&◌}
use mathlib.Core.List.{List, [], ◌∷◌}
use borrow.Author.Tests.{lt-ltb, le-ltb, ltb-true, ltb-false}
use lib.Dec.{ltb}
use Rattle.tool_numerals.specs.Decimal.{is_digit, all_digits, value_after, fitting, number_of, read_on}
use Rattle.tool_numerals.specs.declared.decimal.Decimal.{Decimal}
use Rattle.tool_numerals.specs.declared.decimal.Decimal.TheVariants.{Empty, Number, Fault}

-- a faulty word stays one
fault-stays : (word : List ℕ) → read_on Fault word ≡ Fault
fault-stays [] = refl
fault-stays (c ∷ word) = fault-stays word

-- digits never make a number smaller
grows : (word : List ℕ) (v : ℕ) → v ≤ value_after v word
grows [] v = omega arith
grows (c ∷ word) v = omega (arith, grows word (v * 10 + (c - 48)))

cond-and : (a b : Bool) (d : Decimal) → b ≡ false → cond (a && b) d Fault ≡ Fault
cond-and true b d e = rw e
cond-and false b d e = refl

after-digit : (v : ℕ) (word : List ℕ) (b : Bool) → ltb v (2 ^ 64) ≡ b
    → ((v < 2 ^ 64) → read_on (Number v) word ≡ fitting (all_digits word) (value_after v word))
    → read_on (cond b (Number v) Fault) word ≡ fitting (all_digits word) (value_after v word)
after-digit v word true e on = on (ltb-true v (2 ^ 64) e)
after-digit v word false e on =
    let value = value_after v word in
    let large : ltb value (2 ^ 64) ≡ false = le-ltb value (2 ^ 64) (omega (arith, grows word v, ltb-false v (2 ^ 64) e)) in
    rw (fault-stays word, cond-and (all_digits word) (ltb value (2 ^ 64)) (Number value) large)

after-character : (v : ℕ) (word : List ℕ) (b : Bool)
    → ((v < 2 ^ 64) → read_on (Number v) word ≡ fitting (all_digits word) (value_after v word))
    → read_on (fitting b v) word ≡ fitting (b && all_digits word) (value_after v word)
after-character v word true on = after-digit v word (ltb v (2 ^ 64)) refl on
after-character v word false on = fault-stays word

-- after the number v a word is read as the number that both stand for
number-then : (word : List ℕ) (v : ℕ) → v < 2 ^ 64 → read_on (Number v) word ≡ fitting (all_digits word) (value_after v word)
number-then [] v h = rw (lt-ltb v (2 ^ 64) h)
number-then (c ∷ word) v h = after-character (v * 10 + (c - 48)) word (is_digit c) (number-then word (v * 10 + (c - 48)))

pub word_is_number : (word : List ℕ) → read_on Empty word ≡ number_of word
word_is_number [] = refl
word_is_number (c ∷ word) = after-character (0 * 10 + (c - 48)) word (is_digit c) (number-then word (0 * 10 + (c - 48)))
