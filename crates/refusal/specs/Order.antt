-- Document 01's "Order": of the tests of a call, the first that refuses answers.
use Rattle.std.specs.Prelude.{ℕ, zero, suc, Bool, cond, List, [], ◌∷◌}

-- the number of a test that refuses, 0 of one that does not
abbrev pub refused_if : Bool → ℕ → ℕ
refused_if refuses number = cond refuses number 0

-- the first number that is not 0; 0 where no test refuses
abbrev pub in_order : List ℕ → ℕ
in_order [] = 0
in_order (zero ∷ numbers) = in_order numbers
in_order (suc n ∷ numbers) = suc n
