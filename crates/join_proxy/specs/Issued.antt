-- How many numbers were issued with the present key: so many, 0 up to the one before, so that it is the next; or, with no next one, all
-- 4,294,967,296.
use Rattle.std.specs.Prelude.{ℕ, Option}

abbrev pub Issued : Type 0
Issued = Option ℕ
