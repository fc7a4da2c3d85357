-- Lemmas: nothing here has to be believed.
-- No more addresses count than there are.
use Rattle.std.specs.Prelude.{ℕ, zero, suc, ◌≤◌, ◌≡◌, refl, Bool, true, false}
use Rattle.std.proofs.Common.{arith}
use Rattle.short_address.specs.Address.{is_address, bytes_of}
use Rattle.address_ledger.specs.range.Range.{counted}

most-by : (first n : ℕ) (x : Bool) → counted (suc first) n ≤ n → is_address (bytes_of first) ≡ x → counted first (suc n) ≤ suc n
unfolding counted
most-by first n true h e = rw e (omega arith)
most-by first n false h e = rw e (omega arith)

pub counted-most : (first n : ℕ) → counted first n ≤ n
unfolding counted
counted-most first zero = omega arith
counted-most first (suc n) = most-by first n _ (counted-most (suc first) n) refl
