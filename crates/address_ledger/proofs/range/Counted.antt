-- What is no address has the highest numbers (a law of short addresses), so the places that count are the lowest ones.
use Prim.Native.Nat.{ℕ, zero, suc, ◌+◌, ◌-◌, ◌≤◌, ◌<◌}
use mathlib.Core.Path.{◌≡◌, refl, sym, ◌∙◌}
use mathlib.Core.Bool.{Bool, true, false}
use native.Mathlib.Omega.{arith}
use borrow.Author.Tests.{ltb-true, ltb-false, lt-ltb, le-ltb}
use lib.Dec.{ltb}
use Rattle.short_address.specs.Address.{is_address, bytes_of, AddressLaws}
use Rattle.address_ledger.specs.range.Range.{counted}

module _ (laws : AddressLaws) where
  number_by : (first n : ℕ) (x : Bool) → first + suc n ≤ 0x10000 → ltb first 0xfffe ≡ x
      → counted (suc first) n ≡ n - (suc first + n - 0xfffe) → counted first (suc n) ≡ suc n - (first + suc n - 0xfffe)
  unfolding counted
  number_by first n true h e ih =
      rw (laws.numbers first (omega arith), e) (omega (arith, ltb-true first 0xfffe e))
  number_by first n false h e ih =
      rw (laws.numbers first (omega arith), e) (omega (arith, ltb-false first 0xfffe e))

  -- all of them, less those from FFFE on
  pub counted-number : (first n : ℕ) → first + n ≤ 0x10000 → counted first n ≡ n - (first + n - 0xfffe)
  unfolding counted
  counted-number first zero h = omega arith
  counted-number first (suc n) h = number_by first n _ h refl (counted-number (suc first) n (omega arith))

  module _ (first size n : ℕ) (h : first + size ≤ 0x10000) (most : n ≤ size) (least : counted first size ≤ n) where
    -- the loop of `count`: at the first address from the end every number before is one
    pub ends-here : 0 < n → is_address (bytes_of (first + (n - 1))) ≡ true → n - 1 + 1 ≡ counted first size
    ends-here p e =
        let t = ltb-true (first + (n - 1)) 0xfffe (sym (laws.numbers (first + (n - 1)) (omega arith)) ∙ e) in
        omega (arith, counted-number first size h)

    pub goes_on : 0 < n → is_address (bytes_of (first + (n - 1))) ≡ false → counted first size ≤ n - 1
    goes_on p e =
        let t = ltb-false (first + (n - 1)) 0xfffe (sym (laws.numbers (first + (n - 1)) (omega arith)) ∙ e) in
        omega (arith, counted-number first size h)

  -- a number of the range is an address exactly where its place counts
  pub counted-is-address : (first size k : ℕ) → first + size ≤ 0x10000 → k < counted first size → is_address (bytes_of (first + k)) ≡ true
  counted-is-address first size k h l =
      let c = counted-number first size h in
      laws.numbers (first + k) (omega arith) ∙ lt-ltb (first + k) 0xfffe (omega arith)

  pub other-is-none : (first size k : ℕ) → first + size ≤ 0x10000 → k < size → counted first size ≤ k
      → is_address (bytes_of (first + k)) ≡ false
  other-is-none first size k h s l =
      let c = counted-number first size h in
      laws.numbers (first + k) (omega arith) ∙ le-ltb (first + k) 0xfffe (omega arith)
