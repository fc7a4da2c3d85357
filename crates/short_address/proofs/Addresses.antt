-- By numbers, the high byte is FF from FF00 on, and from FFFE on the low one is at least FE.
use Rattle.std.proofs.Common.{ℕ, ◌<◌, ◌/◌, ◌%◌, ◌≡◌, refl, sym, ◌∙◌, ap, Bool, true, false, List, inl, inr, arith, length}
use Rattle.std.proofs.lemmas.Bool.{ne_eqb, eqb-true, eqb-false, le-ltb, lt-ltb, leb-true, leb-false}
use Rattle.std.specs.Prelude.{eqb, leb, ltb, get_or}
use Rattle.std.proofs.lemmas.Nat.{be_bytes_2}
use Rattle.std.specs.Int.{w16, to_be_bytes, from_be_bytes}
use Rattle.short_address.specs.Address.{is_address, bytes_of, Reserved, AddressLaws}

number_by : (n : ℕ) (x y : Bool) → n < 0x10000 → eqb (n / 256) 0xff ≡ x → leb 0xfe (n % 256) ≡ y → is_address (bytes_of n) ≡ ltb n 0xfffe
unfolding is_address bytes_of
number_by n true true h p q = rw (p, q) (sym (le-ltb n 0xfffe (omega (arith, eqb-true (n / 256) 0xff p, leb-true 0xfe (n % 256) q))))
number_by n true false h p q = rw (p, q) (sym (lt-ltb n 0xfffe (omega (arith, eqb-true (n / 256) 0xff p, leb-false 0xfe (n % 256) q))))
number_by n false y h p q = rw p (sym (lt-ltb n 0xfffe (omega (arith, eqb-false (n / 256) 0xff p))))

pub numbers : (n : ℕ) → n < 0x10000 → is_address (bytes_of n) ≡ ltb n 0xfffe
numbers n h = number_by n _ _ h refl refl

-- std's bytes of a number are the definition's
pub be_bytes : (n : ℕ) → n < 0x10000 → to_be_bytes w16 n ≡ bytes_of n
unfolding bytes_of
be_bytes n h =
    let e : n / 256 % 256 ≡ n / 256 = omega arith in
    rw e refl

-- and an address is judged by the number that its bytes are
pub judged : (s : List ℕ) (n : ℕ) → length s ≡ 2 → ((i : ℕ) → get_or s i 0 < 256) → n ≡ from_be_bytes w16 s → n < 0x10000
    → ltb n 0xfffe ≡ is_address s
judged s n two small is h = sym (numbers n h) ∙ ap is_address (sym (be_bytes n h) ∙ be_bytes_2 s n two small is)

two_bytes : (s : List ℕ) → ¬ (length s ≡ 2) → is_address s ≡ false
unfolding is_address
two_bytes s h = rw (ne_eqb (length s) 2 h)

reserved-none : (s : List ℕ) → Reserved s → is_address s ≡ false
unfolding is_address
reserved-none s (inl e) = rw e
reserved-none s (inr e) = rw e

pub address-laws : AddressLaws
address-laws = record { numbers = numbers; two_bytes = two_bytes; reserved = reserved-none }
