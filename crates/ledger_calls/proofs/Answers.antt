-- What an answer tells by its case.
use Rattle.std.specs.Prelude.{Result, Ok, Err}
use Prim.Native.Nat.{ℕ}
use mathlib.Core.Path.{◌≡◌, refl}
use mathlib.Core.List.{List}
use Rattle.refusal.specs.Refusal.{number_of}
use Rattle.refusal.specs.Verdict.{verdict_number}
use Rattle.refusal.specs.declared.Refusal.{Refusal}
use Rattle.address_ledger.specs.Answers.{address_verdict, address_value}
use Rattle.image.specs.Effects.{on_accept}

module _ (d : Result ℕ Refusal) (before after : List ℕ) where
  -- the number, the image, and the address
  abbrev Told : ℕ → List ℕ → ℕ → Type 0
  Told r x a = (r ≡ verdict_number (address_verdict d))
      × ((x ≡ on_accept (address_verdict d) before after) × (a ≡ on_accept (address_verdict d) 0 (address_value d)))

  pub address-told : (a : ℕ) {x : List ℕ} → d ≡ Ok a → x ≡ after → Told 0 x a
  address-told a e h = rw e (refl, (h, refl))

  pub address-refused : (k : Refusal) {r : ℕ} → d ≡ Err k → r ≡ number_of k → Told r before 0
  address-refused k e g = rw e (g, (refl, refl))
