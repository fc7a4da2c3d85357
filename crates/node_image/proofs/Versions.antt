-- Each form has its number, and a byte over 0 is read as the published one.
use Prim.Native.Nat.{ℕ, zero, suc}
use mathlib.Core.Path.{◌≡◌, refl}
use mathlib.Core.Bool.{true}
use native.Mathlib.Omega.{arith}
use borrow.Author.Tests.{leb-true}
use lib.Dec.{leb}
use Rattle.image.specs.CodecLaws.{code-lawful}
use Rattle.image.specs.Part.{RoundTrips}
use Rattle.protocol_version.specs.declared.Version.{Version}
use Rattle.protocol_version.specs.declared.Version.TheVariants.{Draft, Published}
use Rattle.node_image.specs.Version.{version_number, version_of, version_part}

pub published : (n : ℕ) → (n ≡ 0 → ⊥) → Published ≡ version_of n
published zero h = absurd (h refl)
published (suc n) h = refl

version-again : (v : Version) → version_of (version_number v) ≡ v
version-again Draft = refl
version-again Published = refl

version-undone : (n : ℕ) → leb n 1 ≡ true → version_number (version_of n) ≡ n
version-undone zero h = refl
version-undone (suc n) h = omega (arith, leb-true (suc n) 1 h)

pub version-lawful : RoundTrips version_part
version-lawful = code-lawful version_number version_of 1 version-again version-undone
