-- Lemmas: nothing here has to be believed.
-- The reading that the numbers ask for, from the one of a version that is strict or not.
use Rattle.std.specs.Prelude.{ℕ, Bool, true, false, not, cond, ◌≡◌, refl, eqb}
use Rattle.std.proofs.Common.{ap, ◌∙◌}
use Rattle.protocol_version.specs.declared.Version.{Version}
use Rattle.payload_calls.specs.Asked.{version_of, by_reading}

module _ {A : Type 0} (x ordinary strict : A) where
  by_test : (b : Bool) → (not b ≡ false → x ≡ ordinary) → (not b ≡ true → x ≡ strict) → x ≡ cond b ordinary strict
  by_test true f g = f refl
  by_test false f g = g refl

pub read_as : {A : Type 0} (ordinary strict : Version → A) (form reading : ℕ) {x : A} {v : Version} {s : Bool} → v ≡ version_of form
    → s ≡ not (eqb reading 0) → (s ≡ false → x ≡ ordinary v) → (s ≡ true → x ≡ strict v)
    → x ≡ by_reading reading (ordinary (version_of form)) (strict (version_of form))
read_as ordinary strict form reading {x} {v} {s} e f g h =
    by_test x (ordinary (version_of form)) (strict (version_of form)) (eqb reading 0)
    (λ q. g (f ∙ q) ∙ ap ordinary e) (λ q. h (f ∙ q) ∙ ap strict e)
