-- Labels that name a parameter are 2 to 7; the others are not noted.
use Prim.Native.Nat.{ℕ, zero, suc, ◌≤◌, ◌<◌}
use mathlib.Core.Path.{◌≡◌, refl}
use mathlib.Core.Bool.{Bool, true, false}
use native.Mathlib.Omega.{arith}
use lib.Dec.{ltb}
use borrow.Author.Tests.{ne_eqb, ltb-true, ltb-false}
use Rattle.cojp.specs.Parameter.{parameter_of, later_parameter}
use Rattle.protocol_version.specs.Version.{allows_additional_info}
use Rattle.cojp.specs.declared.error_report.ErrorReports.{ErrorReports}
use Rattle.cojp.specs.declared.parameter.Parameter.{Parameter}
use Rattle.cojp.specs.declared.parameter.Parameter.TheVariants as name
use Rattle.protocol_version.specs.declared.Version.{Version}
use Rattle.protocol_version.specs.declared.Version.TheVariants.{Draft, Published}
use Rattle.cojp_read.specs.configuration.Noted.{is_named, labels_seen_with}

-- any parameter but the last, which is none
pub named : (p : Parameter) → (p ≡ name.Unknown → ⊥) → is_named p ≡ true
named name.Keys o = refl
named name.Address o = refl
named name.Jrc o = refl
named name.Network o = refl
named name.Prefix o = refl
named name.Blacklist o = refl
named name.Rate o = refl
named name.Unknown o = absurd (o refl)

past : (v : Version) (n : ℕ) → 8 ≤ n → parameter_of v n ≡ name.Unknown
unfolding parameter_of later_parameter
past Draft n h =
    rw (
      ne_eqb n 2 (λ e. omega arith),
      ne_eqb n 3 (λ e. omega arith),
      ne_eqb n 4 (λ e. omega arith),
      ne_eqb n 5 (λ e. omega arith),
      ne_eqb n 6 (λ e. omega arith),
    )
past Published n h =
    rw (
      ne_eqb n 2 (λ e. omega arith),
      ne_eqb n 3 (λ e. omega arith),
      ne_eqb n 4 (λ e. omega arith),
      ne_eqb n 6 (λ e. omega arith),
      ne_eqb n 7 (λ e. omega arith),
    )

pub named-few : (v : Version) (n : ℕ) → is_named (parameter_of v n) ≡ true → n < 8
named-few v n h = go (ltb n 8) refl
  where
    go : (b : Bool) → ltb n 8 ≡ b → n < 8
    go true e = ltb-true n 8 e
    go false e =
        let none : false ≡ true = rw (past v n (ltb-false n 8 e)) at h in
        absurd (let z : ◌≡◌ {A = ℕ} 0 1 = cc in omega arith)

pub named_some : (v : Version) (n : ℕ) → is_named (parameter_of v n) ≡ true → 0 < n
unfolding parameter_of later_parameter
named_some Draft zero h = absurd (let z : ◌≡◌ {A = ℕ} 0 1 = cc in omega arith)
named_some Published zero h = absurd (let z : ◌≡◌ {A = ℕ} 0 1 = cc in omega arith)
named_some v (suc n) h = omega arith

pub met-draft : (v : Version) (n : ℕ) (f : ErrorReports) → allows_additional_info v ≡ false → labels_seen_with v n f ≡ f
met-draft Draft n f h = refl
met-draft Published n f h = absurd (let z : ◌≡◌ {A = ℕ} 0 1 = cc in omega arith)

pub met-same : (v : Version) (n : ℕ) (f : ErrorReports) → parameter_of v n ≡ name.Unknown → labels_seen_with v n f ≡ f
met-same Draft n f h = refl
met-same Published n f h = rw h
