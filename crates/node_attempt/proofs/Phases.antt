-- The phases other than the one that is asked for.
use native.Mathlib.Omega.{arith}
use mathlib.Core.Path.{◌≡◌, refl}
use mathlib.Core.Bool.{false}
use mathlib.Core.List.{[], ◌∷◌}
use mathlib.Core.Logic.{⊎_elim}
use types.Run.{OneOf}
use denote.Enum.Declared.{tag_of}
use Rattle.node_attempt.specs.Attempt.{is_waiting, is_joined}
use Rattle.node_attempt.specs.declared.attempt.Phase.{Phase}
use Rattle.node_attempt.specs.declared.attempt.Phase.TheVariants.{Idle, Waiting, Joined, GaveUp}
use Rattle.node_attempt.specs.contracts.attempt.Phase as phase

pub not-waiting : (p : Phase) → OneOf (0 ∷ 2 ∷ 3 ∷ []) (tag_of phase.the_type p) → false ≡ is_waiting p
not-waiting Idle o = refl
not-waiting Waiting o = absurd (⊎_elim (λ e. omega arith) (λ o. ⊎_elim (λ e. omega arith) (λ e. omega arith) o) o)
not-waiting Joined o = refl
not-waiting GaveUp o = refl

pub not-joined : (p : Phase) → OneOf (0 ∷ 1 ∷ 3 ∷ []) (tag_of phase.the_type p) → false ≡ is_joined p
not-joined Idle o = refl
not-joined Waiting o = refl
not-joined Joined o = absurd (⊎_elim (λ e. omega arith) (λ o. ⊎_elim (λ e. omega arith) (λ e. omega arith) o) o)
not-joined GaveUp o = refl
