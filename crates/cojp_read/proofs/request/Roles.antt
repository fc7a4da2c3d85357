-- The role of a join request: what its value is judged to be, and what is gathered of it, by the form.
use Rattle.std.specs.Prelude.{Ok, Result}
use Prim.Native.Nat.{ℕ, ◌≤◌, ◌<◌}
use mathlib.Core.Path.{◌≡◌, refl, ap, sym, ◌∙◌}
use mathlib.Core.Bool.{Bool, false}
use mathlib.Core.List.{List}
use lib.ListN.{drop}
use borrow.Author.Tests.{le-leb, lt-leb}
use Rattle.refusal.specs.declared.Refusal.{Refusal}
use Rattle.refusal.specs.declared.Refusal.TheVariants as refusal
use Rattle.cbor.specs.View.{ValueAt, ValueSpec, rest_of}
use Rattle.cbor.specs.declared.value.Value.{Value}
use Rattle.cbor.specs.declared.value.Value.TheVariants as vv
use Rattle.cojp.specs.Bytes.{value_view, after_value, EndsAt}
use Rattle.cojp.specs.ErrorReports.{added}
use Rattle.cojp.specs.Reading.{Judgement, broken, unfit, good, refused, read}
use Rattle.cojp.specs.Request.{role_judged, role_gathered, with_role, with_errors}
use Rattle.protocol_version.specs.Version.{by_version}
use Rattle.cojp.specs.declared.error_report.ErrorReports.{ErrorReports}
use Rattle.cojp.specs.declared.request.RequestState.{RequestState}
use Rattle.protocol_version.specs.declared.Version.{Version}
use Rattle.protocol_version.specs.declared.Version.TheVariants.{Draft, Published}
use Rattle.cojp_read.specs.request.Requests.{RoleSpec, BadRole}
use Rattle.cojp_read.specs.declared.request.role.RoleRead.{RoleRead}

-- ---- the value at a place, as it is judged
module _ (s : List ℕ) (at : ℕ) (v : Value) (e : ValueSpec s at v) where
  module _ (n p : ℕ) (g : v ≡ vv.Number n p) where
    role-here : ValueAt 5 s at (vv.Number n p)
    role-here = rw g at (e.says 5)

    pub role-high : 1 < n → role_judged (value_view (drop at s)) ≡ unfit
    unfolding role_judged
    role-high h = rw (role-here.view, lt-leb n 1 h)

    pub role-fits : n ≤ 1 → role_judged (value_view (drop at s)) ≡ good n
    unfolding role_judged
    role-fits h = rw (role-here.view, le-leb n 1 h)

    pub role-ends : EndsAt s p (after_value (drop at s))
    role-ends =
        let w : ValueAt 6 s at (vv.Number n p) = rw g at (e.says 6) in
        record { rest = sym (ap rest_of w.rest.1); inside = w.rest.0 }

  pub role-broken : ((x p : ℕ) → ¬ (v ≡ vv.Number x p)) → role_judged (value_view (drop at s)) ≡ broken
  unfolding role_judged
  role-broken no_number = go v (e.says 5) no_number
    where
      go : (v : Value) → ValueAt 5 s at v → ((x p : ℕ) → ¬ (v ≡ vv.Number x p)) → role_judged (value_view (drop at s)) ≡ broken
      go (vv.Number x p) w no_number = absurd (no_number x p refl)
      go (vv.Bytes p a) w no_number = rw w.view
      go (vv.Array p a) w no_number = rw w.view
      go vv.Other w no_number = rw w.view
      go (vv.Minus x p) w no_number = rw w.view

-- ---- what is gathered of it, f being the reports before it
pub says_first : (v : Version) (named : Bool) (f : ErrorReports) (j k : Judgement ℕ) (r : Result RoleRead Refusal) → named ≡ false → j ≡ k
    → RoleSpec v false f k r → RoleSpec v named f j r
says_first v named f j k r first e says = rw (first, e) says

module _ (v : Version) (f : ErrorReports) where
  pub says-unfit : (r : Result RoleRead Refusal) → BadRole v refusal.Role f 0 r → RoleSpec v false f unfit r
  says-unfit r bad g e = bad g ∙ go v
    where
      go : (v : Version) → by_version v (refused refusal.Role) (read (with_errors (with_role g 0) (added f 0 1))) ≡ role_gathered v g unfit
      go Draft = refl
      go Published = rw (← e)

  pub says-broken : (r : Result RoleRead Refusal) → BadRole v refusal.«Type» f 1 r → RoleSpec v false f broken r
  says-broken r bad g e = bad g ∙ go v
    where
      go : (v : Version) → by_version v (refused refusal.«Type») (read (with_errors (with_role g 0) (added f 1 1))) ≡ role_gathered v g
          broken
      go Draft = refl
      go Published = rw (← e)

  pub says-good : (named : Bool) (j : Judgement ℕ) (n next : ℕ) → named ≡ false → j ≡ good n
      → RoleSpec v named f j (Ok (record { role = n; errors = f; next = next }))
  says-good named j n next first e =
      says_first v named f j (good n) (Ok (record { role = n; errors = f; next = next })) first e
      (λ g same. go v g same)
    where
      go : (v : Version) (g : RequestState) → g.request.errors ≡ f → read (with_errors (with_role g n) f) ≡ role_gathered v g (good n)
      go Draft g same = rw (← same)
      go Published g same = rw (← same)
