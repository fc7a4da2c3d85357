-- The value at a place as a join rate: by what the layer below says of the value.
use Prim.Native.Nat.{ℕ}
use mathlib.Core.Path.{◌≡◌, refl}
use mathlib.Core.List.{List}
use lib.ListN.{drop}
use Rattle.cbor.specs.View.{ValueAt, ValueSpec}
use Rattle.cbor.specs.declared.value.Value.{Value}
use Rattle.cbor.specs.declared.value.Value.TheVariants as vv
use Rattle.cojp.specs.Bytes.{value_view}
use Rattle.cojp.specs.Rate.{rate_parameter, no_rate_parameter, rate_taken}
use Rattle.cojp.specs.declared.disposition.Disposition.TheVariants.{Taken, Discarded}

module _ (s : List ℕ) (at : ℕ) (v : Value) (e : ValueSpec s at v) where
  pub rate-number : (n p : ℕ) → v ≡ vv.Number n p → rate_parameter Taken n ≡ rate_taken (value_view (drop at s))
  unfolding rate_taken
  rate-number n p g = let here : ValueAt 5 s at (vv.Number n p) = rw g at (e.says 5) in rw here.view

  pub rate-other : ((x p : ℕ) → ¬ (v ≡ vv.Number x p)) → no_rate_parameter Discarded ≡ rate_taken (value_view (drop at s))
  unfolding rate_taken
  rate-other no_number = go v (e.says 5) no_number
    where
      go : (v : Value) → ValueAt 5 s at v → ((x p : ℕ) → ¬ (v ≡ vv.Number x p))
          → no_rate_parameter Discarded ≡ rate_taken (value_view (drop at s))
      go (vv.Number x p) w no_number = absurd (no_number x p refl)
      go (vv.Bytes p a) w no_number = rw w.view
      go (vv.Array p a) w no_number = rw w.view
      go vv.Other w no_number = rw w.view
      go (vv.Minus x p) w no_number = rw w.view
