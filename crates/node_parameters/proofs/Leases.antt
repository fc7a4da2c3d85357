-- An address is in range at a later clock too.
use Prim.Native.Nat.{ℕ, ◌≤◌}
use native.Mathlib.Omega.{arith}
use mathlib.Core.Path.{◌≡◌, refl}
use mathlib.Core.Bool.{Bool, true, false, cond, ◌&&◌}
use borrow.Author.Tests.{leb-true, le-leb}
use lib.Dec.{leb}
use Rattle.lemmas.specs.logic.Tests.{both_left, both_right}
use Rattle.short_address.specs.Address.{is_address}
use Rattle.node_parameters.specs.Lease.{valid_address}
use Rattle.node_parameters.specs.declared.address.HeldAddress.{HeldAddress}
use Rattle.lemmas.specs.logic.Tests.{both}

pub later : (clock time : ℕ) (a : HeldAddress) → clock ≤ time → valid_address clock a ≡ true → valid_address time a ≡ true
later clock time a h e = go a.held e
  where
    go :
        (b : Bool) → cond b (is_address a.value.bytes && leb a.received clock) true ≡ true →
        cond b (is_address a.value.bytes && leb a.received time) true ≡ true
    go false p = refl
    go true p =
        both (is_address a.value.bytes) (leb a.received time) (both_left (is_address a.value.bytes) (leb a.received clock) p)
        (le-leb a.received time
        (omega (arith, leb-true a.received clock (both_right (is_address a.value.bytes) (leb a.received clock) p))))
