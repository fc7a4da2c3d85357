-- How a call finds an arrival, from the tests that the code makes in order, and what each course says of the arrival.
use Prim.Native.Nat.{ℕ, ◌+◌, ◌≤◌, ◌<◌}
use mathlib.Core.Path.{◌≡◌, refl}
use mathlib.Core.Bool.{Bool, true, false, cond, not, ◌&&◌, ◌||◌}
use native.Mathlib.Omega.{arith}
use borrow.Author.Tests.{leb-true, ltb-false, le-leb, lt-leb, lt-ltb, le-ltb}
use lib.Dec.{leb, ltb}
use Rattle.cojp_serial.specs.State.{decision_of}
use Rattle.cojp_serial.specs.declared.state.SerialState.{SerialState}
use Rattle.cojp_serial.specs.declared.state.PartDecision.{PartDecision}
use Rattle.cojp_serial.specs.declared.state.PartDecision.TheVariants.{Outside, Overrun, Ended, Open}

module _ (a : SerialState) (lent n : ℕ) where
  pub store-short : lent < 256 → Outside ≡ decision_of a lent n
  unfolding decision_of
  store-short h = rw (lt-leb 256 lent h)

  module _ (l : 256 ≤ lent) where
    pub too_many : 256 < a.arrived → Outside ≡ decision_of a lent n
    unfolding decision_of
    too_many h = rw (le-leb 256 lent l, lt-leb a.arrived 256 h)

    module _ (m : a.arrived ≤ 256) where
      pub overrun-before : a.overrun ≡ true → Overrun ≡ decision_of a lent n
      unfolding decision_of
      overrun-before o = simp (le-leb 256 lent l, le-leb a.arrived 256 m, o)

      module _ (o : a.overrun ≡ false) where
        pub overrun-now : 256 < a.arrived + n → Overrun ≡ decision_of a lent n
        unfolding decision_of
        overrun-now p = simp (le-leb 256 lent l, le-leb a.arrived 256 m, o, lt-ltb 256 (a.arrived + n) p)

        module _ (f : a.arrived + n ≤ 256) where
          pub ended-before : a.ended ≡ true → Ended ≡ decision_of a lent n
          unfolding decision_of
          ended-before e = simp (le-leb 256 lent l, le-leb a.arrived 256 m, o, le-ltb 256 (a.arrived + n) f, e)

          pub open-to : a.ended ≡ false → Open ≡ decision_of a lent n
          unfolding decision_of
          open-to e = simp (le-leb 256 lent l, le-leb a.arrived 256 m, o, le-ltb 256 (a.arrived + n) f, e)

-- ---- what a course says
pub record Fits (a : SerialState) (lent n : ℕ) : Type 0 where
  pub store : 256 ≤ lent
  pub room : a.arrived + n ≤ 256
  pub clear : a.overrun ≡ false
  pub unended : a.ended ≡ false

pub record Limited (a : SerialState) (lent : ℕ) : Type 0 where
  pub store : 256 ≤ lent
  pub arrived : a.arrived ≤ 256

by_tests : Bool → Bool → Bool → Bool → Bool → PartDecision
by_tests b d o l e = cond (not (b && d)) Outside (cond (o || l) Overrun (cond e Ended Open))

open-tests : (b d o l e : Bool) → by_tests b d o l e ≡ Open → (b ≡ true) × (o ≡ false) × (l ≡ false) × (e ≡ false)
unfolding by_tests
open-tests false d o l e h = absurd (let z : ◌≡◌ {A = ℕ} 0 1 = cc in omega arith)
open-tests true false o l e h = absurd (let z : ◌≡◌ {A = ℕ} 0 1 = cc in omega arith)
open-tests true true true l e h = absurd (let z : ◌≡◌ {A = ℕ} 0 1 = cc in omega arith)
open-tests true true false true e h = absurd (let z : ◌≡◌ {A = ℕ} 0 1 = cc in omega arith)
open-tests true true false false true h = absurd (let z : ◌≡◌ {A = ℕ} 0 1 = cc in omega arith)
open-tests true true false false false h = (refl, refl, refl, refl)

overrun-tests : (b d o l e : Bool) → by_tests b d o l e ≡ Overrun → (b ≡ true) × (d ≡ true)
unfolding by_tests
overrun-tests false d o l e h = absurd (let z : ◌≡◌ {A = ℕ} 0 1 = cc in omega arith)
overrun-tests true false o l e h = absurd (let z : ◌≡◌ {A = ℕ} 0 1 = cc in omega arith)
overrun-tests true true o l e h = (refl, refl)

-- an arrival that has ended and is in its limits is overrun or ended to any call
pub data Shut : PartDecision → Type 0 where
  by-overrun : Shut Overrun
  by_end : Shut Ended

shut-tests : (b d o l e : Bool) → b ≡ true → d ≡ true → e ≡ true → Shut (by_tests b d o l e)
unfolding by_tests
shut-tests false d o l e p q r = absurd (let z : ◌≡◌ {A = ℕ} 0 1 = cc in omega arith)
shut-tests true false o l e p q r = absurd (let z : ◌≡◌ {A = ℕ} 0 1 = cc in omega arith)
shut-tests true true true l e p q r = by-overrun
shut-tests true true false true e p q r = by-overrun
shut-tests true true false false false p q r = absurd (let z : ◌≡◌ {A = ℕ} 0 1 = cc in omega arith)
shut-tests true true false false true p q r = by_end

module _ (a : SerialState) (lent n : ℕ) where
  pub open-fits : decision_of a lent n ≡ Open → Fits a lent n
  unfolding decision_of by_tests
  open-fits h =
      let t = open-tests (leb 256 lent) (leb a.arrived 256) a.overrun (ltb 256 (a.arrived + n)) a.ended h in
      record { store = leb-true 256 lent t.0; room = ltb-false 256 (a.arrived + n) t.2; clear = t.1; unended = t.3 }

  pub overrun-limited : decision_of a lent n ≡ Overrun → Limited a lent
  unfolding decision_of by_tests
  overrun-limited h =
      let t = overrun-tests (leb 256 lent) (leb a.arrived 256) a.overrun (ltb 256 (a.arrived + n)) a.ended h in
      record { store = leb-true 256 lent t.0; arrived = leb-true a.arrived 256 t.1 }

  pub ended-shut : Limited a lent → a.ended ≡ true → Shut (decision_of a lent n)
  unfolding decision_of by_tests
  ended-shut w e =
      shut-tests (leb 256 lent) (leb a.arrived 256) a.overrun (ltb 256 (a.arrived + n)) a.ended
      (le-leb 256 lent w.store) (le-leb a.arrived 256 w.arrived) e
