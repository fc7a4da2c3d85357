-- What the tests of range and memory show, one law to a way out of `judge`, and what an accepted range is known to have.
use Rattle.std.specs.Prelude.{Ok, Err}
use Prim.Native.Nat.{ℕ, ◌+◌, ◌*◌, ◌≤◌, ◌<◌}
use mathlib.Core.Path.{◌≡◌, refl}
use mathlib.Core.Bool.{Bool, true, false, cond, ◌&&◌}
use native.Mathlib.Omega.{arith}
use borrow.Author.Tests.{le-leb, lt-leb, leb-true}
use lib.Dec.{leb}
use Rattle.lemmas.specs.logic.Tests.{both_true}
use Rattle.refusal.specs.Verdict.{Verdict}
use Rattle.refusal.specs.declared.Refusal.TheVariants.{Room, Range}
use Rattle.address_ledger.specs.range.RangeLemmas.{counted-most}
use Rattle.address_ledger.specs.range.Range.{in_limits, judged, counted, counted_in, Usable}

-- ---- RANGE, then ROOM
module _ (first size len : ℕ) where
  pub outside : in_limits first size ≡ false → Err Range ≡ judged first size len
  unfolding judged
  outside e = rw e

  module _ (e : in_limits first size ≡ true) where
    pub memory-short : len < 9 * size → Err Room ≡ judged first size len
    unfolding judged
    memory-short q = rw (e, lt-leb (9 * size) len q)

    pub accepted : 9 * size ≤ len → Ok tt ≡ judged first size len
    unfolding judged
    accepted q = rw (e, le-leb (9 * size) len q)

-- ---- back from an accepted range to its tests
passed : (p q : Bool) → ◌≡◌ {A = Verdict} (Ok tt) (cond p (cond q (Ok tt) (Err Room)) (Err Range)) → (p ≡ true) × (q ≡ true)
passed true true h = (refl, refl)
passed true false h = (refl, cc)
passed false q h = (cc, cc)

module _ (first size : ℕ) (e : in_limits first size ≡ true) where
  limits : (leb 1 size ≡ true) × ((leb size 4096 ≡ true) × (leb (first + size) 0x10000 ≡ true))
  unfolding in_limits
  limits =
      let p = both_true (leb 1 size) (leb size 4096 && leb (first + size) 0x10000) e in
      (p.0, both_true (leb size 4096) (leb (first + size) 0x10000) p.1)

  pub within-size : size ≤ 4096
  within-size = leb-true size 4096 limits.1.0

  pub within_end : first + size ≤ 0x10000
  within_end = leb-true (first + size) 0x10000 limits.1.1

module _ (first size len : ℕ) (f : Ok tt ≡ judged first size len) where
  tests : (in_limits first size ≡ true) × (leb (9 * size) len ≡ true)
  unfolding judged
  tests = passed (in_limits first size) (leb (9 * size) len) f

  pub within-limits : in_limits first size ≡ true
  within-limits = tests.0

  pub has_room : 9 * size ≤ len
  has_room = leb-true (9 * size) len tests.1

  pub size-limit : size ≤ 4096
  size-limit = within-size first size tests.0

  pub end-limit : first + size ≤ 0x10000
  end-limit = within_end first size tests.0

  -- how many count, as `count` answers it
  pub counted_is : (n : ℕ) → n ≡ counted_in first size → n ≡ counted first size
  counted_is n h = rw tests.0 at h

  pub usable : (n : ℕ) → n ≡ counted first size → Usable first len n
  usable n e =
      let c = counted-most first size in
      record { room = omega (arith, has_room); size = omega (arith, size-limit); end = omega (arith, end-limit) }
