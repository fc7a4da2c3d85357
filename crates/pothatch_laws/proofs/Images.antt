-- What was stored is an image of its size, and is loaded as it was; what is loaded from an image fits, and is stored as it stood.
use Prim.Native.Nat.{ℕ, ◌≤◌}
use mathlib.Core.Path.{◌≡◌, ap, sym, ◌∙◌}
use mathlib.Core.Bool.{true}
use mathlib.Core.List.{List, [], append-nil}
use native.Mathlib.Omega.{arith}
use borrow.Author.Tests.{eq-eqb}
use lib.Dec.{eqb}
use lib.ListN.{length}
use lib.Seq.{take_all}
use Rattle.lemmas.specs.logic.Tests.{both_right}
use Rattle.image.proofs.Lent.{long}
use Rattle.image.specs.Part.{Part, AllBytes, RoundTrips, is_image}

module _ {A : Type 0} (p : Part A) (laws : RoundTrips p) (a : A) (fit : p.Fit a) where
  pub put-long : length (p.put a) ≡ p.size
  put-long = laws.sized a fit

  pub put_is : is_image p (p.put a) ≡ true
  put_is = rw (eq-eqb (length (p.put a)) p.size put-long) (ap p.good (sym (append-nil (p.put a))) ∙ laws.stored a [] fit)

  pub put-got : p.get (p.put a) ≡ a
  put-got = ap p.get (sym (append-nil (p.put a))) ∙ laws.loaded a [] fit

module _ {A : Type 0} (p : Part A) (laws : RoundTrips p) (s : List ℕ) (b : AllBytes s) (i : is_image p s ≡ true) where
  enough : p.size ≤ length s
  enough = omega (arith, long p s i)

  good : p.good s ≡ true
  good = both_right (eqb (length s) p.size) (p.good s) i

  pub got-fits : p.Fit (p.get s)
  got-fits = laws.fits s b enough good

  pub got-put : p.put (p.get s) ≡ s
  got-put = laws.back s b enough good ∙ take_all p.size s (omega (arith, long p s i))
