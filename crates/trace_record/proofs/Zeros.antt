-- Unused bytes: `all` of an iterator over them, as `zeros` has it.
use Rattle.std.proofs.Common.{ℕ, ◌+◌, ◌-◌, ◌≡◌, refl, ap, arith, Bool, ◌&&◌, List, [], ◌∷◌, take, drop, eqb}
use Rattle.std.specs.List.{list_all}
use Rattle.trace_record.specs.Layout.{zeros, blank}

all-zeros : (b : List ℕ) → list_all (λ x. eqb x 0) b ≡ zeros b
all-zeros [] = refl
all-zeros (x ∷ b) = ap (λ (t : Bool). (eqb x 0 && t)) (all-zeros b)

pub part-blank : (n at : ℕ) (s : List ℕ) → list_all (λ x. eqb x 0) (take (at + n - at) (drop at s)) ≡ blank n (drop at s)
unfolding blank
part-blank n at s = let e : at + n - at ≡ n = omega arith in rw e (all-zeros (take n (drop at s)))
