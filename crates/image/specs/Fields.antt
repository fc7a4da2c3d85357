-- Fields written one after the other, each into the lent part after those before it; and what is written to all of a struct.
-- Assumes nothing.
use Rattle.std.specs.Prelude.{ℕ, ◌+◌, ◌-◌, ◌≤◌, ◌≡◌, refl, Bool, true, false, ◌&&◌, List, ◌++◌, length, take, drop}
use Rattle.std.proofs.Common.{◌∙◌, append-nil, append_assoc, arith, drop_of_length-le}
use Rattle.byte_io.specs.Write.{Wrote}
use Rattle.byte_io.specs.WriteLemmas.{seam}

-- p in k bytes, and then q in m
pub next_field : {p q d d' e : List ℕ} {k m : ℕ} → k + m ≤ length d → Wrote p d k d' → Wrote q (take (length d' - k) (drop k d')) m e
    → Wrote (p ++ q) d (k + m) (take k d' ++ (e ++ drop (length d' - k) (drop k d')))
next_field h w v = seam (omega (arith, w.many, v.many)) w v

-- as many bytes were written as there are
pub whole-struct : {p d d' : List ℕ} {n : ℕ} → length d ≡ n → Wrote p d n d' → d' ≡ p
whole-struct {p} {d} {d'} {n} e w =
    w.holds ∙ rw (drop_of_length-le d {i = length p} (omega (arith, w.many))) (append-nil p)

-- the same bytes, said otherwise
pub wrote-same : {p q d d' : List ℕ} {n : ℕ} → p ≡ q → Wrote p d n d' → Wrote q d n d'
wrote-same e w = rw e at w

-- nothing further is asked
pub and-good : (b : Bool) → b ≡ (b && true)
and-good true = refl
and-good false = refl

-- ---- a struct's head and its fields, in the order of writing, are the fields put one after the other
module _ (h a b : List ℕ) where
  pub two_fields : (h ++ a) ++ b ≡ h ++ (a ++ b)
  two_fields = append_assoc h a b

  pub three-fields : (c : List ℕ) → ((h ++ a) ++ b) ++ c ≡ h ++ (a ++ (b ++ c))
  three-fields c = append_assoc (h ++ a) b c ∙ append_assoc h a (b ++ c)

  pub four-fields : (c d : List ℕ) → (((h ++ a) ++ b) ++ c) ++ d ≡ h ++ (a ++ (b ++ (c ++ d)))
  four-fields c d = rw (
    append_assoc h a b,
    append_assoc h (a ++ b) c,
    append_assoc a b c,
    append_assoc h (a ++ (b ++ c)) d,
    append_assoc a (b ++ c) d,
    append_assoc b c d,
  )
