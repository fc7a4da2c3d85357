-- What the answer about a parameter says is what its definition reads.
use Rattle.std.specs.Prelude.{Result, Ok, Err}
use Prim.Native.Nat.{ℕ}
use mathlib.Core.Path.{◌≡◌, ap, sym, ◌∙◌}
use Rattle.refusal.specs.declared.Refusal.{Refusal}
use Rattle.refusal.specs.Verdict.{Verdict}
use Rattle.cojp.specs.KeySet.{keys_answer}
use Rattle.cojp.specs.Reading.{Reading, refused, read, read_by, result_of, malformed_as}
use Rattle.cojp.specs.declared.key_set.KeysParameter.{KeysParameter}
use Rattle.cojp.specs.declared.key_set.KeysRead.{KeysRead}

pub keys-said : (r : KeysRead) (x : Reading KeysParameter) (n : ℕ) → r ≡ keys_answer x n → result_of r.verdict r.parameter ≡ x
keys-said r (refused k) n e = rw e
keys-said r (read p) n e = rw e

-- ---- in the published form a refusal is forgiven: what an answer has, or the parameter with nothing taken
module _ {P : Type 0} (bad : P) (w : Verdict) (p : P) (x : Reading P) (e : result_of w p ≡ x) where
  pub said-kept : w ≡ Ok tt → p ≡ malformed_as bad x
  said-kept g = ap (λ (w : Verdict). malformed_as bad (result_of w p)) (sym g) ∙ ap (malformed_as bad) e

  pub said-bad : (k : Refusal) → w ≡ Err k → bad ≡ malformed_as bad x
  said-bad k g = ap (λ (w : Verdict). malformed_as bad (result_of w p)) (sym g) ∙ ap (malformed_as bad) e

-- the same of a reader at a place
module _ {P : Type 0} (bad : P) (r : Result (P × ℕ) Refusal) (x : Reading P) (e : read_by r ≡ x) where
  pub read-kept : (q : P × ℕ) → r ≡ Ok q → q.0 ≡ malformed_as bad x
  read-kept q g = ap (λ (a : Result (P × ℕ) Refusal). malformed_as bad (read_by a)) (sym g) ∙ ap (malformed_as bad) e

  pub read-bad : (k : Refusal) → r ≡ Err k → bad ≡ malformed_as bad x
  read-bad k g = ap (λ (a : Result (P × ℕ) Refusal). malformed_as bad (read_by a)) (sym g) ∙ ap (malformed_as bad) e
