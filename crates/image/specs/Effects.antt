-- What a call from C leaves in the bytes and numbers that it was lent, by its verdict. State and destinations: refused, as they were.
-- A result is the call's own answer: refused, all zero, so that nothing of an earlier call is left in it.
use Rattle.std.specs.Prelude.{ℕ, Bool, cond, ◌&&◌, List, ◌≡◌, eqb, length, replicate, Ok, Err}
use Rattle.refusal.specs.Verdict.{verdict_number}
use Rattle.refusal.specs.declared.Refusal.TheVariants.{Range}
use Rattle.refusal.specs.Verdict.{Verdict}

-- the one where the call was refused, the other where it was accepted
abbrev pub on_accept : {A : Type 0} → Verdict → A → A → A
on_accept (Ok tt) before after = after
on_accept (Err k) before after = before

-- RANGE comes first where what was lent is not of its size, or no image
abbrev pub checked_first : Bool → Verdict → Verdict
checked_first right v = cond right v (Err Range)

-- a result struct of n bytes: where s is not so long, it is not touched
abbrev pub result_bytes : ℕ → Verdict → List ℕ → List ℕ → List ℕ
result_bytes n v image s = cond (eqb (length s) n) (on_accept v (replicate n 0) image) s

-- what a refused call leaves in it: all zero, or what it held where it is not so long
abbrev pub zeroed : ℕ → List ℕ → List ℕ
zeroed n s = cond (eqb (length s) n) (replicate n 0) s

-- ---- a call that hands back a struct of n bytes: by what it is lent, right or not, and then by the verdict w of the function behind it
abbrev pub hand_verdict : ℕ → Bool → Verdict → List ℕ → Verdict
hand_verdict n right w s = checked_first (eqb (length s) n && right) w

-- the number r was answered, and the struct s holds s' afterwards
pub record ResultSpec (n : ℕ) (right : Bool) (w : Verdict) (image s : List ℕ) (r : ℕ) (s' : List ℕ) : Type 0 where
  pub number : r ≡ verdict_number (hand_verdict n right w s)
  pub result : s' ≡ result_bytes n (hand_verdict n right w s) image s
