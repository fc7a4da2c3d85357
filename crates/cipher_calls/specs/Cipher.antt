-- Sealing and opening from C: a key has sixteen bytes and a nonce thirteen, else RANGE; the rest is the cipher's.
use Rattle.std.specs.Prelude.{ℕ, Bool, cond, ◌&&◌, List, ◌≡◌, eqb, length, Ok, Err}
use Rattle.refusal.specs.declared.Refusal.TheVariants.{Range}
use Rattle.refusal.specs.Verdict.{Verdict}
use Rattle.aes_ccm.specs.Plan.{Plan, refuse, emit, answer, after, number_in, length_in, seal_plan, unseal_plan}

abbrev pub plan_verdict : Plan → Verdict
plan_verdict (refuse k) = Err k
plan_verdict (emit p) = Ok tt

-- the plan was followed: the number r, the destination d before and d' afterwards, and the length n
pub record Wrote (plan : Plan) (d : List ℕ) (r : ℕ) (d' : List ℕ) (n : ℕ) : Type 0 where
  pub number : r ≡ number_in (answer plan)
  pub dst : d' ≡ after plan d
  pub long : n ≡ length_in (answer plan)

abbrev pub range_first : Bool → Plan → Plan
range_first right plan = cond right plan (refuse Range)

abbrev pub fit_key : List ℕ → List ℕ → Bool
fit_key key nonce = (eqb (length key) 16 && eqb (length nonce) 13)

abbrev pub sealing : List ℕ → List ℕ → List ℕ → List ℕ → ℕ → Plan
sealing key nonce a m room = range_first (fit_key key nonce) (seal_plan key nonce a m room)

abbrev pub unsealing : List ℕ → List ℕ → List ℕ → List ℕ → ℕ → Plan
unsealing key nonce a c room = range_first (fit_key key nonce) (unseal_plan key nonce a c room)
