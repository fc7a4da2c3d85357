-- What a verdict says in the documents' numbers.
use Rattle.refusal.specs.declared.Refusal.{Refusal}
use Rattle.std.specs.Prelude.{ℕ, Bool, true, false, Ok, Err, Result}
use Rattle.refusal.specs.Refusal.{number_of}

-- what a call that hands back an object beside it answers
abbrev pub Verdict : Type 0
Verdict = Result (Unit {0}) Refusal

-- the refusal's number, 0 where there is none
abbrev pub verdict_number : Verdict → ℕ
verdict_number (Ok tt) = 0
verdict_number (Err k) = number_of k

-- it is no refusal
abbrev pub is_accepted : Verdict → Bool
is_accepted (Ok tt) = true
is_accepted (Err k) = false

-- an answer without its value
abbrev pub verdict_of : {A : Type 0} → Result A Refusal → Verdict
verdict_of (Ok x) = Ok tt
verdict_of (Err k) = Err k
