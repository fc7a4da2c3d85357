-- What the answers that are no structs say: each case's verdict, and its value.
use Rattle.refusal.specs.declared.Refusal.{Refusal}
use Rattle.std.specs.Prelude.{ℕ, Result, Ok, Err}
use Rattle.refusal.specs.Verdict.{Verdict}

-- an address or a count, and 0 beside a refusal
abbrev pub address_verdict : Result ℕ Refusal → Verdict
address_verdict (Ok a) = Ok tt
address_verdict (Err r) = Err r

abbrev pub address_value : Result ℕ Refusal → ℕ
address_value (Ok a) = a
address_value (Err r) = 0

abbrev pub free_verdict : Result ℕ Refusal → Verdict
free_verdict (Ok n) = Ok tt
free_verdict (Err r) = Err r

abbrev pub free_value : Result ℕ Refusal → ℕ
free_value (Ok n) = n
free_value (Err r) = 0
