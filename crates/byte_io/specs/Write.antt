-- What a writer is asked to do, and what it has done with its destination (document 01: "a refusal changes no byte").
use Rattle.std.specs.Prelude.{ℕ, cond, List, ◌++◌, ◌≡◌, length, drop, leb, Result, Ok, Err}
use Rattle.refusal.specs.Refusal.{number_of}
use Rattle.refusal.specs.declared.Refusal.{Refusal}
use Rattle.refusal.specs.declared.Refusal.TheVariants.{Room}

-- what is asked of a writer: a refusal whatever the room, or these bytes if they have room
pub data Plan : Type 0 where
  refuse : Refusal → Plan
  emit : List ℕ → Plan

-- the answer, d being what the destination holds: ROOM where it is too short, else the length
abbrev pub answer : Plan → List ℕ → Result ℕ Refusal
answer (refuse k) d = Err k
answer (emit p) d = cond (leb (length p) (length d)) (Ok (length p)) (Err Room)

-- the destination's contents afterwards: a refusal changes no byte, a success only the first bytes
abbrev pub after : Plan → List ℕ → List ℕ
after (refuse k) d = d
after (emit p) d = cond (leb (length p) (length d)) (p ++ drop (length p) d) d

-- a public writer: its answer r, and the destination d before and d' afterwards
pub record Did (plan : Plan) (d : List ℕ) (r : Result ℕ Refusal) (d' : List ℕ) : Type 0 where
  pub says : r ≡ answer plan d
  pub holds : d' ≡ after plan d

-- a writer that has room: the bytes p, n of them, in front of what d held after them
pub record Wrote (p d : List ℕ) (n : ℕ) (d' : List ℕ) : Type 0 where
  pub many : n ≡ length p
  pub holds : d' ≡ p ++ drop (length p) d

-- the answer in the documents' numbers: the refusal's and no length; or 0, and how many bytes were written
abbrev pub written_says : Result ℕ Refusal → ℕ × ℕ
written_says (Err k) = (number_of k, 0)
written_says (Ok n) = (0, n)
