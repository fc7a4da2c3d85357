-- What sealing and opening are to do, and what it is to have done it. The order is RANGE, ROOM, SEAL (document 02, request 6).
use Rattle.std.specs.Prelude.{Bool, cond, List, ◌++◌, ◌≡◌, ℕ, ◌+◌, ◌-◌, ltb, length, drop, Result, Ok, Err}
use Rattle.refusal.specs.Refusal.{number_of}
use Rattle.refusal.specs.declared.Refusal.{Refusal}
use Rattle.refusal.specs.declared.Refusal.TheVariants.{Room, Range, Seal}
use Rattle.aes_ccm.specs.Ccm.{sealed, text_of, genuine}

-- a refusal, or the bytes to write
pub data Plan : Type 0 where
  refuse : Refusal → Plan
  emit : List ℕ → Plan

abbrev pub answer : Plan → Result ℕ Refusal
answer (refuse k) = Err k
answer (emit p) = Ok (length p)

-- the destination's contents afterwards: a refusal changes no byte, a success only the first bytes
abbrev pub after : Plan → List ℕ → List ℕ
after (refuse k) d = d
after (emit p) d = p ++ drop (length p) d

-- the plan was followed: the answer r, and the destination d before and d' afterwards
pub record Did (plan : Plan) (d : List ℕ) (r : Result ℕ Refusal) (d' : List ℕ) : Type 0 where
  pub says : r ≡ answer plan
  pub holds : d' ≡ after plan d

-- the number of an answer, 0 for an accepted call, and how many bytes were written
abbrev pub number_in : Result ℕ Refusal → ℕ
number_in (Err k) = number_of k
number_in (Ok n) = 0

abbrev pub length_in : Result ℕ Refusal → ℕ
length_in (Err k) = 0
length_in (Ok n) = n

-- the text m with the data a, into a destination of `room` bytes
unfoldable pub seal_plan : List ℕ → List ℕ → List ℕ → List ℕ → ℕ → Plan
seal_plan key nonce a m room =
    cond (ltb 64 (length a)) (refuse Range)
    (cond (ltb 256 (length m)) (refuse Range)
    (cond (ltb room (length m + 8)) (refuse Room)
    (emit (sealed key nonce a m))))

-- the text where its tag is right
unfoldable pub release_plan : Bool → List ℕ → Plan
release_plan right m = cond right (emit m) (refuse Seal)

-- the sealed input c with the data a, into a destination of `room` bytes
unfoldable pub unseal_plan : List ℕ → List ℕ → List ℕ → List ℕ → ℕ → Plan
unseal_plan key nonce a c room =
    cond (ltb 64 (length a)) (refuse Range)
    (cond (ltb (length c) 8) (refuse Range)
    (cond (ltb 264 (length c)) (refuse Range)
    (cond (ltb room (length c - 8)) (refuse Room)
    (release_plan (genuine key nonce a c) (text_of key nonce c)))))
