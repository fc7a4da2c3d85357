-- A day of a proxy, played: the laws are not about nothing.
use Rattle.std.specs.Prelude.{List, [], ◌∷◌, ◌++◌, ◌≡◌, ℕ, take, replicate, Some}
use Rattle.refusal.specs.declared.Refusal.TheVariants.{Stale}
use Rattle.join_proxy.specs.declared.judging.JudgeResult.{JudgeResult}
use Rattle.join_proxy.specs.Body.{number_of}
use Rattle.join_proxy.specs.Judging.{judge_body, forward_to, refused_with}
use Rattle.join_proxy.specs.History.{ProxyCall, setting, issuing, judging, Sent, History, sent_at, called, answered, after}
use Rattle.join_proxy.specs.Laws.{pledge_for}

abbrev pub key : ℕ → List ℕ
key n = replicate 16 n

abbrev pub pledge : List ℕ
pledge = 0x02 ∷ 0x11 ∷ 0x22 ∷ 0x33 ∷ 0x44 ∷ 0x55 ∷ 0x66 ∷ 0x77 ∷ []

-- a body is asked for, with a token of so many bytes, into so much room
abbrev pub asks : ℕ → ℕ → ProxyCall
asks n room = issuing pledge 5683 (replicate n 0xca) room

-- a token too long, no room, number 0, the key in use, a body of no bytes, number 1
abbrev pub first_run : List ProxyCall
first_run = asks 9 31 ∷ asks 2 30 ∷ asks 2 31 ∷ setting (key 1) ∷ judging [] ∷ asks 0 40 ∷ []

-- another key, and number 0 again
abbrev pub second_run : List ProxyCall
second_run = setting (key 2) ∷ asks 8 31 ∷ []

-- the numbers that the calls answer
abbrev pub answers : List ProxyCall → History → List ℕ
answers [] h = []
answers (c ∷ cs) h = answered c h ∷ answers cs (called c h)

-- the numbers that were sealed
abbrev pub numbers : List Sent → List ℕ
numbers [] = []
numbers (s ∷ ss) = number_of (take 4 s.body) ∷ numbers ss

-- so many are issued, and the body at a place among them is judged
abbrev pub judged : ℕ → ℕ → JudgeResult
judged n i =
    let h = after (key 1) (replicate n (asks 2 31)) in
    judge_body h.proxy (sent_at h.sent i).body

-- one number is left
abbrev pub late : History
late = record { proxy = record { key = key 1; next = Some 4294967295 }; key = key 1; sent = [] }

pub record ProxyExample : Type 0 where
  pub said : answers (first_run ++ second_run) (after (key 1) []) ≡ 13 ∷ 12 ∷ 0 ∷ 13 ∷ 5 ∷ 0 ∷ 0 ∷ 0 ∷ []
  pub sealed-first : numbers (after (key 1) first_run).sent ≡ 0 ∷ 1 ∷ []
  pub sealed-then : numbers (after (key 1) (first_run ++ second_run)).sent ≡ 0 ∷ []
  pub of-64 : judged 64 0 ≡ forward_to (pledge_for pledge 5683 (0xca ∷ 0xca ∷ []))
  pub of-65 : judged 65 0 ≡ refused_with Stale
  pub of-65-next : judged 65 1 ≡ forward_to (pledge_for pledge 5683 (0xca ∷ 0xca ∷ []))
  -- the last number, SPENT before ROOM and after RANGE, and number 0 with another key
  pub at-the-end : answers (asks 2 31 ∷ asks 2 31 ∷ asks 2 30 ∷ asks 9 30 ∷ setting (key 1) ∷ setting (key 2) ∷ asks 2 31 ∷ []) late
      ≡ 0 ∷ 21 ∷ 21 ∷ 13 ∷ 13 ∷ 0 ∷ 0 ∷ []
