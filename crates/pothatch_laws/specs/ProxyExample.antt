-- A join proxy from C, played: the law over lists of its calls is not about nothing, and these are the numbers that C sees.
use Rattle.std.specs.Prelude.{ℕ, List, [], ◌∷◌, ◌++◌, ◌≡◌, take, replicate}
use Rattle.join_proxy.specs.Example.{key, pledge}
use Rattle.pothatch_laws.specs.Proxy.{OwnCall, setting, issuing, judging, Call, making, calling, ProxyOutput, Did}
use Rattle.pothatch_laws.specs.Runs.{Runs}

-- a body is asked for, into so much room
abbrev pub asks : List ℕ → ℕ → OwnCall
asks interface room = issuing interface 5683 (0xCA ∷ 0xFE ∷ []) (replicate room 0)

-- a key of fifteen bytes, so there is no proxy to judge a body; then two bodies, too little room, an interface identifier of seven bytes,
-- the key in use, a body of no bytes
abbrev pub calls : List Call
calls =
    making (replicate 15 1)
    ∷ calling (judging [])
    ∷ making (key 1)
    ∷ calling (asks pledge 31)
    ∷ calling (asks pledge 31)
    ∷ calling (asks pledge 30)
    ∷ calling (asks (take 7 pledge) 31)
    ∷ calling (setting (key 1))
    ∷ calling (judging [])
    ∷ []

-- the number of a call, and the first bytes of what it was lent: of a body, the number that was sealed
abbrev pub firsts : List ProxyOutput → List (ℕ × List ℕ)
firsts [] = []
firsts (t ∷ ts) = (t.number, take 4 t.lent) ∷ firsts ts

abbrev pub zeros : List ℕ
zeros = 0 ∷ 0 ∷ 0 ∷ 0 ∷ []

abbrev pub ones : List ℕ
ones = 1 ∷ 1 ∷ 1 ∷ 1 ∷ []

-- RANGE, RANGE; two bodies with the numbers 0 and 1; ROOM, RANGE, RANGE and TYPE
abbrev pub answered : List (ℕ × List ℕ)
answered =
    (13, ones)
    ∷ (13, [])
    ∷ (0, ones)
    ∷ (0, zeros)
    ∷ (0, 0 ∷ 0 ∷ 0 ∷ 1 ∷ [])
    ∷ (12, zeros)
    ∷ (13, zeros)
    ∷ (13, ones)
    ∷ (5, [])
    ∷ []

-- the key, and two numbers issued
abbrev pub kept : List ℕ
kept = 0x50 ∷ 1 ∷ (key 1 ++ (replicate 7 0 ++ (2 ∷ [])))

pub record ProxyExample : Type 0 where
  pub told : List ProxyOutput
  pub runs : Runs Did calls (replicate 26 0) told kept
  pub said : firsts told ≡ answered
