-- Histories: lists of calls on one range and one lent memory, which nothing else writes; and who holds which address, told from the calls
-- and their answers alone. The free count and the summary (02 requests 8 and 13) are values beside the memory: between two calls the caller
-- may put any others in their place, so a history may hand every call a count and a summary of its own, right or wrong.
use Rattle.refusal.specs.declared.Refusal.{Refusal}
use Rattle.std.specs.Prelude.{ℕ, ◌*◌, ◌<◌, ◌≡◌, Bool, true, false, cond, ◌&&◌, ◌||◌, List, [], ◌∷◌, eqb, ltb, length, get_or, Result, Ok, Err}
use Rattle.address_slots.specs.Slot.{same}
use Rattle.address_ledger.specs.range.Range.{judged, counted}
use Rattle.address_ledger.specs.Ledger.{ledger_of, opened, granted, given_back}
use Rattle.address_ledger.specs.declared.ledger.Ledger.{Ledger}

-- the ledger is opened again, a board asks for an address or gives its own back, or somebody asks how many are free; and, no call of the
-- ledger, what the next calls are handed beside range and memory is replaced: a free count and a summary
pub data Call : Type 0 where
  opens : Call
  asks : List ℕ → Call
  gives : List ℕ → Call
  counts : Call
  hands : ℕ → ℕ → Call

-- ---- who holds what, by the history: a board that was granted an address and has not given it back since,
-- and the address that it was answered
pub record Holding : Type 0 where
  pub board : List ℕ
  pub address : ℕ

unfoldable pub listed : List ℕ → List Holding → Bool
listed b [] = false
listed b (h ∷ hs) = (same 8 h.board b || listed b hs)

-- the address that the board was answered
unfoldable pub address_of : List ℕ → List Holding → ℕ
address_of b [] = 0
address_of b (h ∷ hs) = cond (same 8 h.board b) h.address (address_of b hs)

-- whether a board holds the address
unfoldable pub taken : ℕ → List Holding → Bool
taken a [] = false
taken a (h ∷ hs) = (eqb h.address a || taken a hs)

-- a new holding goes in by its address, the lowest first
unfoldable pub enter : Holding → List Holding → List Holding
enter g [] = g ∷ []
enter g (h ∷ hs) = cond (ltb g.address h.address) (g ∷ h ∷ hs) (h ∷ enter g hs)

unfoldable pub strike : List ℕ → List Holding → List Holding
strike b [] = []
strike b (h ∷ hs) = cond (same 8 h.board b) hs (h ∷ strike b hs)

-- an address answered to a board that holds none is a new holding; a refusal changes nothing
unfoldable pub after_ask : List ℕ → Result ℕ Refusal → List Holding → List Holding
after_ask b (Ok a) hs = cond (listed b hs) hs (enter (record { board = b; address = a }) hs)
after_ask b (Err r) hs = hs

unfoldable pub after_give : List ℕ → Result ℕ Refusal → List Holding → List Holding
after_give b (Ok a) hs = strike b hs
after_give b (Err r) hs = hs

-- ---- a history is played
pub record Moment : Type 0 where
  pub ledger : Ledger
  pub memory : List ℕ
  pub holding : List Holding

unfoldable pub step : ℕ → ℕ → Moment → Call → Moment
step first size s opens = record { ledger = (opened first size s.memory).ledger; memory = s.memory; holding = s.holding }
step first size s (asks b) =
    let o = granted s.ledger s.memory b in
    record { ledger = o.ledger; memory = o.memory; holding = after_ask b o.answer s.holding }
step first size s (gives b) =
    let o = given_back s.ledger s.memory b in
    record { ledger = o.ledger; memory = o.memory; holding = after_give b o.answer s.holding }
step first size s counts = s
step first size s (hands free summary) =
    record { ledger = ledger_of first size free summary; memory = s.memory; holding = s.holding }

unfoldable pub run : ℕ → ℕ → Moment → List Call → Moment
run first size s [] = s
run first size s (c ∷ cs) = run first size (step first size s c) cs

-- the moment after a history that begins with opening the ledger over memory m
unfoldable pub after : ℕ → ℕ → List ℕ → List Call → Moment
after first size m cs = run first size (record { ledger = (opened first size m).ledger; memory = m; holding = [] }) cs

-- whether every board of a history has an identifier of 8 bytes
unfoldable pub whole_boards : List Call → Bool
whole_boards [] = true
whole_boards (opens ∷ cs) = whole_boards cs
whole_boards (asks b ∷ cs) = (eqb (length b) 8 && whole_boards cs)
whole_boards (gives b ∷ cs) = (eqb (length b) 8 && whole_boards cs)
whole_boards (counts ∷ cs) = whole_boards cs
whole_boards (hands free summary ∷ cs) = whole_boards cs

-- whether every call of a history is handed the ledger that the call before it left
unfoldable pub threaded : List Call → Bool
threaded [] = true
threaded (opens ∷ cs) = threaded cs
threaded (asks b ∷ cs) = threaded cs
threaded (gives b ∷ cs) = threaded cs
threaded (counts ∷ cs) = threaded cs
threaded (hands free summary ∷ cs) = false

-- a fresh ledger, which is one with no mark 1, and a history of boards with 8-byte identifiers
pub record Begins (first size : ℕ) (m : List ℕ) (cs : List Call) : Type 0 where
  pub accepted : Ok tt ≡ judged first size (length m)
  pub fresh : (k : ℕ) → k < counted first size → get_or m (9 * k) 0 ≡ 1 → ⊥
  pub boards : whole_boards cs ≡ true
