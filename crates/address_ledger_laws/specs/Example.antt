-- A shift on three addresses, played: the laws are not about nothing.
-- The memory was not zero before, and a byte stands after the last place.
use Rattle.refusal.specs.declared.Refusal.{Refusal}
use Rattle.std.specs.Prelude.{ℕ, ◌≡◌, List, [], ◌∷◌, ◌++◌, replicate, Result, Ok, Err}
use Rattle.refusal.specs.declared.Refusal.TheVariants.{Full, Unknown}
use Rattle.address_slots.specs.Slot.{slots, count_free}
use Rattle.address_ledger.specs.Ledger.{ledger_of, opened, granted, given_back, free_count}
use Rattle.address_ledger_laws.specs.History.{Call, opens, asks, gives, counts, hands, Moment, after, Begins}

abbrev pub board : ℕ → List ℕ
board n = replicate 8 n

abbrev pub lent : List ℕ
lent = replicate 28 7

-- three boards hold all there is
abbrev pub fill : List Call
fill = asks (board 10) ∷ asks (board 11) ∷ asks (board 10) ∷ asks (board 12) ∷ []

-- a fourth is refused; the second gives back, and once more, which is refused; then the fourth gets its address
abbrev pub refill : List Call
refill = asks (board 13) ∷ gives (board 11) ∷ opens ∷ gives (board 11) ∷ counts ∷ asks (board 13) ∷ []

abbrev pub asked : List Call → ℕ → Result ℕ Refusal
asked cs n = (granted (after 0x1000 3 lent cs).ledger (after 0x1000 3 lent cs).memory (board n)).answer

abbrev pub back : List Call → ℕ → Result ℕ Refusal
back cs n = (given_back (after 0x1000 3 lent cs).ledger (after 0x1000 3 lent cs).memory (board n)).answer

abbrev pub final : Moment
final = after 0x1000 3 lent (fill ++ refill)

-- ---- a history on two groups whose calls are handed wrong counts and wrong summaries: the first board is led past a free group; the
-- second by a summary that hides nothing; then nothing is marked, the first gets the same again, a third is refused although 64 addresses
-- are free, and the second gives back its own; at the end the count is wrong and nothing is marked
abbrev pub wide : List ℕ
wide = replicate 594 7

abbrev pub misled : List Call
misled =
    hands 9 2 ∷ asks (board 10) ∷ hands 0 3 ∷ asks (board 11) ∷ hands 70 0 ∷ asks (board 10) ∷ asks (board 12) ∷ gives (board 11)
    ∷ hands 4 0 ∷ []

abbrev pub misled_end : Moment
misled_end = after 0x1000 66 wide misled

pub record LedgerExample : Type 0 where
  pub begins : Begins 0x1000 3 lent (fill ++ refill)
  pub repeated : asked fill 10 ≡ Ok 0x1000
  pub full : asked fill 13 ≡ Err Full
  pub given : back fill 11 ≡ Ok 0x1001
  pub unknown : back (fill ++ (gives (board 11) ∷ [])) 11 ≡ Err Unknown
  pub again : asked (fill ++ (gives (board 11) ∷ [])) 13 ≡ Ok 0x1001
  pub holding :
      final.holding
      ≡ record { board = board 10; address = 0x1000 } ∷ record { board = board 13; address = 0x1001 }
      ∷ record { board = board 12; address = 0x1002 } ∷ []
  pub memory : final.memory ≡ (1 ∷ board 10) ++ ((1 ∷ board 13) ++ ((1 ∷ board 12) ++ (7 ∷ [])))
  pub left : free_count final.ledger ≡ Ok 0
  -- the one group is marked while an address is free; without its mark none is found
  pub marked : (opened 0x1000 3 lent).ledger.summary ≡ 1
  pub unmarked : (after 0x1000 3 lent fill).ledger.summary ≡ 0
  pub hidden : (granted (ledger_of 0x1000 3 3 0) lent (board 10)).answer ≡ Err Full
  -- of two groups, both free, the second alone marked: its first address is granted
  pub elsewhere : (granted (ledger_of 0x1000 66 66 2) (replicate 594 7) (board 10)).answer ≡ Ok 0x1040
  -- wrong counts and wrong summaries
  pub misled-begins : Begins 0x1000 66 wide misled
  pub misled-holding : misled_end.holding ≡ record { board = board 10; address = 0x1040 } ∷ []
  pub misled-free : count_free (slots 66 misled_end.memory) ≡ 65
  pub misled-count : free_count misled_end.ledger ≡ Ok 4
  pub misled-same : (granted misled_end.ledger misled_end.memory (board 10)).answer ≡ Ok 0x1040
  pub misled-full : (granted misled_end.ledger misled_end.memory (board 11)).answer ≡ Err Full
