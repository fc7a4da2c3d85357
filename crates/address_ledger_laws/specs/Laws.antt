-- What holds after every history from a fresh ledger on, whatever free counts and summaries its calls are handed.
-- A part of a history from its start is a history, so each law holds at every moment of a shift; and a history may end with any count and
-- any summary, so what is said of the next call holds with any of them. (`FreedAgain`: giving back may be handed any; the grant after it
-- is handed what it left.)
use Rattle.std.specs.Prelude.{ℕ, ◌+◌, ◌-◌, ◌*◌, ◌≤◌, ◌<◌, ◌≡◌, true, false, length, get_or, take, drop, Ok, Err}
use mathlib.Core.List.{List, Memᴰ}
use Rattle.refusal.specs.declared.Refusal.{Refusal}
use Rattle.refusal.specs.declared.Refusal.TheVariants.{Unknown}
use Rattle.address_slots.specs.Slot.{slots, count_free}
use Rattle.address_ledger.specs.range.Range.{counted}
use Rattle.address_ledger.specs.Ledger.{outcome, granted, given_back, free_count}
use Rattle.address_ledger_laws.specs.History.{Call, gives, Holding, listed, taken, address_of, Moment, step, after, threaded, Begins}

-- ---- held plus free is the size of the range: held counted from the history, free from the memory; and the ledger answers how many are
-- free if its count is right, which it is where every call is handed the ledger that the call before left
pub record HeldAndFree : Type 0 where
  pub all : (first size : ℕ) (m : List ℕ) (cs : List Call) → Begins first size m cs
      → length (after first size m cs).holding + count_free (slots (counted first size) (after first size m cs).memory)
      ≡ counted first size
  pub answered : (first size : ℕ) (m : List ℕ) (cs : List Call) → Begins first size m cs
      → (after first size m cs).ledger.free ≡ count_free (slots (counted first size) (after first size m cs).memory)
      → free_count (after first size m cs).ledger
      ≡ Ok (count_free (slots (counted first size) (after first size m cs).memory))
  pub right : (first size : ℕ) (m : List ℕ) (cs : List Call) → Begins first size m cs → threaded cs ≡ true
      → (after first size m cs).ledger.free ≡ count_free (slots (counted first size) (after first size m cs).memory)

-- ---- no two boards hold one address, and at its place stand mark 1 and the board
pub record Stands (first n : ℕ) (m : List ℕ) (h : Holding) : Type 0 where
  pub above : first ≤ h.address
  pub below : h.address < first + n
  pub mark : get_or m (9 * (h.address - first)) 0 ≡ 1
  pub board : take 8 (drop (9 * (h.address - first) + 1) m) ≡ h.board

pub record OneHolder : Type 0 where
  pub one : (first size : ℕ) (m : List ℕ) (cs : List Call) → Begins first size m cs
      → (g h : Holding) → Memᴰ g (after first size m cs).holding → Memᴰ h (after first size m cs).holding
      → g.address ≡ h.address → g.board ≡ h.board
  pub stands : (first size : ℕ) (m : List ℕ) (cs : List Call) → Begins first size m cs
      → (h : Holding) → Memᴰ h (after first size m cs).holding → Stands first (counted first size) (after first size m cs).memory h

-- ---- a board that holds an address gets the same again, and nothing is written
unfoldable pub SameAgain : Type 0
SameAgain =
    (first size : ℕ) (m : List ℕ) (cs : List Call) → Begins first size m cs
    → (b : List ℕ) → listed b (after first size m cs).holding ≡ true
    → granted (after first size m cs).ledger (after first size m cs).memory b
    ≡ outcome (Ok (address_of b (after first size m cs).holding)) (after first size m cs).ledger (after first size m cs).memory

-- ---- a board that holds an address gives back that one; any other is UNKNOWN
pub record GivesBack : Type 0 where
  pub own : (first size : ℕ) (m : List ℕ) (cs : List Call) → Begins first size m cs
      → (b : List ℕ) → listed b (after first size m cs).holding ≡ true
      → (given_back (after first size m cs).ledger (after first size m cs).memory b).answer
      ≡ Ok (address_of b (after first size m cs).holding)
  pub unknown : (first size : ℕ) (m : List ℕ) (cs : List Call) → Begins first size m cs
      → (b : List ℕ) → listed b (after first size m cs).holding ≡ false
      → given_back (after first size m cs).ledger (after first size m cs).memory b
      ≡ outcome (Err Unknown) (after first size m cs).ledger (after first size m cs).memory

-- ---- a freed address is granted again: right after a board gave back address a, a board that holds none, asking with the ledger that the
-- giving back left, is granted one, and a itself where every lower address of the range is held
pub record FreedAgain : Type 0 where
  pub some : (first size : ℕ) (m : List ℕ) (cs : List Call) → Begins first size m cs → (b c : List ℕ) (a : ℕ)
      → (given_back (after first size m cs).ledger (after first size m cs).memory b).answer ≡ Ok a
      → (s : Moment) → s ≡ step first size (after first size m cs) (gives b) → listed c s.holding ≡ false
      → (r : Refusal) → (granted s.ledger s.memory c).answer ≡ Err r → ⊥
  pub again : (first size : ℕ) (m : List ℕ) (cs : List Call) → Begins first size m cs → (b c : List ℕ) (a : ℕ)
      → (given_back (after first size m cs).ledger (after first size m cs).memory b).answer ≡ Ok a
      → (s : Moment) → s ≡ step first size (after first size m cs) (gives b) → listed c s.holding ≡ false
      → ((x : ℕ) → first ≤ x → x < a → taken x s.holding ≡ true)
      → (granted s.ledger s.memory c).answer ≡ Ok a
