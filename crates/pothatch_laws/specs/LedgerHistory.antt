-- Request 1's laws for a program in C: over every list of calls on structs of one range, whatever free counts and summaries the program
-- finds or puts in them, and on one memory, which only these calls write. Who holds which address is told from the calls and their answers.
use Rattle.std.specs.Prelude.{ℕ, ◌+◌, ◌*◌, ◌<◌, true, cond, ◌≡◌, eqb, length, get_or, replicate, Ok}
use mathlib.Core.List.{List, [], ◌∷◌, ◌++◌, Memᴰ}
use Rattle.image.specs.Part.{is_image}
use Rattle.address_slots.specs.Slot.{slots, count_free}
use Rattle.address_ledger.specs.range.Range.{judged, counted}
use Rattle.address_ledger_laws.specs.Demand1.{LedgerCall, asking, returning}
use Rattle.address_ledger_laws.specs.History.{Holding, listed, address_of, after_ask, after_give}
use Rattle.state_image.specs.Ledger.{ledger_image}
use Rattle.ledger_calls.specs.Ledger.{LedgerDid}

-- a struct that holds a ledger of the range, with any count and any summary
pub record OfRange (first size : ℕ) (s : List ℕ) : Type 0 where
  pub image : is_image ledger_image s ≡ true
  pub starts : (ledger_image.get s).first ≡ first
  pub sized : (ledger_image.get s).size ≡ size

-- a board asks for an address, or gives its own back
pub data BoardCall : Type 0 where
  asks gives : List ℕ → BoardCall

abbrev pub call_of : BoardCall → LedgerCall
call_of (asks b) = asking b
call_of (gives b) = returning b

-- the holdings after a call that answered the number r and the value v: a refusal changes none
abbrev pub held_after : BoardCall → ℕ → ℕ → List Holding → List Holding
held_after (asks b) r v hs = cond (eqb r 0) (after_ask b (Ok v) hs) hs
held_after (gives b) r v hs = cond (eqb r 0) (after_give b (Ok v) hs) hs

-- the calls were made one after the other, each on a struct of the range and on the memory that the call before left: the memory m and the
-- holdings hs before them, z and ks afterwards
pub data Shift (first size : ℕ) : List BoardCall → List ℕ → List Holding → List ℕ → List Holding → Type 0 where
  over : {m : List ℕ} {hs : List Holding} → Shift first size [] m hs m hs
  then : {c : BoardCall} {cs : List BoardCall} {s s' m m' z : List ℕ} {r v : ℕ} {hs ks : List Holding}
      → OfRange first size s → LedgerDid (call_of c) s m r s' m' v → Shift first size cs m' (held_after c r v hs) z ks
      → Shift first size (c ∷ cs) m hs z ks

-- memory without a mark 1 that has room for the range
pub record FreshMemory (first size : ℕ) (m : List ℕ) : Type 0 where
  pub accepted : Ok tt ≡ judged first size (length m)
  pub fresh : (k : ℕ) → k < counted first size → get_or m (9 * k) 0 ≡ 1 → ⊥

-- what holds after a shift that left the memory m and the holdings hs
pub record AfterShift (first size : ℕ) (m : List ℕ) (hs : List Holding) : Type 0 where
  -- held plus free is the size of the range
  pub all : length hs + count_free (slots (counted first size) m) ≡ counted first size
  -- no two boards hold one address
  pub one : (g h : Holding) → Memᴰ g hs → Memᴰ h hs → g.address ≡ h.address → g.board ≡ h.board
  -- a board that holds an address gets the same again, and nothing is written
  pub same : (b s : List ℕ) (r : ℕ) (s' m' : List ℕ) (v : ℕ) → length b ≡ 8 → listed b hs ≡ true → OfRange first size s
      → LedgerDid (asking b) s m r s' m' v
      → (r ≡ 0) × (v ≡ address_of b hs) × (m' ≡ m)

unfoldable pub LedgerHistories : Type 0
LedgerHistories =
    (first size : ℕ) (m : List ℕ) (cs : List BoardCall) (z : List ℕ) (ks : List Holding) → FreshMemory first size m
    → Shift first size cs m [] z ks → AfterShift first size z ks

-- ---- two boards on two addresses, computed: the first finds a struct with a wrong count; the second one with nothing marked, and is
-- refused although an address is free; with a right summary it is granted
abbrev pub first_board : List ℕ
first_board = replicate 8 10

abbrev pub second_board : List ℕ
second_board = replicate 8 11

pub record LedgerHistoryExample : Type 0 where
  pub fresh : FreshMemory 0x1000 2 (replicate 18 0)
  pub shift :
      Shift 0x1000 2 (asks first_board ∷ asks second_board ∷ asks second_board ∷ []) (replicate 18 0) []
      ((1 ∷ first_board) ++ (1 ∷ second_board))
      (record { board = first_board; address = 0x1000 } ∷ record { board = second_board; address = 0x1001 } ∷ [])
