-- The calls of a ledger from C: the ledger stands in its image, the places in lent memory.
use Rattle.std.specs.Prelude.{ℕ, Bool, true, cond, ◌&&◌, List, [], ◌≡◌, eqb, length, Option, Some, None}
use Rattle.refusal.specs.Verdict.{verdict_number}
use Rattle.refusal.specs.Verdict.{Verdict}
use Rattle.image.specs.Part.{is_image}
use Rattle.address_ledger.specs.Ledger.{opened}
use Rattle.address_ledger_laws.specs.Demand1.{LedgerCall, opening, asking, returning, counting, Performed, perform}
use Rattle.address_ledger.specs.declared.ledger.Ledger.{Ledger}
use Rattle.state_image.specs.Ledger.{ledger_image}
use Rattle.image.specs.Effects.{on_accept, checked_first, result_bytes}

-- ---- opening hands back an image
abbrev pub open_verdict : ℕ → ℕ → List ℕ → List ℕ → Verdict
open_verdict first size memory s = checked_first (eqb (length s) 16) (opened first size memory).verdict

-- the number r was answered, and the struct s holds s' afterwards
pub record Opens (first size : ℕ) (memory s : List ℕ) (r : ℕ) (s' : List ℕ) : Type 0 where
  pub number : r ≡ verdict_number (open_verdict first size memory s)
  pub ledger : s' ≡ result_bytes 16 (open_verdict first size memory s) (ledger_image.put (opened first size memory).ledger) s

-- ---- the other calls go by the ledger in the image
-- a board has eight bytes
abbrev pub board_fits : LedgerCall → Bool
board_fits (opening first size) = true
board_fits (asking b) = eqb (length b) 8
board_fits (returning b) = eqb (length b) 8
board_fits counting = true

abbrev pub performed_in : LedgerCall → List ℕ → List ℕ → Performed
performed_in c s m = perform c (ledger_image.get s) m

abbrev pub ledger_verdict : LedgerCall → List ℕ → List ℕ → Verdict
ledger_verdict c s m = checked_first (board_fits c && is_image ledger_image s) (performed_in c s m).verdict

-- the ledger in the image and the board, where both are what they should be
abbrev pub lent : List ℕ → List ℕ → Option (Ledger × List ℕ)
lent s b = cond (eqb (length b) 8 && is_image ledger_image s) (Some (ledger_image.get s, b)) None

-- the call on image s and memory m answered the number r and the value v, and left s' and m'
pub record LedgerDid (c : LedgerCall) (s m : List ℕ) (r : ℕ) (s' m' : List ℕ) (v : ℕ) : Type 0 where
  pub number : r ≡ verdict_number (ledger_verdict c s m)
  pub ledger : s' ≡ on_accept (ledger_verdict c s m) s (ledger_image.put (performed_in c s m).ledger)
  pub memory : m' ≡ on_accept (ledger_verdict c s m) m (performed_in c s m).memory
  pub value : v ≡ on_accept (ledger_verdict c s m) 0 (performed_in c s m).value

-- the question how many are free changes nothing: the number r, and the count v
pub record Counts (s : List ℕ) (r v : ℕ) : Type 0 where
  pub number : r ≡ verdict_number (ledger_verdict counting s [])
  pub value : v ≡ on_accept (ledger_verdict counting s []) 0 (performed_in counting s []).value
