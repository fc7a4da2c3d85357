-- On lent memory with any contents, whoever wrote them, the lowest matching place counts, with marks that are right for those contents:
-- said of the bytes, place k being the nine from byte 9k on.
use Rattle.std.specs.Prelude.{ℕ, ◌+◌, ◌*◌, ◌<◌, ◌≡◌, List, length, get_or, take, drop, Ok, Err}
use Rattle.refusal.specs.declared.Refusal.TheVariants.{Full, Unknown}
use Rattle.address_slots.specs.Slot.{hold, freed}
use Rattle.address_ledger.specs.range.Range.{judged, counted}
use Rattle.address_ledger.specs.Ledger.{outcome, fewer, more, granted, given_back}
use Rattle.address_ledger.specs.declared.ledger.Ledger.{Ledger}
use Rattle.address_ledger_laws.specs.Marked.{RightMarks}

-- at place k stand mark 1 and the board
pub record HeldAt (m : List ℕ) (b : List ℕ) (k : ℕ) : Type 0 where
  pub mark : get_or m (9 * k) 0 ≡ 1
  pub board : take 8 (drop (9 * k + 1) m) ≡ b

abbrev pub FreeAt : List ℕ → ℕ → Type 0
FreeAt m k = get_or m (9 * k) 0 ≡ 1 → ⊥

-- the lowest place below n with the property
pub record LowestAt (P : ℕ → Type 0) (n k : ℕ) : Type 0 where
  pub within : k < n
  pub here : P k
  pub lower : (j : ℕ) → j < k → P j → ⊥

abbrev pub NoneAt : (ℕ → Type 0) → ℕ → Type 0
NoneAt P n = (k : ℕ) → k < n → P k → ⊥

pub record LowestMatches (l : Ledger) (m b : List ℕ) (n : ℕ) : Type 0 where
  pub same-again : (k : ℕ) → LowestAt (HeldAt m b) n k → granted l m b ≡ outcome (Ok (l.first + k)) l m
  pub lowest-free : RightMarks l m → NoneAt (HeldAt m b) n → (k : ℕ) → LowestAt (FreeAt m) n k
      → granted l m b ≡ outcome (Ok (l.first + k)) (fewer n k (hold m k b) l) (hold m k b)
  pub full : RightMarks l m → NoneAt (HeldAt m b) n → NoneAt (FreeAt m) n → granted l m b ≡ outcome (Err Full) l m
  pub given_back_lem : (k : ℕ) → LowestAt (HeldAt m b) n k
      → given_back l m b ≡ outcome (Ok (l.first + k)) (more n k (freed m k) l) (freed m k)
  pub unknown : NoneAt (HeldAt m b) n → given_back l m b ≡ outcome (Err Unknown) l m

unfoldable pub AnyMemory : Type 0
AnyMemory =
    (l : Ledger) (m b : List ℕ) → length b ≡ 8 → Ok tt ≡ judged l.first l.size (length m)
    → LowestMatches l m b (counted l.first l.size)
