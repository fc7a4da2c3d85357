-- The ledger's calls from C: from an opening on, and from any image on, they answer what the ledger's own calls answer, and the struct
-- holds the ledger after them. A refused opening leaves no ledger: then every call is RANGE until one is opened. The range in an image may
-- be outside its limits: then too every call but an opening is RANGE, by the ledger's own answer.
use Rattle.std.specs.Prelude.{ℕ, true, cond, List, ◌∷◌, ◌≡◌, eqb, length, replicate, Err}
use Rattle.refusal.specs.Verdict.{verdict_number}
use Rattle.refusal.specs.declared.Refusal.TheVariants.{Range}
use Rattle.image.specs.Effects.{on_accept}
use Rattle.image.specs.Part.{AllBytes, is_image}
use Rattle.address_ledger.specs.Ledger.{opened}
use Rattle.address_ledger.specs.declared.answer.OpenResult as answer
use Rattle.address_ledger.specs.declared.ledger.Ledger.{Ledger}
use Rattle.address_ledger_laws.specs.Demand1.{LedgerCall, opening, asking, returning, counting, Performed, perform}
use Rattle.state_image.specs.Ledger.{ledger_image}
use Rattle.ledger_calls.specs.Ledger.{Opens, LedgerDid, Counts}
use Rattle.pothatch_laws.specs.Runs.{Lent, lent, Runs, As}

-- what a call answered: the number, and the address or count, 0 beside a refusal and for an opening
pub record LedgerOutput : Type 0 where
  pub number : ℕ
  pub value : ℕ

abbrev pub ledger_output : ℕ → ℕ → LedgerOutput
ledger_output n v = record { number = n; value = v }

-- ---- a call from C, by the contract of its function. Opening only reads the memory
pub record Opened (first size : ℕ) (x : Lent) (t : LedgerOutput) (y : Lent) : Type 0 where
  pub opens : Opens first size x.memory x.image t.number y.image
  pub value : t.value ≡ 0
  pub memory : y.memory ≡ x.memory

-- a board asks or gives back
abbrev pub Boarded : LedgerCall → Lent → LedgerOutput → Lent → Type 0
Boarded c x t y = LedgerDid c x.image x.memory t.number y.image y.memory t.value

-- the question how many are free changes nothing
pub record Counted (x : Lent) (t : LedgerOutput) (y : Lent) : Type 0 where
  pub counts : Counts x.image t.number t.value
  pub image : y.image ≡ x.image
  pub memory : y.memory ≡ x.memory

abbrev pub Did : LedgerCall → Lent → LedgerOutput → Lent → Type 0
Did (opening first size) = Opened first size
Did (asking b) = Boarded (asking b)
Did (returning b) = Boarded (returning b)
Did counting = Counted

-- ---- the ledger's own calls, on a ledger and the memory of its places
pub data Held : Type 0 where
  no-ledger : Held
  ledger : Ledger → Held

pub record Keeping : Type 0 where
  pub held : Held
  pub memory : List ℕ

abbrev pub keeping : Held → List ℕ → Keeping
keeping h m = record { held = h; memory = m }

-- what a call comes to: its answer, and what is kept after it
pub record Outcome : Type 0 where
  pub answer : LedgerOutput
  pub kept : Keeping

abbrev pub outcome : LedgerOutput → Keeping → Outcome
outcome t k = record { answer = t; kept = k }

-- RANGE, and nothing moved
abbrev pub ranged : Keeping → Outcome
ranged k = outcome (ledger_output (verdict_number (Err Range)) 0) k

abbrev pub opened_with : answer.OpenResult → List ℕ → Outcome
opened_with o m = outcome (ledger_output (verdict_number o.verdict) 0) (keeping (on_accept o.verdict no-ledger (ledger o.ledger)) m)

abbrev pub performed : Performed → Outcome
performed p = outcome (ledger_output (verdict_number p.verdict) p.value) (keeping (ledger p.ledger) p.memory)

abbrev pub perform_on : LedgerCall → Held → List ℕ → Outcome
perform_on c no-ledger m = ranged (keeping no-ledger m)
perform_on c (ledger l) m = performed (perform c l m)

-- a board has eight bytes; a call with another length is RANGE
abbrev pub comes_to : LedgerCall → Held → List ℕ → Outcome
comes_to (opening first size) h m = opened_with (opened first size m) m
comes_to (asking b) h m = cond (eqb (length b) 8) (perform_on (asking b) h m) (ranged (keeping h m))
comes_to (returning b) h m = cond (eqb (length b) 8) (perform_on (returning b) h m) (ranged (keeping h m))
comes_to counting h m = perform_on counting h m

abbrev pub tells : LedgerCall → Keeping → LedgerOutput
tells c k = (comes_to c k.held k.memory).answer

abbrev pub after : LedgerCall → Keeping → Keeping
after c k = (comes_to c k.held k.memory).kept

-- the image of a ledger; all zero, which no call takes for one, where there is none
abbrev pub image_of : Held → List ℕ
image_of no-ledger = replicate 16 0
image_of (ledger l) = ledger_image.put l

abbrev pub shown : Keeping → Lent
shown k = lent (image_of k.held) k.memory

pub record LedgerRuns : Type 0 where
  -- from an opening on, which goes by no earlier ledger, so any may stand in h
  pub from-open : (first size : ℕ) (cs : List LedgerCall) (h : Held) (x : Lent) (ts : List LedgerOutput) (z : Lent) → length x.image ≡ 16
      → Runs Did (opening first size ∷ cs) x ts z → As tells after shown (opening first size ∷ cs) (keeping h x.memory) ts z
  -- from any image on, whoever stored it, and over any memory
  pub from-image : (cs : List LedgerCall) (x : Lent) (ts : List LedgerOutput) (z : Lent) → AllBytes x.image
      → is_image ledger_image x.image ≡ true
      → Runs Did cs x ts z → As tells after shown cs (keeping (ledger (ledger_image.get x.image)) x.memory) ts z
