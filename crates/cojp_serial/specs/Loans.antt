-- Lists of calls to each of which the caller may lend another length of its store.
use Rattle.std.specs.Prelude.{ℕ, ◌≡◌, Bool, true, false, cond, List, [], ◌∷◌, ◌++◌, leb, take, drop, Err}
use Rattle.refusal.specs.declared.Refusal.TheVariants.{Range}
use Rattle.cojp_serial.specs.Calls.{SerialCall, resetting, sending, ending, SerialResult, Held, told, left, verdict_in}

-- a call, and how many bytes of the caller's store it is lent, from the first on
pub record Loan : Type 0 where
  pub call : SerialCall
  pub lent : ℕ

abbrev pub loan : SerialCall → ℕ → Loan
loan c n = record { call = c; lent = n }

-- what the call finds
abbrev pub lent_of : ℕ → Held → Held
lent_of n h = record { state = h.state; store = take n h.store }

abbrev pub loan_told : Loan → Held → SerialResult
loan_told l h = told l.call (lent_of l.lent h)

-- behind what was lent the store is as before
abbrev pub loan_left : Loan → Held → Held
loan_left l h = record {
  state = (left l.call (lent_of l.lent h)).state;
  store = (left l.call (lent_of l.lent h)).store ++ drop l.lent h.store;
}

abbrev pub loan_answers : List Loan → Held → List SerialResult
loan_answers [] h = []
loan_answers (l ∷ ls) h = loan_told l h ∷ loan_answers ls (loan_left l h)

abbrev pub loan_left_by : List Loan → Held → Held
loan_left_by [] h = h
loan_left_by (l ∷ ls) h = loan_left_by ls (loan_left l h)

-- ---- whether a call is lent enough: a part or an end needs 256 bytes, a reset is lent none
abbrev pub enough : SerialCall → ℕ → Bool
enough resetting n = true
enough (sending p) n = leb 256 n
enough (ending r) n = leb 256 n

abbrev pub suffices : Loan → Bool
suffices l = enough l.call l.lent

-- the calls that are lent enough, in their order
abbrev pub served : List Loan → List SerialCall
served [] = []
served (l ∷ ls) = cond (suffices l) (l.call ∷ served ls) (served ls)

-- ts is told to all, us to those that are lent enough: in ts the others are told RANGE between them
pub data RangeBetween : List Loan → List SerialResult → List SerialResult → Type 0 where
  none_lent : RangeBetween [] [] []
  lent-enough :
      {l : Loan} {ls : List Loan} {t : SerialResult} {ts us : List SerialResult} → suffices l ≡ true → RangeBetween ls ts us →
      RangeBetween (l ∷ ls) (t ∷ ts) (t ∷ us)
  lent-short :
      {l : Loan} {ls : List Loan} {t : SerialResult} {ts us : List SerialResult} → suffices l ≡ false → verdict_in t ≡ Err Range →
      RangeBetween ls ts us → RangeBetween (l ∷ ls) (t ∷ ts) us
