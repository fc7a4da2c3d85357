-- What is promised of whole lists of these calls. They are said of a store that is lent whole to each call; that the lent length may change
-- from call to call is the last law.
use Rattle.std.specs.Prelude.{ℕ, ◌+◌, ◌≤◌, ◌<◌, ◌≡◌, false, cond, not, List, [], ◌∷◌, leb, length, take, drop, Ok, Err}
use Rattle.refusal.specs.Order.{refused_if, in_order}
use Rattle.refusal.specs.Refusal.{number_of}
use Rattle.refusal.specs.Verdict.{verdict_number}
use Rattle.refusal.specs.declared.Refusal.{Refusal}
use Rattle.refusal.specs.declared.Refusal.TheVariants.{Long, Phase, Range}
use Rattle.refusal.specs.Verdict.{Verdict}
use Rattle.cojp.specs.Configuration.{empty_configuration}
use Rattle.cojp.specs.Request.{empty_request}
use Rattle.cojp_serial.specs.State.{overran, end_marked, valid, passes, decision_number}
use Rattle.cojp_serial.specs.Calls.{Reader, SerialCall, resetting, sending, ending}
use Rattle.cojp_serial.specs.Calls.{SerialResult, begun, part, join_request, update, Held, decision_on}
use Rattle.cojp_serial.specs.Calls.{whole_read, told, left, left_by, answers, sent, joined, sendings}
use Rattle.cojp_serial.specs.Calls.{verdict_in, verdicts, taken_in, long_part_in}
use Rattle.cojp_serial.specs.Loans.{Loan, loan_answers, loan_left_by, served, RangeBetween}
use Rattle.cojp_serial.specs.declared.state.SerialState.{SerialState}

-- ---- cut anywhere, with empty parts too, after a reset, whatever stood before: the end answers as one whole reading does, LONG included
abbrev pub EndReadsTheWhole : Type 0
EndReadsTheWhole =
    (h : Held) (ps : List (List ℕ)) (r : Reader) → 256 ≤ length h.store →
    told (ending r) (sent ps (left resetting h)) ≡ whole_read r (joined ps)

-- ---- bytes of the store beyond what arrived are never read: where two stores agree in what arrived, every list of calls is answered alike
abbrev pub BeyondIsUnread : Type 0
BeyondIsUnread =
    (a : SerialState) (s t : List ℕ) (cs : List SerialCall) → leb 256 (length s) ≡ leb 256 (length t) →
    take a.arrived s ≡ take a.arrived t →
    answers cs (record { state = a; store = s }) ≡ answers cs (record { state = a; store = t })

-- ---- the fault of the recall: after a reset nothing shows of the former board, whatever it left in hand and in the store
abbrev pub ResetForgets : Type 0
ResetForgets =
    (g h : Held) (cs : List SerialCall) → leb 256 (length g.store) ≡ leb 256 (length h.store) →
    answers (resetting ∷ cs) g ≡ answers (resetting ∷ cs) h

-- ---- a refused call leaves the store, comes with the empty object, and leaves the arrival but for two: a part that passes 256, and an end
-- whose reading refuses what arrived
abbrev pub EmptyBeside : SerialResult → Type 0
EmptyBeside begun = Unit {0}
EmptyBeside (part a) = Unit {0}
EmptyBeside (join_request r) = r.request ≡ empty_request
EmptyBeside (update r) = r.configuration ≡ empty_configuration

pub data Left : SerialCall → Held → Refusal → SerialState → Type 0 where
  as_before : {c : SerialCall} {h : Held} {k : Refusal} {a : SerialState} → a ≡ h.state → Left c h k a
  overrun-marked : {p : List ℕ} {h : Held} {k : Refusal} {a : SerialState} → k ≡ Long → a ≡ overran h.state → Left (sending p) h k a
  marked_ended :
      {r : Reader} {h : Held} {k : Refusal} {a : SerialState} → verdict_in (whole_read r (take h.state.arrived h.store)) ≡ Err k →
      a ≡ end_marked h.state → Left (ending r) h k a

pub record RefusedCall (c : SerialCall) (h : Held) (k : Refusal) : Type 0 where
  pub store : (left c h).store ≡ h.store
  pub object : EmptyBeside (told c h)
  pub state : Left c h k (left c h).state

abbrev pub RefusedCalls : Type 0
RefusedCalls = (c : SerialCall) (h : Held) (k : Refusal) → verdict_in (told c h) ≡ Err k → RefusedCall c h k

-- ---- until a reset: after a part that was LONG each call is LONG; after an end that came to its reading each is LONG or PHASE
pub data NoReset : List SerialCall → Type 0 where
  no-calls : NoReset []
  part-next : {p : List ℕ} {cs : List SerialCall} → NoReset cs → NoReset (sending p ∷ cs)
  end-next : {r : Reader} {cs : List SerialCall} → NoReset cs → NoReset (ending r ∷ cs)

pub data Each (P : Verdict → Type 0) : List SerialResult → Type 0 where
  none_told : Each P []
  next-told : {t : SerialResult} {ts : List SerialResult} → P (verdict_in t) → Each P ts → Each P (t ∷ ts)

abbrev pub IsLong : Verdict → Type 0
IsLong v = v ≡ Err Long

pub data LongOrPhase (v : Verdict) : Type 0 where
  long : v ≡ Err Long → LongOrPhase v
  phase : v ≡ Err Phase → LongOrPhase v

abbrev pub LongUntilReset : Type 0
LongUntilReset =
    (h : Held) (p : List ℕ) (cs : List SerialCall) → IsLong (verdict_in (told (sending p) h)) → NoReset cs →
    Each IsLong (answers cs (left (sending p) h))

-- ---- LONG comes where 256 is passed and nowhere else: while no part since a reset was LONG, a part is LONG exactly where its bytes and
-- those of the accepted parts are more than 256
pub record LongExactly (v : Verdict) (n : ℕ) : Type 0 where
  pub passed : 256 < n → IsLong v
  pub only : IsLong v → 256 < n

abbrev pub LongWherePassed : Type 0
LongWherePassed =
    (h : Held) (cs : List SerialCall) (p : List ℕ) → 256 ≤ length h.store → NoReset cs → long_part_in cs (left resetting h) ≡ false →
    LongExactly (verdict_in (told (sending p) (left_by cs (left resetting h)))) (taken_in cs (left resetting h) + length p)

-- ---- each part of a payload that fits is accepted, from a reset on
abbrev pub IsAccepted : Verdict → Type 0
IsAccepted v = v ≡ Ok tt

abbrev pub FittingPartsTaken : Type 0
FittingPartsTaken =
    (h : Held) (ps : List (List ℕ)) → 256 ≤ length h.store → length (joined ps) ≤ 256 →
    Each IsAccepted (answers (sendings ps) (left resetting h))

-- ---- an accepted part stands behind what had arrived, and no other byte of the store changes
pub record OwnBytes (n : ℕ) (p before after : List ℕ) : Type 0 where
  pub size : length after ≡ length before
  pub ahead : take n after ≡ take n before
  pub own : take (length p) (drop n after) ≡ p
  pub behind : drop (n + length p) after ≡ drop (n + length p) before

abbrev pub WritesItsOwn : Type 0
WritesItsOwn =
    (h : Held) (p : List ℕ) → IsAccepted (verdict_in (told (sending p) h)) →
    OwnBytes h.state.arrived p h.store (left (sending p) h).store

-- an end comes to its reading where an empty part would be accepted
abbrev pub PhaseUntilReset : Type 0
PhaseUntilReset =
    (h : Held) (r : Reader) (cs : List SerialCall) → verdict_in (told (sending []) h) ≡ Ok tt → NoReset cs →
    Each LongOrPhase (answers cs (left (ending r) h))

-- ---- an end after an end, from a reset on, is LONG exactly if a part since the reset was LONG, and else PHASE
pub data HasEnd : List SerialCall → Type 0 where
  this-end : {r : Reader} {cs : List SerialCall} → HasEnd (ending r ∷ cs)
  later-end : {c : SerialCall} {cs : List SerialCall} → HasEnd cs → HasEnd (c ∷ cs)

abbrev pub EndAfterEnd : Type 0
EndAfterEnd =
    (h : Held) (cs : List SerialCall) (r : Reader) → 256 ≤ length h.store → NoReset cs → HasEnd cs →
    verdict_in (told (ending r) (left_by cs (left resetting h))) ≡ cond (long_part_in cs (left resetting h)) (Err Long) (Err Phase)

-- ---- a store under 256 bytes: each part and each end is RANGE, first, whatever came before, and changes nothing; a reset is never refused
abbrev pub short_verdict : SerialCall → Verdict
short_verdict resetting = Ok tt
short_verdict (sending p) = Err Range
short_verdict (ending r) = Err Range

abbrev pub short_verdicts : List SerialCall → List Verdict
short_verdicts [] = []
short_verdicts (c ∷ cs) = short_verdict c ∷ short_verdicts cs

pub record OnShortStore (cs : List SerialCall) (h : Held) : Type 0 where
  pub says : verdicts (answers cs h) ≡ short_verdicts cs
  pub store : (left_by cs h).store ≡ h.store
  pub state : NoReset cs → (left_by cs h).state ≡ h.state

abbrev pub ShortStoreIsRange : Type 0
ShortStoreIsRange = (h : Held) (cs : List SerialCall) → length h.store < 256 → OnShortStore cs h

-- ---- the lent length may change from call to call: a part or an end that is lent under 256 bytes is RANGE, and all else is as if it had
-- not come and the others were lent the whole store. So what the other laws say of one length holds of changing ones
pub record AsServed (ls : List Loan) (h : Held) : Type 0 where
  pub says : RangeBetween ls (loan_answers ls h) (answers (served ls) h)
  pub leaves : loan_left_by ls h ≡ left_by (served ls) h

abbrev pub LentLengthsMayChange : Type 0
LentLengthsMayChange = (h : Held) (ls : List Loan) → 256 ≤ length h.store → AsServed ls h

-- ---- the numbers in their order: RANGE, LONG, PHASE, and then what the reading of an end answers
abbrev pub refusals_of : Held → ℕ → List ℕ → List ℕ
refusals_of h n rest =
    refused_if (not (valid h.state (length h.store))) (number_of Range) ∷ refused_if (passes h.state n) (number_of Long)
    ∷ refused_if h.state.ended (number_of Phase) ∷ rest

pub record NumbersInOrder : Type 0 where
  pub decides : (h : Held) (n : ℕ) → decision_number (decision_on h n) ≡ in_order (refusals_of h n [])
  pub parts : (h : Held) (p : List ℕ) → verdict_number (verdict_in (told (sending p) h)) ≡ in_order (refusals_of h (length p) [])
  pub ends : (h : Held) (r : Reader)
      → verdict_number (verdict_in (told (ending r) h))
      ≡ in_order (refusals_of h 0 (verdict_number (verdict_in (whole_read r (take h.state.arrived h.store))) ∷ []))

pub record SerialLaws : Type 0 where
  pub numbers : NumbersInOrder
  pub whole : EndReadsTheWhole
  pub unread : BeyondIsUnread
  pub former-board : ResetForgets
  pub refused : RefusedCalls
  pub long : LongUntilReset
  pub phase : PhaseUntilReset
  pub passed : LongWherePassed
  pub fitting : FittingPartsTaken
  pub own : WritesItsOwn
  pub end-again : EndAfterEnd
  pub short : ShortStoreIsRange
  pub lengths : LentLengthsMayChange
