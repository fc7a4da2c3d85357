-- The empty values fit, and so does what each part of a node is after a call.
use Prim.Native.Nat.{ℕ, zero, suc, ◌+◌, ◌*◌, ◌-◌, ◌/◌, ◌%◌, ◌^◌, ◌<◌, ◌≤◌}
use mathlib.Core.Path.{◌≡◌, refl}
use mathlib.Core.Bool.{Bool, true, false, cond, not, ◌&&◌, ◌||◌}
use mathlib.Core.List.{List}
use mathlib.Core.Option.{Option, none, some}
use native.Mathlib.Omega.{arith}
use native.Mathlib.Nat.{pow-suc, pow-le-pow_right}
use borrow.Author.Tests.{eqb-true, leb-true, ltb-true}
use lib.Dec.{leb, ltb, eqb}
use lib.ListN.{set}
use Rattle.lemmas.specs.logic.Tests.{both_left, both_right, then-so}
use Rattle.image.specs.Part.{number}
use Rattle.key_image.specs.Key.{key_part, key_set_part, counted_set_part}
use Rattle.link_key.specs.Key.{no_key, same_secret, covers}
use Rattle.link_key.specs.declared.Key.{Key}
use Rattle.link_key.specs.set.KeySet.{no_keys, keys_of, named, find_key, valid_set, same_keys, shares}
use Rattle.link_key.specs.declared.set.key_set.KeySet.{KeySet}
use Rattle.link_key.specs.usage.Usage.{known_type}
use Rattle.link_key_counters.specs.Counters.{Slot, with_zero_counters, no_counted, kept_counter, inherit_counters}
use Rattle.link_key_counters.specs.Counters.{taken_counter_on, first_serving, serves, take_counter}
use Rattle.link_key_counters.specs.declared.CountedSet.{CountedSet}
use Rattle.cojp.specs.ErrorReports.{no_error_reports, error_report_of, added}
use Rattle.cojp.specs.Reading.{if_taken}
use Rattle.cojp.specs.Reported.{bad_in, bad_at, reports_on}
use Rattle.cojp.specs.declared.configuration.Configuration.{Configuration}
use Rattle.cojp.specs.declared.error_report.ErrorReport.{ErrorReport}
use Rattle.cojp.specs.declared.error_report.ErrorReports.{ErrorReports}
use Rattle.cojp.specs.declared.disposition.Disposition.{Disposition}
use Rattle.cojp.specs.declared.disposition.Disposition.TheVariants as report
use Rattle.node_attempt.specs.Attempt.{is_waiting, timeout_after, valid}
use Rattle.node_attempt.specs.Poll.{stepped, poll}
use Rattle.node_attempt.specs.declared.attempt.Attempt.{Attempt}
use Rattle.node_attempt.specs.declared.attempt.Phase.{Phase}
use Rattle.node_attempt.specs.declared.attempt.Phase.TheVariants as phase
use Rattle.node_attempt.specs.declared.poll.AttemptResult.{AttemptResult}
use Rattle.node_image.specs.Answers.{frame_key_image}
use Rattle.node_image.specs.Attempt.{phase_part, attempt_part}
use Rattle.node_image.specs.Node.{sets_part}
use Rattle.node_key_sets.specs.Frames.{or_else, held_key, if_covers, receiving_key}
use Rattle.node_key_sets.specs.Sets.{active_in, pending_in, install}
use Rattle.node_key_sets.specs.declared.frames.KeyAnswer.{KeyAnswer}
use Rattle.node_key_sets.specs.declared.sets.KeySets.{KeySets}
use Rattle.node_key_sets.specs.declared.sets.InstallResult.{InstallResult}
use Rattle.object_image.specs.Codes.{bool_part, disposition_part}
use Rattle.object_image.specs.ErrorReports.{error_report_part, error_reports_part}
use Rattle.node_call_laws.specs.Fits.{Time}
use Rattle.node_call_laws.proofs.Lists.{by_cond, Each, nobody, one_more, each-taken, Found, first_fits}
use Rattle.node_call_laws.proofs.Lists.{SlotFits, slot-fits, fits-length, fits-set, fits-replicate}
use Rattle.node_call_laws.proofs.Lists.{under-zeros, fits_under, kept-fit, kept_under, CanRise, first-rises}

pub by-report : {A : Type 0} (P : A → Type 0) (r : Disposition) {x y : A} → P x → P y → P (if_taken r x y)
by-report P report.Absent f g = g
by-report P report.Taken f g = f
by-report P report.Discarded f g = g

pub bool-fits : (b : Bool) → bool_part.Fit b
bool-fits true = (omega arith, refl)
bool-fits false = (omega arith, refl)

pub report-fits : (r : Disposition) → disposition_part.Fit r
report-fits report.Absent = (omega arith, refl)
report-fits report.Taken = (omega arith, refl)
report-fits report.Discarded = (omega arith, refl)

phase-fits : (p : Phase) → phase_part.Fit p
phase-fits phase.Idle = (omega arith, refl)
phase-fits phase.Waiting = (omega arith, refl)
phase-fits phase.Joined = (omega arith, refl)
phase-fits phase.GaveUp = (omega arith, refl)

-- ---- keys
pub no-key-fits : key_part.Fit no_key
no-key-fits =
    (omega arith, (omega arith, ((refl, under-zeros 256 16 (omega arith)), ((omega arith, (refl, under-zeros 256 8 (omega arith))), refl))))

pub no-keys-fit : key_set_part.Fit no_keys
no-keys-fit = (omega arith, fits-replicate key_part 8 no_key no-key-fits)

arrived-fits : (set : KeySet) → key_set_part.Fit set → counted_set_part.Fit (with_zero_counters set)
arrived-fits set h = (h, fits-replicate (number 4) 8 0 (omega arith))

pub none-counted-fits : counted_set_part.Fit no_counted
none-counted-fits = arrived-fits no_keys no-keys-fit

succeeded-fits : (s : CountedSet) (set : KeySet) → counted_set_part.Fit s → key_set_part.Fit set
    → counted_set_part.Fit (inherit_counters s set)
unfolding inherit_counters
succeeded-fits s set f h = (
  h,
  kept-fit (kept_counter s)
      (λ (k : Key). kept_under s.counters (fits_under s.counters f.1) (λ (x : Slot). same_secret x.key k) 0 (keys_of s.set))
      set.count set.keys (fits-length key_part 8 set.keys h.1),
)

spent_fits : (s : CountedSet) (o : Option Slot) → counted_set_part.Fit s → CanRise o → counted_set_part.Fit (taken_counter_on s o).set
spent_fits s none f h = f
spent_fits s (some x) f h = (f.0, fits-set (number 4) 8 s.counters x.place (x.counter + 1) h f.1)

pub spend-fits : (type : ℕ) (s : CountedSet) → counted_set_part.Fit s → counted_set_part.Fit (take_counter type s).set
unfolding take_counter
spend-fits type s f =
    spent_fits s (first_serving type s) f (first-rises s.counters (fits_under s.counters f.1) type 0 (keys_of s.set))

-- the key that a frame is sent with, and its counter
spent-key : (s : CountedSet) (o : Option Slot) → Found SlotFits o
    → frame_key_image.Fit ((taken_counter_on s o).key, (taken_counter_on s o).counter)
spent-key s none h = (no-key-fits, omega arith)
spent-key s (some x) h = h

set-keys : (s : CountedSet) → counted_set_part.Fit s → Each key_part (keys_of s.set)
set-keys s f = each-taken key_part s.set.count 8 s.set.keys f.0.1

pub spend-key : (type : ℕ) (s : CountedSet) → counted_set_part.Fit s
    → frame_key_image.Fit ((take_counter type s).key, (take_counter type s).counter)
unfolding take_counter
spend-key type s f =
    spent-key s (first_serving type s)
    (slot-fits s.counters (fits_under s.counters f.1) (serves type) 0 (keys_of s.set) (set-keys s f))

-- the key that one is received with
answer-key : (type : ℕ) (o : Option Key) → Found key_part.Fit o → key_part.Fit (if_covers type o).key
answer-key type none h = no-key-fits
answer-key type (some k) h = by_cond (λ (a : KeyAnswer). key_part.Fit a.key) (covers k type) (λ _. h) (λ _. no-key-fits)

or-else : (o p : Option Key) → Found key_part.Fit o → Found key_part.Fit p → Found key_part.Fit (or_else o p)
or-else none p f g = g
or-else (some k) p f g = f

pub receiving-key : (s : KeySets) (type identifier : ℕ) → sets_part.Fit s → key_part.Fit (receiving_key s type identifier).key
unfolding receiving_key
receiving-key s type identifier f =
    by_cond (λ (a : KeyAnswer). key_part.Fit a.key) (known_type type && not (eqb identifier 0))
    (λ _. answer-key type (held_key s identifier)
    (or-else (find_key identifier (active_in s)) (find_key identifier (pending_in s))
    (first_fits key_part (named identifier) (active_in s) (set-keys s.active f.0))
    (first_fits key_part (named identifier) (pending_in s) (set-keys s.pending f.1))))
    (λ _. no-key-fits)

pub install-fits : (border : Bool) (s : KeySets) (set : KeySet) → sets_part.Fit s → key_set_part.Fit set
    → sets_part.Fit (install border s set).sets
unfolding install
install-fits border s set f h =
    let P : InstallResult → Type 0 = λ p. sets_part.Fit p.sets in
    by_cond P (valid_set set)
    (λ _. by_cond P border (λ _. (succeeded-fits s.active set f.0 h, none-counted-fits))
    (λ _. by_cond P (same_keys (keys_of set) (active_in s)) (λ _. (f.0, none-counted-fits))
    (λ _. by_cond P (shares (keys_of set) (active_in s)) (λ _. f) (λ _. (f.0, arrived-fits set h)))))
    (λ _. f)

-- ---- the join attempt
pub attempt-fits : (p : Phase) {clock sent timeout count : ℕ} → Time clock → Time sent → Time timeout → count < 256
    → attempt_part.Fit (record { phase = p; clock = clock; sent = sent; timeout = timeout; count = count })
attempt-fits p a b c d = (phase-fits p, (a, (b, (c, d))))

-- a timeout that was doubled so many times
doubled : (count timeout : ℕ) → timeout_after count timeout ≡ true → timeout ≤ 15000 * 2 ^ count
doubled zero timeout e = omega (arith, leb-true timeout 15000 (both_right (leb 10000 timeout) (leb timeout 15000) e))
doubled (suc count) timeout e =
    let even = eqb-true (timeout % 2) 0 (both_left (eqb (timeout % 2) 0) (timeout_after count (timeout / 2)) e) in
    let half = doubled count (timeout / 2) (both_right (eqb (timeout % 2) 0) (timeout_after count (timeout / 2)) e) in
    rw (pow-suc 2 count) (omega arith)

waits-short : (a : Attempt) → valid a ≡ true → is_waiting a.phase ≡ true → a.count < 4 → a.timeout ≤ 240000
unfolding valid
waits-short a v w h =
    let timed = then-so (is_waiting a.phase) (timeout_after a.count a.timeout)
    (both_right (leb a.count 4 && leb a.sent a.clock) (not (is_waiting a.phase) || timeout_after a.count a.timeout) v) w in
    let most : 2 ^ a.count ≤ 2 ^ 4 = pow-le-pow_right {n = 2} (omega arith) {i = a.count} {j = 4} (omega arith) in
    omega (arith, doubled a.count a.timeout timed)

pub poll-fits : (a : Attempt) (time : ℕ) → Time time → attempt_part.Fit a → attempt_part.Fit (poll a time).attempt
unfolding poll stepped
poll-fits a time t f =
    let P : AttemptResult → Type 0 = λ s. attempt_part.Fit s.attempt in
    by_cond P (valid a)
    (λ v. by_cond P (leb a.clock time)
    (λ _. by_cond P (is_waiting a.phase)
    (λ w. by_cond P (leb a.timeout (time - a.sent))
    (λ _. by_cond P (ltb a.count 4)
    (λ c. let less = ltb-true a.count 4 c in
    attempt-fits a.phase t t (omega (arith, waits-short a v w less)) (omega arith))
    (λ _. attempt-fits phase.GaveUp t f.1.1.0 f.1.1.1.0 f.1.1.1.1))
    (λ _. attempt-fits a.phase t f.1.1.0 f.1.1.1.0 f.1.1.1.1))
    (λ _. f))
    (λ _. f))
    (λ _. f)

-- ---- faults
no-fault-fits : error_report_part.Fit (error_report_of 0 0)
no-fault-fits = (omega arith, omega arith)

pub no-faults-fit : error_reports_part.Fit no_error_reports
no-faults-fit = (omega arith, fits-replicate error_report_part 5 (error_report_of 0 0) no-fault-fits)

pub added-fits : (f : ErrorReports) (code label : ℕ) → code < 256 → label < 256 → error_reports_part.Fit f
    → error_reports_part.Fit (added f code label)
unfolding added
added-fits f code label a b h =
    by_cond error_reports_part.Fit (ltb f.count 5)
    (λ e. let less = ltb-true f.count 5 e in
    (omega arith, fits-set error_report_part 5 f.reports f.count (error_report_of code label) (a, b) h.1))
    (λ _. h)

pub reports-fit : (c : Configuration) (f : ErrorReports) (xs : List ErrorReport) → Each error_report_part xs → error_reports_part.Fit f
    → error_reports_part.Fit (reports_on (bad_in c) f xs)
reports-fit c f xs nobody h = h
reports-fit c f xs (one_more {x = x} {xs = ys} g e) h =
    reports-fit c (cond (bad_at (bad_in c) x.label) (added f x.code x.label) f) ys e
    (by_cond error_reports_part.Fit (bad_at (bad_in c) x.label) (λ _. added-fits f x.code x.label g.0 g.1 h) (λ _. h))
