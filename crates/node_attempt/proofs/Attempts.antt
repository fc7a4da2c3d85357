-- A valid attempt: what that says of its counter, its times and its timeout, and back; and what starts and polls make of it.
use Rattle.std.specs.Prelude.{Ok, Err, Result}
use Prim.Native.Nat.{ℕ, zero, suc, ◌+◌, ◌-◌, ◌*◌, ◌/◌, ◌%◌, ◌≤◌, ◌<◌}
use native.Mathlib.Numerals.{add-one}
use native.Mathlib.Omega.{arith}
use mathlib.Core.Path.{◌≡◌, refl}
use mathlib.Core.Bool.{Bool, true, false, ◌&&◌}
use borrow.Author.Tests.{leb-true, le-leb, ltb-true, eqb-true}
use lib.Dec.{leb, ltb, eqb}
use Rattle.refusal.specs.RefusalLemmas.{refused-not, accepted-not}
use Rattle.refusal.specs.declared.Refusal.{Refusal}
use Rattle.refusal.specs.declared.Refusal.TheVariants as refusal
use Rattle.lemmas.specs.logic.Tests.{both_left, both_right}
use Rattle.refusal.specs.Verdict.{Verdict}
use Rattle.node_attempt.specs.declared.poll.Due.{Due}
use Rattle.node_attempt.specs.Attempt.{is_waiting, attempt, first_timeout, timeout_after, valid_timeout, valid, may_start, waiting_from}
use Rattle.node_attempt.specs.Poll.{step, stepped, poll, due_verdict}
use Rattle.node_attempt.specs.declared.attempt.Attempt.{Attempt}
use Rattle.node_attempt.specs.declared.attempt.Phase.TheVariants as phase
use Rattle.node_attempt.specs.declared.poll.Due.TheVariants.{NotYet, SendAgain, GaveUp}
use Rattle.node_attempt.specs.declared.poll.AttemptResult.{AttemptResult}
use Rattle.lemmas.specs.logic.Tests.{then-so}

-- ---- what it says, part by part, and back
module _ (a : Attempt) (e : valid a ≡ true) where
  front : (leb a.count 4 && leb a.sent a.clock) ≡ true
  unfolding valid
  front = both_left (leb a.count 4 && leb a.sent a.clock) (valid_timeout a) e

  pub count-valid : a.count ≤ 4
  count-valid = leb-true a.count 4 (both_left (leb a.count 4) (leb a.sent a.clock) front)

  pub sent-valid : a.sent ≤ a.clock
  sent-valid = leb-true a.sent a.clock (both_right (leb a.count 4) (leb a.sent a.clock) front)

  pub timeout-valid : valid_timeout a ≡ true
  unfolding valid
  timeout-valid = both_right (leb a.count 4 && leb a.sent a.clock) (valid_timeout a) e

pub valid-by : (a : Attempt) → a.count ≤ 4 → a.sent ≤ a.clock → valid_timeout a ≡ true → valid a ≡ true
unfolding valid
valid-by a k s t = rw (le-leb _ _ k, le-leb _ _ s) t

-- ---- a later clock, as of a join answer or an update
module _ (a : Attempt) (time : ℕ) (c : a.clock ≤ time) (e : valid a ≡ true) where
  pub sent-before : a.sent ≤ time
  sent-before = omega (arith, sent-valid a e)

  pub moved-valid : valid (attempt a.phase time a.sent a.timeout a.count) ≡ true
  moved-valid = valid-by (attempt a.phase time a.sent a.timeout a.count) (count-valid a e) sent-before (timeout-valid a e)

  pub joined-valid : valid (attempt phase.Joined time a.sent a.timeout a.count) ≡ true
  joined-valid = valid-by (attempt phase.Joined time a.sent a.timeout a.count) (count-valid a e) sent-before refl

-- ---- starting
module _ (a : Attempt) (time timeout : ℕ) (e : may_start a time timeout ≡ Ok tt) where
  started-by :
      (v c w f : Bool) → valid a ≡ v → leb a.clock time ≡ c → is_waiting a.phase ≡ w → first_timeout timeout ≡ f →
      (c ≡ true) × (w ≡ false) × (f ≡ true)
  unfolding may_start
  started-by false c w f o p q r = refused-not refusal.Range (rw o at e)
  started-by true false w f o p q r = refused-not refusal.Clock (rw (o, p) at e)
  started-by true true true f o p q r = refused-not refusal.Phase (rw (o, p, q) at e)
  started-by true true false false o p q r = refused-not refusal.Range (rw (o, p, q, r) at e)
  started-by true true false true o p q r = (refl, refl, refl)

  pub may-start : (leb a.clock time ≡ true) × (is_waiting a.phase ≡ false) × (first_timeout timeout ≡ true)
  may-start = started-by (valid a) (leb a.clock time) (is_waiting a.phase) (first_timeout timeout) refl refl refl refl

pub waiting-valid : (time timeout : ℕ) → first_timeout timeout ≡ true → valid (waiting_from time timeout) ≡ true
waiting-valid time timeout f = valid-by (waiting_from time timeout) (omega arith) (omega arith) f

-- ---- polling: the arithmetic is exact
twice :
    (count timeout most : ℕ) → timeout_after (suc count) timeout ≡ true → (timeout_after count (timeout / 2) ≡ true → timeout / 2 ≤ most) →
    timeout ≤ most + most
twice count timeout most e f =
    let even : eqb (timeout % 2) 0 ≡ true = both_left (eqb (timeout % 2) 0) (timeout_after count (timeout / 2)) e in
    let less = f (both_right (eqb (timeout % 2) 0) (timeout_after count (timeout / 2)) e) in
    omega (arith, eqb-true (timeout % 2) 0 even)

none : (timeout : ℕ) → timeout_after 0 timeout ≡ true → timeout ≤ 15000
none timeout e = leb-true timeout 15000 (both_right (leb 10000 timeout) (leb timeout 15000) e)

-- a timeout that was doubled at most four times is at most 240,000
small : (count timeout : ℕ) → count ≤ 4 → timeout_after count timeout ≡ true → timeout ≤ 240000
small zero t h e = omega (arith, none t e)
small (suc zero) t h e = omega (arith, twice 0 t 15000 e (none (t / 2)))
small (suc (suc zero)) t h e = omega (arith, twice 1 t 30000 e (λ e1. twice 0 (t / 2) 15000 e1 (none (t / 2 / 2))))
small (suc (suc (suc zero))) t h e =
    omega (arith, twice 2 t 60000 e (λ e2. twice 1 (t / 2) 30000 e2 (λ e1. twice 0 (t / 2 / 2) 15000 e1 (none (t / 2 / 2 / 2)))))
small (suc (suc (suc (suc zero)))) t h e =
    omega (
      arith,
      twice 3 t 120000 e
          (λ e3. twice 2 (t / 2) 60000 e3
          (λ e2. twice 1 (t / 2 / 2) 30000 e2 (λ e1. twice 0 (t / 2 / 2 / 2) 15000 e1 (none (t / 2 / 2 / 2 / 2))))),
    )
small (suc (suc (suc (suc (suc count))))) t h e = absurd (omega arith)

pub timeout-small : (a : Attempt) → valid a ≡ true → is_waiting a.phase ≡ true → a.timeout ≤ 240000
timeout-small a e w =
    small a.count a.timeout (count-valid a e)
    (then-so (is_waiting a.phase) (timeout_after a.count a.timeout) (timeout-valid a e) w)

-- ---- polling: what holds of each step that is answered holds of a poll
module _ (a : Attempt) (time : ℕ) (P : AttemptResult → Type 0)
    (refused : (k : Refusal) → P (step (Err k) a))
    (still : a.clock ≤ time → P (step (Ok NotYet) (attempt a.phase time a.sent a.timeout a.count)))
    (again : a.clock ≤ time → is_waiting a.phase ≡ true → a.count < 4
    → P (step (Ok SendAgain) (attempt a.phase time time (2 * a.timeout) (a.count + 1))))
    (over : a.clock ≤ time → P (step (Ok GaveUp) (attempt phase.GaveUp time a.sent a.timeout a.count))) where
  stepped-cases : (b : Bool) → ltb a.count 4 ≡ b → a.clock ≤ time → is_waiting a.phase ≡ true → P (stepped a time)
  unfolding stepped
  stepped-cases true e c w = rw e (again c w (ltb-true a.count 4 e))
  stepped-cases false e c w = rw e (over c)

  polled-cases :
      (f c w d : Bool) → valid a ≡ f → leb a.clock time ≡ c → is_waiting a.phase ≡ w → leb a.timeout (time - a.sent) ≡ d →
      P (poll a time)
  unfolding poll
  polled-cases false c w d p q r s = rw p (refused refusal.Range)
  polled-cases true false w d p q r s = rw (p, q) (refused refusal.Clock)
  polled-cases true true false d p q r s = rw (p, q, r) (refused refusal.Phase)
  polled-cases true true true false p q r s = rw (p, q, r, s) (still (leb-true _ _ q))
  polled-cases true true true true p q r s = rw (p, q, r, s) (stepped-cases (ltb a.count 4) refl (leb-true _ _ q) r)

  pub poll-cases : P (poll a time)
  poll-cases = polled-cases (valid a) (leb a.clock time) (is_waiting a.phase) (leb a.timeout (time - a.sent)) refl refl refl refl

halves : (t : ℕ) → 2 * t % 2 ≡ 0
halves t = omega arith

half : (t : ℕ) → 2 * t / 2 ≡ t
half t = omega arith

doubled-once : (count timeout : ℕ) → timeout_after count timeout ≡ true → timeout_after (count + 1) (2 * timeout) ≡ true
doubled-once count timeout e = rw (add-one count, halves timeout, half timeout) e

again-valid :
    (a : Attempt) (time : ℕ) → is_waiting a.phase ≡ true → a.count < 4 → valid a ≡ true →
    valid (attempt a.phase time time (2 * a.timeout) (a.count + 1)) ≡ true
again-valid a time w h e =
    valid-by (attempt a.phase time time (2 * a.timeout) (a.count + 1)) (omega arith) (omega arith)
    (rw w
    (doubled-once a.count a.timeout (then-so (is_waiting a.phase) (timeout_after a.count a.timeout) (timeout-valid a e) w)))

module _ (a : Attempt) (time : ℕ) where
  pub poll-valid : valid a ≡ true → valid (poll a time).attempt ≡ true
  poll-valid e =
      poll-cases a time (λ (s : AttemptResult). valid s.attempt ≡ true) (λ k. e) (λ c. moved-valid a time c e)
      (λ c w h. again-valid a time w h e)
      (λ c. valid-by (attempt phase.GaveUp time a.sent a.timeout a.count) (count-valid a e) (sent-before a time c e) refl)

  pub poll-later : a.clock ≤ (poll a time).attempt.clock
  poll-later = poll-cases a time (λ (s : AttemptResult). a.clock ≤ s.attempt.clock) (λ k. omega arith) (λ c. c) (λ c w h. c) (λ c. c)

  -- a refused poll leaves the attempt
  pub poll-untouched : (k : Refusal) → due_verdict (poll a time).due ≡ Err k
      → ((poll a time).attempt ≡ a) × ((poll a time).due ≡ Err k)
  poll-untouched =
      poll-cases a time
      (λ (s : AttemptResult). (k : Refusal) → due_verdict s.due ≡ Err k → (s.attempt ≡ a) × (s.due ≡ Err k))
      (λ l k e. (refl, same l k e)) (λ c k e. accepted-not k e) (λ c w h k e. accepted-not k e) (λ c k e. accepted-not k e)
    where
      same : (l k : Refusal) → ◌≡◌ {A = Verdict} (Err l) (Err k) → ◌≡◌ {A = Result Due Refusal} (Err l) (Err k)
      same l k e = let p : l ≡ k = cc in rw p
