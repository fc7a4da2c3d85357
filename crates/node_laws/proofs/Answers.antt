-- Numbers and values go by the tests of a call, in the order of its definition; of a valid node the attempt is valid too, and a key set
-- that was read is within its limits.
use Rattle.std.specs.Prelude.{Result, Ok, Err}
use Rattle.refusal.specs.declared.Refusal.{Refusal}
use Prim.Native.Nat.{ℕ, ◌+◌, ◌*◌, ◌≤◌}
use native.Mathlib.Omega.{arith}
use mathlib.Core.Path.{◌≡◌, refl, sym, ◌∙◌, ap}
use mathlib.Core.Bool.{Bool, true, false, cond, not, ◌&&◌}
use mathlib.Core.List.{List, [], ◌∷◌}
use mathlib.Core.Option.{Option, none, some}
use borrow.Author.Tests.{eq-eqb, ne_eqb, ltb-true, ltb-false}
use lib.Dec.{leb, ltb, eqb}
use lib.ListN.{length}
use Rattle.refusal.specs.Verdict.{verdict_number, is_accepted}
use Rattle.refusal.specs.RefusalLemmas.{refused-not, refused-first}
use Rattle.refusal.specs.Order.{refused_if, in_order}
use Rattle.refusal.specs.declared.Refusal.TheVariants as refusal
use Rattle.refusal.specs.Verdict.{Verdict}
use Rattle.lemmas.specs.logic.Tests.{never}
use Rattle.link_key.specs.usage.Usage.{known_type}
use Rattle.link_key.specs.Key.{covers}
use Rattle.link_key.specs.declared.Key.{Key}
use Rattle.link_key.specs.set.KeySet.{has}
use Rattle.byte_io.specs.Write.{Plan, answer}
use Rattle.cojp.specs.InRange.{ReadsInRange}
use Rattle.protocol_version.specs.Version.{by_version}
use Rattle.cojp.specs.Writing.{keys_in_range, request_plan}
use Rattle.cojp.specs.declared.configuration.Configuration.{Configuration}
use Rattle.cojp.specs.declared.configuration.ConfigurationRead.{ConfigurationRead}
use Rattle.cojp.specs.declared.key_set.KeysParameter.{KeysParameter}
use Rattle.cojp.specs.declared.disposition.Disposition.TheVariants.{Discarded}
use Rattle.protocol_version.specs.declared.Version.{Version}
use Rattle.protocol_version.specs.declared.Version.TheVariants.{Draft, Published}
use Rattle.link_key_counters.specs.CounterLaws.{CounterLaws}
use Rattle.link_key_counters.specs.Counters.{Slot, first_serving, taken_counter_on}
use Rattle.link_key_counters.specs.declared.TakenCounter.{TakenCounter}
use Rattle.node_key_sets.specs.Frames as sets
use Rattle.node_key_sets.specs.Frames.{with_key, without_key, if_covers, held_key, receiving_key, effect_by, verified_in}
use Rattle.node_key_sets.specs.Frames.{change_number, has_switched, has_kept}
use Rattle.node_key_sets.specs.declared.frames.KeyAnswer.{KeyAnswer}
use Rattle.node_key_sets.specs.declared.sets.KeySets.{KeySets}
use Rattle.node_attempt.specs.Attempt.{first_timeout, attempt, may_start}
use Rattle.node_attempt.specs.Attempt as joinable
use Rattle.node_attempt.specs.Poll.{due_number, not_yet, sends_again, gives_up, step, stepped}
use Rattle.node_attempt.specs.Poll as joining
use Rattle.node_attempt.specs.declared.attempt.Attempt.{Attempt}
use Rattle.node_attempt.specs.declared.attempt.Phase.TheVariants as phase
use Rattle.node_attempt.specs.declared.poll.Due.{Due}
use Rattle.node_attempt.specs.declared.poll.Due.TheVariants as due
use Rattle.node_attempt.proofs.Attempts.{count-valid}
use Rattle.node_attempt.specs.delivery.Delivery.{belongs, may_come}
use Rattle.node_attempt.specs.declared.delivery.Delivery.{Delivery}
use Rattle.node_parameters.specs.Lease.{holds_at}
use Rattle.node_parameters.specs.Octets.{valid_octets}
use Rattle.node_parameters.specs.Dispositions.{dispositions_of}
use Rattle.node_parameters.specs.declared.octets.HeldOctets.{HeldOctets}
use Rattle.node_parameters.specs.declared.dispositions.Dispositions.{Dispositions}
use Rattle.node.specs.Delivery.{placement_of, fitted_by, fitted, placed_by, owes_identifier, undelivered}
use Rattle.node.specs.Delivery.{apply, apply_read, deliver_verdict, deliver_by, read_for, deliver}
use Rattle.node.specs.Frames as frames
use Rattle.node.specs.Frames.{unsent, sent_by, send, receive, reported, reported_by, verified}
use Rattle.node.specs.Lease.{holds, holding_number, holds_now}
use Rattle.node.specs.Node.{active_of, clock_of, valid_role, unmade, made}
use Rattle.node.specs.Range.{valid}
use Rattle.node.specs.Timing.{request_of, start_verdict, plan_by, start_plan, started_from, started_by, start, polled, polled_by, poll}
use Rattle.node.specs.declared.frames.VerifyResult.{VerifyResult}
use Rattle.node.specs.declared.frames.SendResult.{SendResult}
use Rattle.node.specs.declared.lease.LeaseStatus.TheVariants as holding
use Rattle.node.specs.declared.node.Node.{Node}
use Rattle.cojp_list.specs.Laws.{ListLaws}
use Rattle.cbor.specs.HeadLaws.{HeadLaws}
use Rattle.node_laws.specs.Answers.{early, reached, is_polled, is_due, clashes, is_missing, is_uncovered, written_number, AnswersSay}
use Rattle.node_laws.specs.Phases.{waits}
use Rattle.node_laws.specs.Calls.{NodeCall, starting, polling, delivering, asking, sending, receiving, reporting, perform}
use Rattle.node_laws.proofs.OwnRequest.{request-number, short}
use Rattle.node_laws.proofs.Deliveries.{accepted-reports, accepted-reading}
use Rattle.node_laws.proofs.Fitted.{placed_as, placed-verdict, fitted-as, clashing}
use Rattle.node_laws.proofs.Forms.{fitted-network, fitted-keys}
use Rattle.node_laws.proofs.FrameKeys.{send-counts}
use Rattle.node_laws.proofs.Valid.{attempt-valid}

-- ---- a node that is not valid
invalid : (c : NodeCall) (n : Node) → valid n ≡ false → verdict_number (perform c n).verdict ≡ 13
unfolding perform start start_plan start_verdict poll deliver deliver_verdict holds send frames.sending receive verified
invalid (starting time timeout d) n e = rw e
invalid (polling time) n e = rw e
invalid (delivering delivery time payload) n e = rw e
invalid (asking time) n e = rw e
invalid (sending type) n e =
    ap (λ (b : Bool). verdict_number (cond b (sent_by n (sets.sending n.sets type)) (unsent n)).answer.verdict) e
invalid (receiving type identifier) n e = rw e
invalid (reporting type identifier) n e = rw e

-- ---- making
made_by :
    (r o : Bool) (m : Node) →
    verdict_number (cond r (cond o (record { verdict = Ok tt; node = m }) unmade) unmade).verdict ≡ refused_if (not (r && o)) 13
made_by false o m = refl
made_by true false m = refl
made_by true true m = refl

made-number :
    (version : Version) (role : ℕ) (network : HeldOctets) →
    verdict_number (made version role network).verdict ≡ refused_if (not (valid_role role && valid_octets network)) 13
unfolding made
made-number version role network = made_by (valid_role role) (valid_octets network) _

-- ---- starting
written-by : (w : Result ℕ Refusal) (n m : Node) → verdict_number (started_by w n m).verdict ≡ in_order (written_number w ∷ [])
written-by (Err k) n m = sym (refused-first k [])
written-by (Ok l) n m = refl

module _ (n m : Node) (p : Plan) (d : List ℕ) where
  abbrev start_by : Bool → Bool → Bool → Verdict
  start_by l w f =
      cond l (cond w (Err refusal.Phase) (cond f (Ok tt) (Err refusal.Range)))
      (Err refusal.Clock)

  start-by :
      (l w f : Bool) →
      verdict_number (started_by (answer (plan_by (start_by l w f) p) d) n m).verdict
      ≡ in_order (refused_if (not l) 11 ∷ refused_if w 16 ∷ refused_if (not f) 13 ∷ written_number (answer p d) ∷ [])
  start-by false w f = refl
  start-by true true f = refl
  start-by true false false = refl
  start-by true false true = written-by (answer p d) n m

start-number :
    (n : Node) (time timeout : ℕ) (d : List ℕ) →
    verdict_number (start n time timeout d).verdict
    ≡ in_order
    (refused_if (not (valid n)) 13
    ∷ refused_if (early n time) 11
    ∷ refused_if (waits n) 16
    ∷ refused_if (not (first_timeout timeout)) 13
    ∷ written_number (answer (request_plan n.version (request_of n)) d)
    ∷ [])
unfolding start start_plan start_verdict may_start
start-number n time timeout d = go (valid n) refl
  where
    tests : List ℕ
    tests =
        refused_if (early n time) 11
        ∷ refused_if (waits n) 16
        ∷ refused_if (not (first_timeout timeout)) 13
        ∷ written_number (answer (request_plan n.version (request_of n)) d)
        ∷ []

    go :
        (v : Bool) → valid n ≡ v →
        verdict_number
        (started_by (answer
        (plan_by (cond v (may_start n.attempt time timeout) (Err refusal.Range)) (request_plan n.version (request_of n))) d) n
        (started_from n time timeout)).verdict
        ≡ in_order (refused_if (not v) 13 ∷ tests)
    go false e = refl
    go true e =
        rw (attempt-valid n e)
        (start-by n (started_from n time timeout) (request_plan n.version (request_of n)) d (leb (clock_of n) time) (waits n)
        (first_timeout timeout))

start-wrote :
    (w : Result ℕ Refusal) (n m : Node) → (started_by w n m).verdict ≡ Ok tt → w ≡ Ok (started_by w n m).length
start-wrote (Err k) n m e = refused-not k e
start-wrote (Ok l) n m e = refl

start-length :
    (n : Node) (time timeout : ℕ) (d : List ℕ) → (start n time timeout d).verdict ≡ Ok tt →
    answer (request_plan n.version (request_of n)) d ≡ Ok (start n time timeout d).length
unfolding start start_plan
start-length n time timeout d = go (start_verdict n time timeout)
  where
    go :
        (v : Verdict) → (started_by (answer (plan_by v (request_plan n.version (request_of n))) d) n (started_from n time timeout)).verdict
        ≡ Ok tt →
        answer (request_plan n.version (request_of n)) d
        ≡ Ok (started_by (answer (plan_by v (request_plan n.version (request_of n))) d) n (started_from n time timeout)).length
    go (Err k) e = refused-not k e
    go (Ok tt) e = start-wrote (answer (request_plan n.version (request_of n)) d) n (started_from n time timeout) e

-- ---- polling: the answer, test by test
abbrev due_by : Bool → Bool → Bool → Bool → Bool → Bool → Result Due Refusal
due_by v f l w t c =
    cond v
    (cond f
    (cond l
    (cond w (cond t (cond c (Ok due.SendAgain) (Ok due.GaveUp)) (Ok due.NotYet)) (Err refusal.Phase))
    (Err refusal.Clock))
    (Err refusal.Range))
    (Err refusal.Range)

poll-tests :
    (n : Node) (time : ℕ) →
    (poll n time).due
    ≡ due_by (valid n) (joinable.valid n.attempt) (leb (clock_of n) time) (waits n) (reached n time) (ltb n.attempt.count 4)
unfolding poll joining.poll stepped
poll-tests n time =
    let a = n.attempt in
    let again = attempt a.phase time time (2 * a.timeout) (a.count + 1) in
    let over = attempt phase.GaveUp time a.sent a.timeout a.count in
    let still = attempt a.phase time a.sent a.timeout a.count in
    go again over still (valid n) (joinable.valid a) (leb (clock_of n) time) (waits n) (reached n time) (ltb a.count 4)
  where
    go :
        (again over still : Attempt) (v f l w t c : Bool) →
        (cond v
        (polled_by n
        (cond f
        (cond l
        (cond w (cond t (cond c (step (Ok due.SendAgain) again) (step (Ok due.GaveUp) over)) (step (Ok due.NotYet) still))
        (step (Err refusal.Phase) n.attempt))
        (step (Err refusal.Clock) n.attempt))
        (step (Err refusal.Range) n.attempt)))
        (polled (Err refusal.Range) n)).due
        ≡ due_by v f l w t c
    go again over still false f l w t c = refl
    go again over still true false l w t c = refl
    go again over still true true false w t c = refl
    go again over still true true true false t c = refl
    go again over still true true true true false c = refl
    go again over still true true true true true false = refl
    go again over still true true true true true true = refl

-- a valid node's attempt is valid, and its counter at most 4
poll-by : (n : Node) (time : ℕ)
    → (poll n time).due ≡ due_by (valid n) true (leb (clock_of n) time) (waits n) (reached n time) (ltb n.attempt.count 4)
poll-by n time = poll-tests n time ∙ go (valid n) (joinable.valid n.attempt) (attempt-valid n)
  where
    go :
        (v f : Bool) → (v ≡ true → f ≡ true) →
        due_by v f (leb (clock_of n) time) (waits n) (reached n time) (ltb n.attempt.count 4)
        ≡ due_by v true (leb (clock_of n) time) (waits n) (reached n time) (ltb n.attempt.count 4)
    go false f h = refl
    go true true h = refl
    go true false h = never false (h refl) refl

at-four : (count : ℕ) → count ≤ 4 → not (ltb count 4) ≡ eqb count 4
at-four count h = go (ltb count 4) refl
  where
    go : (b : Bool) → ltb count 4 ≡ b → not b ≡ eqb count 4
    go true e = sym (ne_eqb count 4 (λ q. absurd (omega (arith, ltb-true count 4 e, q))))
    go false e = sym (eq-eqb count 4 (omega (arith, ltb-false count 4 e)))

number_by : (v l w t c : Bool)
    → due_number (due_by v true l w t c) ≡ in_order (refused_if (not v) 13 ∷ refused_if (not l) 11 ∷ refused_if (not w) 16 ∷ [])
number_by false l w t c = refl
number_by true false w t c = refl
number_by true true false t c = refl
number_by true true true false c = refl
number_by true true true true false = refl
number_by true true true true true = refl

still-by : (v l w t c : Bool) → not_yet (due_by v true l w t c) ≡ ((v && not (not l) && w) && not t)
still-by false l w t c = refl
still-by true false w t c = refl
still-by true true false t c = refl
still-by true true true false c = refl
still-by true true true true false = refl
still-by true true true true true = refl

again_by : (v l w t c : Bool) → sends_again (due_by v true l w t c) ≡ (((v && not (not l) && w) && t) && c)
again_by false l w t c = refl
again_by true false w t c = refl
again_by true true false t c = refl
again_by true true true false c = refl
again_by true true true true false = refl
again_by true true true true true = refl

over_by : (v l w t c e : Bool) → (v ≡ true → not c ≡ e) → gives_up (due_by v true l w t c) ≡ (((v && not (not l) && w) && t) && e)
over_by false l w t c e h = refl
over_by true false w t c e h = refl
over_by true true false t c e h = refl
over_by true true true false c e h = refl
over_by true true true true false e h = h refl
over_by true true true true true e h = h refl

module _ (n : Node) (time : ℕ) where
  abbrev l : Bool
  l = leb (clock_of n) time

  abbrev c : Bool
  c = ltb n.attempt.count 4

  poll-number : due_number (poll n time).due
      ≡ in_order (refused_if (not (valid n)) 13 ∷ refused_if (early n time) 11 ∷ refused_if (not (waits n)) 16 ∷ [])
  poll-number = ap due_number (poll-by n time) ∙ number_by (valid n) l (waits n) (reached n time) c

  not_yet_lem : not_yet (poll n time).due ≡ (is_polled n time && not (reached n time))
  not_yet_lem = ap not_yet (poll-by n time) ∙ still-by (valid n) l (waits n) (reached n time) c

  sends-again : sends_again (poll n time).due ≡ (is_due n time && ltb n.attempt.count 4)
  sends-again = ap sends_again (poll-by n time) ∙ again_by (valid n) l (waits n) (reached n time) c

  gives_up_lem : gives_up (poll n time).due ≡ (is_due n time && eqb n.attempt.count 4)
  gives_up_lem =
      ap gives_up (poll-by n time)
      ∙ over_by (valid n) l (waits n) (reached n time) c (eqb n.attempt.count 4)
      (λ v. at-four n.attempt.count (count-valid n.attempt (attempt-valid n v)))

-- ---- deliveries
one_left : (b : Bool) → verdict_number (placed_as b) ≡ in_order (refused_if b 10 ∷ [])
one_left true = refl
one_left false = refl

placed_by_lem :
    (v : Verdict) (delivery : Delivery) (n : Node) (time : ℕ) (c : Configuration) (s : KeySets) →
    verdict_number (placed_by v delivery n time c s).verdict ≡ verdict_number v
placed_by_lem (Err k) delivery n time c s = refl
placed_by_lem (Ok tt) delivery n time c s = refl

module _ (delivery : Delivery) (n : Node) (time : ℕ) where
  abbrev last : Configuration → List ℕ
  last c =
      refused_if (owes_identifier delivery n c.network.disposition) 9
      ∷ refused_if (by_version n.version (clashes n c.keys) false) 10
      ∷ []

  apply-number :
      (c : Configuration) → keys_in_range c.keys ≡ true →
      verdict_number (apply delivery n time c).verdict
      ≡ in_order (refused_if (owes_identifier delivery n c.network.disposition) 9 ∷ refused_if (clashes n c.keys) 10 ∷ [])
  unfolding apply
  apply-number c h = go (owes_identifier delivery n c.network.disposition)
    where
      place :
          verdict_number (placed_by (placement_of n c.keys).verdict delivery n time c (placement_of n c.keys).sets).verdict
          ≡ in_order (refused_if (clashes n c.keys) 10 ∷ [])
      place =
          placed_by_lem (placement_of n c.keys).verdict delivery n time c (placement_of n c.keys).sets
          ∙ ap verdict_number (placed-verdict n c h)
          ∙ one_left (clashes n c.keys)

      go :
          (o : Bool) →
          verdict_number
          (cond o (undelivered refusal.Owed n)
          (placed_by (placement_of n c.keys).verdict delivery n time c (placement_of n c.keys).sets)).verdict
          ≡ in_order (refused_if o 9 ∷ refused_if (clashes n c.keys) 10 ∷ [])
      go true = refl
      go false = place

  -- in the published form a set that clashes is left out
  fitted-clashes :
      (c : Configuration) → keys_in_range c.keys ≡ true → clashes n (fitted n c).keys ≡ by_version n.version (clashes n c.keys) false
  fitted-clashes c h = ap (λ (d : Configuration). clashes n d.keys) (fitted-as n c h) ∙ go n.version (clashes n c.keys) refl
    where
      go :
          (v : Version) (clash : Bool) → clashes n c.keys ≡ clash →
          clashes n (by_version v c (fitted_by (placed_as clash) c)).keys ≡ by_version v clash false
      go Draft clash e = e
      go Published true e = refl
      go Published false e = e

  fitted-number : (c : Configuration) → keys_in_range c.keys ≡ true
      → verdict_number (apply delivery n time (fitted n c)).verdict ≡ in_order (last c)
  fitted-number c h = apply-number (fitted n c) (fitted-keys n c h) ∙ rw (fitted-network n c, fitted-clashes c h)

  read_number :
      (v : Verdict) (c : Configuration) → (v ≡ Ok tt → keys_in_range c.keys ≡ true) →
      verdict_number (apply_read v delivery n time c).verdict ≡ in_order (verdict_number v ∷ last c)
  read_number (Err k) c h = sym (refused-first k (last c))
  read_number (Ok tt) c h = fitted-number c (h refl)

  come-by :
      (l t b : Bool) (r : ConfigurationRead) → (r.verdict ≡ Ok tt → keys_in_range r.configuration.keys ≡ true) →
      verdict_number
      (deliver_by
      (cond l (cond t (cond b (Ok tt) (Err refusal.Phase)) (Err refusal.Clock))
      (Err refusal.Long))
      delivery n time r).verdict
      ≡ in_order (refused_if (not l) 15 ∷ refused_if (not t) 11 ∷ refused_if (not b) 16 ∷ verdict_number r.verdict ∷ last r.configuration)
  come-by false t b r h = refl
  come-by true false b r h = refl
  come-by true true false r h = refl
  come-by true true true r h = read_number r.verdict r.configuration h

  delivery-number :
      ReadsInRange → (payload : List ℕ) →
      verdict_number (deliver delivery n time payload).verdict
      ≡ in_order
      (refused_if (not (valid n)) 13
      ∷ refused_if (not (leb (length payload) 256)) 15
      ∷ refused_if (early n time) 11
      ∷ refused_if (not (belongs delivery n.attempt.phase)) 16
      ∷ verdict_number (read_for n payload).verdict
      ∷ last (read_for n payload).configuration)
  unfolding deliver deliver_verdict may_come
  delivery-number R payload = go (valid n) refl
    where
      rest : List ℕ
      rest =
          refused_if (not (leb (length payload) 256)) 15
          ∷ refused_if (early n time) 11
          ∷ refused_if (not (belongs delivery n.attempt.phase)) 16
          ∷ verdict_number (read_for n payload).verdict
          ∷ last (read_for n payload).configuration

      go :
          (v : Bool) → valid n ≡ v →
          verdict_number
          (deliver_by (cond v (may_come delivery n.attempt time (length payload)) (Err refusal.Range)) delivery n time
          (read_for n payload)).verdict
          ≡ in_order (refused_if (not v) 13 ∷ rest)
      go false e = refl
      go true e =
          rw (attempt-valid n e)
          (come-by (leb (length payload) 256) (leb (clock_of n) time) (belongs delivery n.attempt.phase) (read_for n payload)
          (λ a. (R n.version payload a).keys))

  clash-discarded :
      ReadsInRange → (payload : List ℕ) → (deliver delivery n time payload).verdict ≡ Ok tt → n.version ≡ Published →
      clashes n (read_for n payload).configuration.keys ≡ true → (deliver delivery n time payload).dispositions.keys ≡ Discarded
  unfolding dispositions_of
  clash-discarded R payload a p e =
      ap (λ (r : Dispositions). r.keys) (accepted-reports delivery n time payload a)
      ∙ ap (λ (k : KeysParameter). k.disposition)
      (clashing n (read_for n payload).configuration (R n.version payload (accepted-reading delivery n time payload a)).keys p e).keys

-- ---- the question whether the address holds
held_number :
    (v l h : Bool) →
    holding_number (cond v (cond l (cond h (Ok holding.Valid) (Ok holding.Expired)) (Err refusal.Clock)) (Err refusal.Range))
    ≡ in_order (refused_if (not v) 13 ∷ refused_if (not l) 11 ∷ [])
held_number false l h = refl
held_number true false h = refl
held_number true true false = refl
held_number true true true = refl

held_by :
    (v l h : Bool) →
    holds_now (cond v (cond l (cond h (Ok holding.Valid) (Ok holding.Expired)) (Err refusal.Clock)) (Err refusal.Range))
    ≡ (v && not (not l) && h)
held_by false l h = refl
held_by true false h = refl
held_by true true false = refl
held_by true true true = refl

holding-number :
    (n : Node) (time : ℕ) → holding_number (holds n time) ≡ in_order (refused_if (not (valid n)) 13 ∷ refused_if (early n time) 11 ∷ [])
unfolding holds
holding-number n time = held_number (valid n) (leb (clock_of n) time) (holds_at n.version n.address time)

holds-now : (n : Node) (time : ℕ) → holds_now (holds n time) ≡ (valid n && not (early n time) && holds_at n.version n.address time)
unfolding holds
holds-now n time = held_by (valid n) (leb (clock_of n) time) (holds_at n.version n.address time)

-- ---- frames
abbrev answered : Bool → Bool → KeyAnswer → KeyAnswer
answered v t x = cond v (cond t x (without_key refusal.Range)) (without_key refusal.Range)

-- one that is accepted has passed both tests
passed : (v t : Bool) (x : KeyAnswer) → (answered v t x).verdict ≡ Ok tt → (answered v t x ≡ x) × (x.verdict ≡ Ok tt)
passed false t x e = refused-not refusal.Range e
passed true false x e = refused-not refusal.Range e
passed true true x e = (refl, e)

-- sending, by the answers to its tests: is the node valid, is the type known, which key serves first
abbrev sent_as : Node → Bool → Bool → Option Slot → SendResult
sent_as n v t o =
    cond v (sent_by n (cond t (sets.sent_with n.sets (taken_counter_on n.sets.active o)) (sets.unsent refusal.Range n.sets)))
    (unsent n)

sent_is : CounterLaws → (n : Node) (type : ℕ)
    → frames.sending n type ≡ sent_as n (valid n) (known_type type) (first_serving type n.sets.active)
unfolding frames.sending sets.sending
sent_is C n type =
    ap
    (λ (x : TakenCounter). cond (valid n)
    (sent_by n (cond (known_type type) (sets.sent_with n.sets x) (sets.unsent refusal.Range n.sets))) (unsent n))
    (C.spend-first type n.sets.active)

sent-number :
    (n : Node) (v t : Bool) (o : Option Slot) →
    verdict_number (sent_as n v t o).answer.verdict
    ≡ in_order (refused_if (not v) 13 ∷ refused_if (not t) 13 ∷ refused_if (is_missing o) 14 ∷ [])
sent-number n false t o = refl
sent-number n true false o = refl
sent-number n true true none = refl
sent-number n true true (some x) = refl

send-number :
    CounterLaws → (n : Node) (type : ℕ) →
    verdict_number (send n type).verdict
    ≡ in_order
    (refused_if (not (valid n)) 13 ∷ refused_if (not (known_type type)) 13
    ∷ refused_if (is_missing (first_serving type n.sets.active)) 14 ∷ [])
unfolding send
send-number C n type =
    ap (λ (x : SendResult). verdict_number x.answer.verdict) (sent_is C n type)
    ∙ sent-number n (valid n) (known_type type) (first_serving type n.sets.active)

received-number :
    (type : ℕ) (v t : Bool) (o : Option Key) →
    verdict_number (answered v t (if_covers type o)).verdict
    ≡ in_order (refused_if (not v) 13 ∷ refused_if (not t) 13 ∷ refused_if (is_uncovered type o) 14 ∷ [])
received-number type false t o = refl
received-number type true false o = refl
received-number type true true none = refl
received-number type true true (some k) = go (covers k type)
  where
    go : (b : Bool) → verdict_number (cond b (with_key k) (without_key refusal.Silent)).verdict ≡ in_order (refused_if (not b) 14 ∷ [])
    go true = refl
    go false = refl

received-key : (type : ℕ) (o : Option Key) → (if_covers type o).verdict ≡ Ok tt → o ≡ some (if_covers type o).key
received-key type none e = refused-not refusal.Silent e
received-key type (some k) e = go (covers k type) e
  where
    go :
        (b : Bool) → (cond b (with_key k) (without_key refusal.Silent)).verdict ≡ Ok tt →
        some k ≡ some (cond b (with_key k) (without_key refusal.Silent)).key
    go true f = refl
    go false f = refused-not refusal.Silent f

module _ (n : Node) (type identifier : ℕ) where
  receive-number :
      verdict_number (receive n type identifier).verdict
      ≡ in_order
      (refused_if (not (valid n)) 13
      ∷ refused_if (not (known_type type && not (eqb identifier 0))) 13
      ∷ refused_if (is_uncovered type (held_key n.sets identifier)) 14
      ∷ [])
  unfolding receive receiving_key
  receive-number = received-number type (valid n) (known_type type && not (eqb identifier 0)) (held_key n.sets identifier)

  receive-key : (receive n type identifier).verdict ≡ Ok tt → held_key n.sets identifier ≡ some (receive n type identifier).key
  unfolding receive receiving_key
  receive-key e =
      let p = passed (valid n) (known_type type && not (eqb identifier 0)) (if_covers type (held_key n.sets identifier)) e in
      received-key type (held_key n.sets identifier) p.1 ∙ ap (λ (y : KeyAnswer). some y.key) (sym p.0)

  -- the report, by the verdict of receiving and by whether the identifier is active
  effect-by : (v : Verdict) (h : Bool) → change_number (effect_by v h n.sets).change ≡ verdict_number v
  effect-by (Err k) h = refl
  effect-by (Ok tt) true = refl
  effect-by (Ok tt) false = refl

  switched-by : (v : Verdict) (h : Bool) → has_switched (effect_by v h n.sets).change ≡ (is_accepted v && not h)
  switched-by (Err k) h = refl
  switched-by (Ok tt) true = refl
  switched-by (Ok tt) false = refl

  kept_by : (v : Verdict) (h : Bool) → has_kept (effect_by v h n.sets).change ≡ (is_accepted v && h)
  kept_by (Err k) h = refl
  kept_by (Ok tt) true = refl
  kept_by (Ok tt) false = refl

  abbrev receive_by : Bool → KeyAnswer
  receive_by b = cond b (receiving_key n.sets type identifier) (without_key refusal.Range)

  abbrev active : Bool
  active = has identifier (active_of n)

  abbrev report_by : Bool → VerifyResult
  report_by b = cond b (reported_by n (verified_in n.sets type identifier)) (reported (Err refusal.Range) n)

  report-number : change_number (verified n type identifier).change ≡ verdict_number (receive n type identifier).verdict
  unfolding verified verified_in receive
  report-number = go (valid n)
    where
      go : (b : Bool) → change_number (report_by b).change ≡ verdict_number (receive_by b).verdict
      go true = effect-by (receiving_key n.sets type identifier).verdict active
      go false = refl

  has-switched :
      has_switched (verified n type identifier).change
      ≡ (is_accepted (receive n type identifier).verdict && not (has identifier (active_of n)))
  unfolding verified verified_in receive
  has-switched = go (valid n)
    where
      go : (b : Bool) → has_switched (report_by b).change ≡ (is_accepted (receive_by b).verdict && not active)
      go true = switched-by (receiving_key n.sets type identifier).verdict active
      go false = refl

  has_kept_lem :
      has_kept (verified n type identifier).change
      ≡ (is_accepted (receive n type identifier).verdict && has identifier (active_of n))
  unfolding verified verified_in receive
  has_kept_lem = go (valid n)
    where
      go : (b : Bool) → has_kept (report_by b).change ≡ (is_accepted (receive_by b).verdict && active)
      go true = kept_by (receiving_key n.sets type identifier).verdict active
      go false = refl

pub answers-say : CounterLaws → ReadsInRange → HeadLaws → ListLaws → AnswersSay
answers-say C R H L = record {
  invalid = invalid;
  made-number = made-number;
  start-number = start-number;
  request-number = λ n d v. request-number H L n v d;
  request-short = λ n v. short H L n v;
  poll-number = poll-number;
  delivery-number = λ delivery n time payload. delivery-number delivery n time R payload;
  holding-number = holding-number;
  send-number = send-number C;
  receive-number = receive-number;
  report-number = report-number;
  start-length = start-length;
  not_yet_lem = not_yet_lem;
  sends-again = sends-again;
  gives_up_lem = gives_up_lem;
  delivery-reports = accepted-reports;
  clash-discarded = λ delivery n time payload. clash-discarded delivery n time R payload;
  holds-now = holds-now;
  send-counts = send-counts C;
  receive-key = receive-key;
  has-switched = has-switched;
  has_kept_lem = has_kept_lem;
}
