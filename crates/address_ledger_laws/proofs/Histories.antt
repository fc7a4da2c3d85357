-- The laws over histories: at every moment the holdings by the history are those that the places show. No proof here looks at the count or
-- the summary that a call is handed, beyond where the summary leads: to a free place.
use Rattle.std.specs.Prelude.{Result, Ok, Err}
use Rattle.refusal.specs.declared.Refusal.{Refusal}
use Prim.Native.Nat.{ℕ, zero, suc, ◌+◌, ◌*◌, ◌≤◌, ◌<◌}
use mathlib.Core.Path.{◌≡◌, refl, sym, ap, subst, ◌∙◌}
use mathlib.Core.Bool.{true, false}
use mathlib.Core.List.{List, [], ◌∷◌}
use native.Mathlib.Omega.{arith}
use borrow.Author.Tests.{lt-ltb, ltb-true, ltb-false, eqb-true, ne_eqb}
use lib.Dec.{eqb}
use lib.ListN.{length, get_or, drop}
use lib.Seq.{get_or-drop}
use Rattle.address_slots.specs.SlotLemmas.{length-slots}
use Rattle.lemmas.specs.logic.Tests.{both_true}
use Rattle.refusal.specs.declared.Refusal.TheVariants.{Unknown}
use Rattle.address_slots.specs.Slot.{Slot, slot_at, slots, lowest, has, held_by, count_free, slot_found, hold, freed}
use Rattle.address_slots.specs.Marks.{summary_of, slot_found_by}
use Rattle.address_ledger.specs.range.Range.{judged, counted}
use Rattle.address_ledger.specs.Ledger.{Outcome, outcome, counted_of, places_of, judged_of, with_summary, fewer, more, opened}
use Rattle.address_ledger.specs.Ledger.{granting, granted_by, granted, giving_back, given_back_by, given_back, free_count}
use Rattle.address_ledger.specs.declared.ledger.Ledger.{Ledger}
use Rattle.address_slots.specs.declared.slot.SlotFound.{SlotFound}
use Rattle.address_slots.specs.declared.slot.SlotFound.TheVariants.{Held, Free, Nothing}
use Rattle.address_ledger.proofs.range.Judged.{usable, within-limits}
use Rattle.address_slots.proofs.Found.{held-is}
use Rattle.address_slots.proofs.Offers.{held-told, free-told, free-inside-of}
use Rattle.address_ledger.proofs.Calls.{open-accepted, grant-accepted, back-accepted, free-within}
use Rattle.address_ledger_laws.specs.Counts.{RightCount}
use Rattle.address_ledger_laws.specs.History.{Call, opens, asks, gives, counts, hands, Holding, listed, address_of}
use Rattle.address_ledger_laws.specs.History.{after_ask, after_give, Moment, step, run, after, whole_boards, threaded, Begins}
use Rattle.address_ledger_laws.specs.Laws.{HeldAndFree, OneHolder, SameAgain, GivesBack}
use Rattle.address_ledger_laws.proofs.Bytes.{length-hold, places-hold, length-freed, places-freed, cleared, cleared-free}
use Rattle.address_ledger_laws.proofs.Holders.{held_from, listed-held, strike-held, enter-held}
use Rattle.address_ledger_laws.proofs.Holders.{held-and-free, one-holder, address-held}
use Rattle.address_ledger_laws.proofs.Kept.{right-stays}
use Rattle.address_ledger_laws.proofs.Validity.{stands}

-- the ledger that opening gives
abbrev pub right_ledger : ℕ → ℕ → List ℕ → Ledger
right_ledger first size m = with_summary first size (summary_of (slots (counted first size) m))

pub opened-is : (first size : ℕ) (m : List ℕ) → Ok tt ≡ judged first size (length m)
    → (opened first size m).ledger ≡ right_ledger first size m
opened-is first size m f = rw (← open-accepted first size m f (counted first size) refl (summary_of (slots (counted first size) m)) refl)

-- the history lists a board exactly where a place is held by it
pub lists : (first : ℕ) (b : List ℕ) (ps : List Slot) (hs : List Holding) → hs ≡ held_from first ps → listed b hs ≡ has (held_by b) ps
unfolding has
lists first b ps hs t = rw t (listed-held first b ps)

-- what a call leaves: memory as long as before, the range, and the holdings that the places show
record Told (l : Ledger) (m : List ℕ) (next : Result ℕ Refusal → List Holding) (o : Outcome) : Type 0 where
  long : length o.memory ≡ length m
  starts : o.ledger.first ≡ l.first
  sized : o.ledger.size ≡ l.size
  tells : next o.answer ≡ held_from l.first (places_of l o.memory)

module _ (l : Ledger) (b m : List ℕ) (hs : List Holding) (f : Ok tt ≡ judged_of l m) (t : hs ≡ held_from l.first (places_of l m)) where
  room : 9 * counted_of l ≤ length m
  room = (usable l.first l.size (length m) f (counted_of l) refl).room

  ask-held : (k : ℕ) → Held k ≡ slot_found_by l.summary b (places_of l m)
      → Told l m (λ (r : Result ℕ Refusal). after_ask b r hs) (outcome (Ok (l.first + k)) l m)
  unfolding after_ask has
  ask-held k s =
      let i = held-told l.summary b (places_of l m) k s in
      let w : has (held_by b) (places_of l m) ≡ true =
      lt-ltb (lowest (held_by b) (places_of l m)) (length (places_of l m)) (omega (arith, i.0, i.1)) in
      record { long = refl; starts = refl; sized = refl; tells = rw (lists l.first b (places_of l m) hs t, w) t }

  ask-free : length b ≡ 8 → (k : ℕ) → Free k ≡ slot_found_by l.summary b (places_of l m)
      → Told l m (λ (r : Result ℕ Refusal). after_ask b r hs)
      (outcome (Ok (l.first + k)) (fewer (counted_of l) k (hold m k b) l) (hold m k b))
  unfolding after_ask
  ask-free e k s =
      let n = counted_of l in
      let i = free-told l.summary b (places_of l m) k s in
      let w = free-inside-of l.summary b (counted_of l) m k s in
      record {
        long = length-hold m b k (omega (arith, room, w)) e;
        starts = refl;
        sized = refl;
        tells =
            rw (lists l.first b (places_of l m) hs t, i.1, t, places-hold n k m b w room e)
            (enter-held l.first b (places_of l m) k i.0);
      }

  ask-by : length b ≡ 8 → (s : SlotFound) → s ≡ slot_found_by l.summary b (places_of l m)
      → Told l m (λ (r : Result ℕ Refusal). after_ask b r hs) (granting (counted_of l) l m b s)
  unfolding granting after_ask
  ask-by e (Held k) s = ask-held k s
  ask-by e (Free k) s = ask-free e k s
  ask-by e Nothing s = record { long = refl; starts = refl; sized = refl; tells = t }

  asked : length b ≡ 8 → Told l m (λ (r : Result ℕ Refusal). after_ask b r hs) (granted l m b)
  asked e = rw (← grant-accepted l m b f (counted_of l) refl _ refl) (ask-by e _ refl)

  give-held : (k : ℕ) → Held k ≡ slot_found b (places_of l m)
      → Told l m (λ (r : Result ℕ Refusal). after_give b r hs)
      (outcome (Ok (l.first + k)) (more (counted_of l) k (freed m k) l) (freed m k))
  unfolding after_give
  give-held k s =
      let i = held-is b (places_of l m) k s in
      let w : k < counted_of l = omega (arith, i.1, length-slots (counted_of l) m) in
      record {
        long = length-freed m k;
        starts = refl;
        sized = refl;
        tells =
            rw (t, places-freed (counted_of l) k m w room, i.0)
            (strike-held l.first b (cleared (drop (9 * lowest (held_by b) (places_of l m)) m)) (places_of l m)
            (cleared-free (drop (9 * lowest (held_by b) (places_of l m)) m)) (omega (arith, i.0, i.1)));
      }

  give-by : (s : SlotFound) → s ≡ slot_found b (places_of l m)
      → Told l m (λ (r : Result ℕ Refusal). after_give b r hs) (giving_back (counted_of l) l m s)
  unfolding giving_back after_give
  give-by (Held k) s = give-held k s
  give-by (Free k) s = record { long = refl; starts = refl; sized = refl; tells = t }
  give-by Nothing s = record { long = refl; starts = refl; sized = refl; tells = t }

  gave : Told l m (λ (r : Result ℕ Refusal). after_give b r hs) (given_back l m b)
  gave = rw (← back-accepted l m b f (counted_of l) refl _ refl) (give-by _ refl)

-- a moment at which the history and the places tell the same; the ledger has the range, with any count and any summary
pub record Agrees (first size : ℕ) (s : Moment) : Type 0 where
  pub accepted : Ok tt ≡ judged first size (length s.memory)
  pub starts : s.ledger.first ≡ first
  pub sized : s.ledger.size ≡ size
  pub tells : s.holding ≡ held_from first (slots (counted first size) s.memory)

-- said of the range that the ledger itself has
pub own_range : (first size : ℕ) (s : Moment) → Agrees first size s → Agrees s.ledger.first s.ledger.size s
own_range first size s a =
    subst (λ (x : ℕ). Agrees x s.ledger.size s) (sym a.starts) (subst (λ (y : ℕ). Agrees first y s) (sym a.sized) a)

-- what the places of the ledger's range show, said of the range
in-range : (first size : ℕ) (l : Ledger) (m : List ℕ) → l.first ≡ first → l.size ≡ size
    → held_from l.first (places_of l m) ≡ held_from first (slots (counted first size) m)
in-range first size l m e f =
    ap (λ (x : ℕ). held_from x (slots (counted x l.size) m)) e ∙ ap (λ (y : ℕ). held_from first (slots (counted first y) m)) f

asks-agrees : (first size : ℕ) (s : Moment) (b : List ℕ) → length b ≡ 8 → Agrees first size s
    → Agrees first size (step first size s (asks b))
unfolding step
asks-agrees first size s b e a =
    let o = own_range first size s a in
    let p = asked s.ledger b s.memory s.holding o.accepted o.tells e in
    record {
      accepted = rw p.long a.accepted;
      starts = p.starts ∙ a.starts;
      sized = p.sized ∙ a.sized;
      tells = p.tells ∙ in-range first size s.ledger _ a.starts a.sized;
    }

pub gives-agrees : (first size : ℕ) (s : Moment) (b : List ℕ) → Agrees first size s → Agrees first size (step first size s (gives b))
unfolding step
gives-agrees first size s b a =
    let o = own_range first size s a in
    let p = gave s.ledger b s.memory s.holding o.accepted o.tells in
    record {
      accepted = rw p.long a.accepted;
      starts = p.starts ∙ a.starts;
      sized = p.sized ∙ a.sized;
      tells = p.tells ∙ in-range first size s.ledger _ a.starts a.sized;
    }

-- opening keeps to the range
opens-agrees : (first size : ℕ) (m : List ℕ) (hs : List Holding) → Ok tt ≡ judged first size (length m)
    → hs ≡ held_from first (slots (counted first size) m)
    → Agrees first size (record { ledger = (opened first size m).ledger; memory = m; holding = hs })
opens-agrees first size m hs f t =
    let e = opened-is first size m f in
    record { accepted = f; starts = ap (λ (l : Ledger). l.first) e; sized = ap (λ (l : Ledger). l.size) e; tells = t }

run-agrees : (first size : ℕ) (s : Moment) (cs : List Call) → whole_boards cs ≡ true → Agrees first size s
    → Agrees first size (run first size s cs)
unfolding run step whole_boards
run-agrees first size s [] w a = a
run-agrees first size s (opens ∷ cs) w a =
    run-agrees first size (step first size s opens) cs w (opens-agrees first size s.memory s.holding a.accepted a.tells)
run-agrees first size s (asks b ∷ cs) w a =
    let u = both_true (eqb (length b) 8) (whole_boards cs) w in
    run-agrees first size (step first size s (asks b)) cs u.1 (asks-agrees first size s b (eqb-true (length b) 8 u.0) a)
run-agrees first size s (gives b ∷ cs) w a =
    let u = both_true (eqb (length b) 8) (whole_boards cs) w in
    run-agrees first size (step first size s (gives b)) cs u.1 (gives-agrees first size s b a)
run-agrees first size s (counts ∷ cs) w a = run-agrees first size s cs w a
run-agrees first size s (hands x y ∷ cs) w a =
    run-agrees first size (step first size s (hands x y)) cs w
    (record { accepted = a.accepted; starts = refl; sized = refl; tells = a.tells })

-- no mark 1, no holding
fresh-none : (a n : ℕ) (m : List ℕ) → ((k : ℕ) → k < n → get_or m (9 * k) 0 ≡ 1 → ⊥) → [] ≡ held_from a (slots n m)
unfolding held_from slots slot_at
fresh-none a zero m h = refl
fresh-none a (suc n) m h =
    rw (ne_eqb (get_or m 0 0) 1 (h 0 (omega arith)))
    (fresh-none (suc a) n (drop 9 m)
    (λ k l q. h (suc k) (omega arith) (let z : 9 * suc k ≡ 9 + 9 * k = omega arith in rw (z, ← get_or-drop 9 m (9 * k) 0) q)))

pub after-agrees : (first size : ℕ) (m : List ℕ) (cs : List Call) → Begins first size m cs → Agrees first size (after first size m cs)
unfolding after
after-agrees first size m cs w =
    run-agrees first size (record { ledger = (opened first size m).ledger; memory = m; holding = [] }) cs w.boards
    (opens-agrees first size m [] w.accepted (fresh-none first (counted first size) m w.fresh))

-- ---- held and free
-- where each call is handed the ledger that the one before left, its count is right
run-right : (first size : ℕ) (s : Moment) (cs : List Call) → whole_boards cs ≡ true → threaded cs ≡ true
    → RightCount s.ledger s.memory
    → RightCount (run first size s cs).ledger (run first size s cs).memory
unfolding run step whole_boards threaded
run-right first size s [] w t c = c
run-right first size s (opens ∷ cs) w t c =
    run-right first size (step first size s opens) cs w t (right-stays.opens first size s.memory)
run-right first size s (asks b ∷ cs) w t c =
    let u = both_true (eqb (length b) 8) (whole_boards cs) w in
    run-right first size (step first size s (asks b)) cs u.1 t
    (right-stays.grants s.ledger s.memory b (eqb-true (length b) 8 u.0) c)
run-right first size s (gives b ∷ cs) w t c =
    let u = both_true (eqb (length b) 8) (whole_boards cs) w in
    run-right first size (step first size s (gives b)) cs u.1 t (right-stays.gives_back s.ledger s.memory b c)
run-right first size s (counts ∷ cs) w t c = run-right first size s cs w t c
run-right first size s (hands x y ∷ cs) w t c = cc

after-right : (first size : ℕ) (m : List ℕ) (cs : List Call) → Begins first size m cs → threaded cs ≡ true
    → RightCount (after first size m cs).ledger (after first size m cs).memory
unfolding after
after-right first size m cs w t =
    run-right first size (record { ledger = (opened first size m).ledger; memory = m; holding = [] }) cs w.boards t
    (right-stays.opens first size m)

module _ (first size : ℕ) (s : Moment) (a : Agrees first size s) where
  all : length s.holding + count_free (slots (counted first size) s.memory) ≡ counted first size
  all =
      rw a.tells
      (held-and-free first (slots (counted first size) s.memory) ∙ length-slots (counted first size) s.memory)

  answered : s.ledger.free ≡ count_free (slots (counted first size) s.memory)
      → free_count s.ledger ≡ Ok (count_free (slots (counted first size) s.memory))
  answered e =
      let o = own_range first size s a in
      sym (free-within s.ledger (sym (within-limits s.ledger.first s.ledger.size (length s.memory) o.accepted)))
      ∙ ap Ok e

  right : RightCount s.ledger s.memory → s.ledger.free ≡ count_free (slots (counted first size) s.memory)
  right c = rw (a.starts, a.sized) at c

pub held-plus-free : HeldAndFree
held-plus-free =
    record {
      all = λ first size m cs w. all first size (after first size m cs) (after-agrees first size m cs w);
      answered = λ first size m cs w e. answered first size (after first size m cs) (after-agrees first size m cs w) e;
      right = λ first size m cs w t.
          right first size (after first size m cs) (after-agrees first size m cs w) (after-right first size m cs w t);
    }

pub no-two-boards : OneHolder
no-two-boards =
    record {
      one = λ first size m cs w g h i j q.
          let a = after-agrees first size m cs w in
          one-holder first (slots (counted first size) (after first size m cs).memory) g h (rw a.tells at i) (rw a.tells at j) q;
      stands = λ first size m cs w h i.
          stands first (counted first size) (after first size m cs).memory h (rw (after-agrees first size m cs w).tells at i);
    }

-- ---- the board's own address, whatever the summary
module _ (l : Ledger) (b m : List ℕ) (hs : List Holding) (f : Ok tt ≡ judged_of l m) (t : hs ≡ held_from l.first (places_of l m)) where
  own-place : has (held_by b) (places_of l m) ≡ true → l.first + lowest (held_by b) (places_of l m) ≡ address_of b hs
  unfolding has
  own-place h = rw t (sym (address-held l.first b (places_of l m) (ltb-true _ _ h)))

  same-told : has (held_by b) (places_of l m) ≡ true → granted l m b ≡ outcome (Ok (address_of b hs)) l m
  unfolding granted granted_by granting slot_found_by
  same-told h = rw (← f, h, own-place h)

  own-told : has (held_by b) (places_of l m) ≡ true → (given_back l m b).answer ≡ Ok (address_of b hs)
  unfolding given_back given_back_by giving_back slot_found
  own-told h = rw (← f, h, own-place h)

  none-by : has (held_by b) (places_of l m) ≡ false → (x : SlotFound) → x ≡ slot_found b (places_of l m)
      → giving_back (counted_of l) l m x ≡ outcome (Err Unknown) l m
  unfolding giving_back has
  none-by h (Held k) x =
      let i = held-is b (places_of l m) k x in
      absurd (omega (arith, i.0, i.1, ltb-false (lowest (held_by b) (places_of l m)) (length (places_of l m)) h))
  none-by h (Free k) x = refl
  none-by h Nothing x = refl

  none_told : has (held_by b) (places_of l m) ≡ false → given_back l m b ≡ outcome (Err Unknown) l m
  none_told h = rw (← back-accepted l m b f (counted_of l) refl _ refl) (none-by h _ refl)

module _ (first size : ℕ) (s : Moment) (a : Agrees first size s) (b : List ℕ) where
  pub told : has (held_by b) (places_of s.ledger s.memory) ≡ listed b s.holding
  told =
      let o = own_range first size s a in
      sym (lists s.ledger.first b (places_of s.ledger s.memory) s.holding o.tells)

  same : listed b s.holding ≡ true
      → granted s.ledger s.memory b ≡ outcome (Ok (address_of b s.holding)) s.ledger s.memory
  same y =
      let o = own_range first size s a in
      same-told s.ledger b s.memory s.holding o.accepted o.tells (told ∙ y)

  own : listed b s.holding ≡ true → (given_back s.ledger s.memory b).answer ≡ Ok (address_of b s.holding)
  own y =
      let o = own_range first size s a in
      own-told s.ledger b s.memory s.holding o.accepted o.tells (told ∙ y)

  none : listed b s.holding ≡ false → given_back s.ledger s.memory b ≡ outcome (Err Unknown) s.ledger s.memory
  none y =
      let o = own_range first size s a in
      none_told s.ledger b s.memory s.holding o.accepted o.tells (told ∙ y)

pub same-again : SameAgain
unfolding SameAgain
same-again first size m cs w b y = same first size (after first size m cs) (after-agrees first size m cs w) b y

pub gives-own : GivesBack
gives-own =
    record {
      own = λ first size m cs w b y. own first size (after first size m cs) (after-agrees first size m cs w) b y;
      unknown = λ first size m cs w b y. none first size (after first size m cs) (after-agrees first size m cs w) b y;
    }
