-- A shift in C is a history of the ledger in which each call is handed the count and the summary of its struct; a board of another length
-- is refused and is left out of it. So the ledger's laws speak of what the program was answered.
use Rattle.std.specs.Prelude.{Result, Ok, Err}
use Prim.Native.Nat.{ℕ, ◌+◌}
use mathlib.Core.Path.{◌≡◌, refl, ap, ap₂, sym, ◌∙◌, subst}
use mathlib.Core.Bool.{Bool, true, false}
use mathlib.Core.List.{List, [], ◌∷◌, ◌++◌, Memᴰ}
use native.Mathlib.Omega.{arith}
use borrow.Author.Tests.{eq-eqb, ne_eqb}
use lib.Dec.{eqb}
use lib.ListN.{length}
use Rattle.lemmas.specs.logic.Tests.{both_true}
use Rattle.refusal.specs.Order.{in_order}
use Rattle.refusal.specs.Refusal.{number_of}
use Rattle.refusal.specs.Verdict.{verdict_number}
use Rattle.refusal.specs.RefusalLemmas.{refused-first}
use Rattle.refusal.specs.declared.Refusal.{Refusal}
use Rattle.image.specs.Effects.{on_accept}
use Rattle.image.specs.Part.{is_image}
use Rattle.address_slots.specs.Slot.{slots, count_free}
use Rattle.address_ledger.specs.range.Range.{counted}
use Rattle.address_ledger.specs.Answers.{address_verdict, address_value}
use Rattle.address_ledger.specs.Ledger.{Outcome, outcome, ledger_of, opened, granted, given_back}
use Rattle.address_ledger.specs.declared.ledger.Ledger.{Ledger}
use Rattle.address_ledger_laws.specs.Demand1.{asking, returning, perform, Demand1}
use Rattle.address_ledger_laws.specs.History as history
use Rattle.address_ledger_laws.specs.History.{Call, Holding, listed, address_of, after_ask, after_give, Moment, step, run, whole_boards, Begins}
use Rattle.address_ledger_laws.specs.Laws.{HeldAndFree, OneHolder, SameAgain}
use Rattle.state_image.specs.Ledger.{ledger_image}
use Rattle.ledger_calls.specs.Ledger.{LedgerDid, board_fits}
use Rattle.pothatch_laws.specs.LedgerHistory.{OfRange, BoardCall, asks, gives, call_of, held_after, Shift, over, then}
use Rattle.pothatch_laws.specs.LedgerHistory.{FreshMemory, LedgerHistories}

-- ---- a refusal's number is not 0
some_number : (k : Refusal) → number_of k ≡ 0 → ⊥
some_number k e =
    let f = refused-first k (1 ∷ []) in
    let g : ◌≡◌ {A = ℕ} 1 0 = subst (λ (n : ℕ). in_order (n ∷ 1 ∷ []) ≡ n) e f in
    omega arith

-- ---- histories, one behind the other
run_on : (first size : ℕ) (s : Moment) (cs ds : List Call) → run first size s (cs ++ ds) ≡ run first size (run first size s cs) ds
unfolding run
run_on first size s [] ds = refl
run_on first size s (c ∷ cs) ds = run_on first size (step first size s c) cs ds

after_on : (first size : ℕ) (m : List ℕ) (cs ds : List Call)
    → history.after first size m (cs ++ ds) ≡ run first size (history.after first size m cs) ds
unfolding history.after
after_on first size m cs ds =
    run_on first size (record { ledger = (opened first size m).ledger; memory = m; holding = [] }) cs ds

boards-on : (cs ds : List Call) → whole_boards cs ≡ true → whole_boards ds ≡ true → whole_boards (cs ++ ds) ≡ true
unfolding whole_boards
boards-on [] ds w v = v
boards-on (history.opens ∷ cs) ds w v = boards-on cs ds w v
boards-on (history.asks b ∷ cs) ds w v =
    let u = both_true (eqb (length b) 8) (whole_boards cs) w in
    rw u.0 (boards-on cs ds u.1 v)
boards-on (history.gives b ∷ cs) ds w v =
    let u = both_true (eqb (length b) 8) (whole_boards cs) w in
    rw u.0 (boards-on cs ds u.1 v)
boards-on (history.counts ∷ cs) ds w v = boards-on cs ds w v
boards-on (history.hands x y ∷ cs) ds w v = boards-on cs ds w v

-- ---- the history that a shift is
record Told (first size : ℕ) (m₀ m : List ℕ) (hs : List Holding) : Type 0 where
  calls : List Call
  boards : whole_boards calls ≡ true
  memory : (history.after first size m₀ calls).memory ≡ m
  holding : (history.after first size m₀ calls).holding ≡ hs

-- a ledger of the range, field by field
of_range : (first size : ℕ) (l : Ledger) → l.first ≡ first → l.size ≡ size → l ≡ ledger_of first size l.free l.summary
of_range first size l e f = ap₂ (λ (x y : ℕ). ledger_of x y l.free l.summary) e f

-- ---- what a call in C answered and left, where the ledger's own call answers a and leaves the memory `after`
record Did (a : Result ℕ Refusal) (after : List ℕ) (r v : ℕ) (m' : List ℕ) : Type 0 where
  memory : m' ≡ after
  number : (n : ℕ) → a ≡ Ok n → (r ≡ 0) × (v ≡ n)
  refused : (k : Refusal) → a ≡ Err k → r ≡ 0 → ⊥

did-by : (a : Result ℕ Refusal) (m after : List ℕ) {r v : ℕ} {m' : List ℕ} → ((k : Refusal) → a ≡ Err k → after ≡ m)
    → r ≡ verdict_number (address_verdict a) → m' ≡ on_accept (address_verdict a) m after → v ≡ on_accept (address_verdict a) 0 (address_value a)
    → Did a after r v m'
did-by (Ok n) m after kept e f g = record {
  memory = f;
  number = λ k q. let z : n ≡ k = cc in (e, g ∙ z);
  refused = λ k q. let z : ◌≡◌ {A = ℕ} 0 1 = cc in absurd (omega arith);
}
did-by (Err k) m after kept e f g = record {
  memory = f ∙ sym (kept k refl);
  number = λ n q. let z : ◌≡◌ {A = ℕ} 0 1 = cc in absurd (omega arith);
  refused = λ j q z. some_number k (sym e ∙ z);
}

module _ (demand1 : Demand1) (b : List ℕ) (w : eqb (length b) 8 ≡ true) {s s' m m' : List ℕ} {r v : ℕ}
    (is : is_image ledger_image s ≡ true) where
  asked-did : LedgerDid (asking b) s m r s' m' v
      → Did (granted (ledger_image.get s) m b).answer (granted (ledger_image.get s) m b).memory r v m'
  unfolding perform
  asked-did d =
      let l = ledger_image.get s in
      did-by (granted l m b).answer m (granted l m b).memory
      (λ k e. (demand1.untouched (asking b) l m k (ap address_verdict e)).memory)
      (rw (w, is) at d.number) (rw (w, is) at d.memory) (rw (w, is) at d.value)

  given-did : LedgerDid (returning b) s m r s' m' v
      → Did (given_back (ledger_image.get s) m b).answer (given_back (ledger_image.get s) m b).memory r v m'
  unfolding perform
  given-did d =
      let l = ledger_image.get s in
      did-by (given_back l m b).answer m (given_back l m b).memory
      (λ k e. (demand1.untouched (returning b) l m k (ap address_verdict e)).memory)
      (rw (w, is) at d.number) (rw (w, is) at d.memory) (rw (w, is) at d.value)

-- a board of another length is refused, and nothing is written
module _ (b : List ℕ) (w : eqb (length b) 8 ≡ false) {s s' m m' : List ℕ} {r v : ℕ} where
  asked-other : LedgerDid (asking b) s m r s' m' v → (r ≡ 13) × (m' ≡ m)
  asked-other d = (rw w at d.number, rw w at d.memory)

  given-other : LedgerDid (returning b) s m r s' m' v → (r ≡ 13) × (m' ≡ m)
  given-other d = (rw w at d.number, rw w at d.memory)

-- ---- the holdings by the numbers are those by the answer
asked-held : (b : List ℕ) (hs : List Holding) (a : Result ℕ Refusal) {after : List ℕ} {r v : ℕ} {m' : List ℕ} → Did a after r v m'
    → held_after (asks b) r v hs ≡ after_ask b a hs
unfolding after_ask
asked-held b hs (Ok n) {r = r} d =
    let p = d.number n refl in
    rw (eq-eqb r 0 p.0, p.1)
asked-held b hs (Err k) {r = r} d = rw (ne_eqb r 0 (d.refused k refl))

given-held : (b : List ℕ) (hs : List Holding) (a : Result ℕ Refusal) {after : List ℕ} {r v : ℕ} {m' : List ℕ} → Did a after r v m'
    → held_after (gives b) r v hs ≡ after_give b a hs
unfolding after_give
given-held b hs (Ok n) {r = r} d = rw (eq-eqb r 0 (d.number n refl).0)
given-held b hs (Err k) {r = r} d = rw (ne_eqb r 0 (d.refused k refl))

not-zero : (r : ℕ) → r ≡ 13 → eqb r 0 ≡ false
not-zero r e = ne_eqb r 0 (λ (z : r ≡ 0). omega arith)

-- ---- one call more
module _ (first size : ℕ) (m₀ : List ℕ) where
  -- the moment after a history and two calls more
  two-more : (cs : List Call) (c d : Call)
      → history.after first size m₀ (cs ++ (c ∷ d ∷ [])) ≡ step first size (step first size (history.after first size m₀ cs) c) d
  unfolding run
  two-more cs c d = after_on first size m₀ cs (c ∷ d ∷ [])

  -- the moment after a call on memory m and holdings hs, which was handed the count x and the summary y
  abbrev asked_at : ℕ → ℕ → List ℕ → List ℕ → List Holding → Moment
  asked_at x y b m hs = record {
    ledger = (granted (ledger_of first size x y) m b).ledger;
    memory = (granted (ledger_of first size x y) m b).memory;
    holding = after_ask b (granted (ledger_of first size x y) m b).answer hs;
  }

  abbrev given_at : ℕ → ℕ → List ℕ → List ℕ → List Holding → Moment
  given_at x y b m hs = record {
    ledger = (given_back (ledger_of first size x y) m b).ledger;
    memory = (given_back (ledger_of first size x y) m b).memory;
    holding = after_give b (given_back (ledger_of first size x y) m b).answer hs;
  }

  module _ (x y : ℕ) (b m : List ℕ) (hs : List Holding) (t : Told first size m₀ m hs) where
    asked-moment : history.after first size m₀ (t.calls ++ (history.hands x y ∷ history.asks b ∷ [])) ≡ asked_at x y b m hs
    unfolding step
    asked-moment = two-more t.calls (history.hands x y) (history.asks b) ∙ ap₂ (asked_at x y b) t.memory t.holding

    given-moment : history.after first size m₀ (t.calls ++ (history.hands x y ∷ history.gives b ∷ [])) ≡ given_at x y b m hs
    unfolding step
    given-moment = two-more t.calls (history.hands x y) (history.gives b) ∙ ap₂ (given_at x y b) t.memory t.holding

  -- a refusal of RANGE: the history stays as it is
  kept : {m m' : List ℕ} {hs : List Holding} (ks : List Holding) → Told first size m₀ m hs → m' ≡ m → ks ≡ hs → Told first size m₀ m' ks
  kept ks t e f = record { calls = t.calls; boards = t.boards; memory = t.memory ∙ sym e; holding = t.holding ∙ sym f }

  module _ (demand1 : Demand1) {s s' m m' : List ℕ} {r v : ℕ} {hs : List Holding} (g : OfRange first size s) (t : Told first size m₀ m hs)
    where
      asked-more : (b : List ℕ) → eqb (length b) 8 ≡ true → LedgerDid (asking b) s m r s' m' v
          → Told first size m₀ m' (held_after (asks b) r v hs)
      unfolding whole_boards
      asked-more b w d =
          let l = ledger_image.get s in
          let did = subst (λ (k : Ledger). Did (granted k m b).answer (granted k m b).memory r v m')
          (of_range first size l g.starts g.sized) (asked-did demand1 b w g.image d) in
          let at = asked-moment l.free l.summary b m hs t in
          record {
            calls = t.calls ++ (history.hands l.free l.summary ∷ history.asks b ∷ []);
            boards = boards-on t.calls (history.hands l.free l.summary ∷ history.asks b ∷ []) t.boards (rw w);
            memory = ap (λ (k : Moment). k.memory) at ∙ sym did.memory;
            holding = ap (λ (k : Moment). k.holding) at
                ∙ sym (asked-held b hs (granted (ledger_of first size l.free l.summary) m b).answer did);
          }

      given-more : (b : List ℕ) → eqb (length b) 8 ≡ true → LedgerDid (returning b) s m r s' m' v
          → Told first size m₀ m' (held_after (gives b) r v hs)
      unfolding whole_boards
      given-more b w d =
          let l = ledger_image.get s in
          let did = subst (λ (k : Ledger). Did (given_back k m b).answer (given_back k m b).memory r v m')
          (of_range first size l g.starts g.sized) (given-did demand1 b w g.image d) in
          let at = given-moment l.free l.summary b m hs t in
          record {
            calls = t.calls ++ (history.hands l.free l.summary ∷ history.gives b ∷ []);
            boards = boards-on t.calls (history.hands l.free l.summary ∷ history.gives b ∷ []) t.boards (rw w);
            memory = ap (λ (k : Moment). k.memory) at ∙ sym did.memory;
            holding = ap (λ (k : Moment). k.holding) at
                ∙ sym (given-held b hs (given_back (ledger_of first size l.free l.summary) m b).answer did);
          }

      more_by : (c : BoardCall) (q : Bool) → board_fits (call_of c) ≡ q → LedgerDid (call_of c) s m r s' m' v
          → Told first size m₀ m' (held_after c r v hs)
      more_by (asks b) true w d = asked-more b w d
      more_by (asks b) false w d =
          let p = asked-other b w d in
          kept (held_after (asks b) r v hs) t p.1 (rw (not-zero r p.0))
      more_by (gives b) true w d = given-more b w d
      more_by (gives b) false w d =
          let p = given-other b w d in
          kept (held_after (gives b) r v hs) t p.1 (rw (not-zero r p.0))

  shift-told : Demand1 → (cs : List BoardCall) (m : List ℕ) (hs : List Holding) (z : List ℕ) (ks : List Holding) → Told first size m₀ m hs
      → Shift first size cs m hs z ks → Told first size m₀ z ks
  shift-told demand1 cs m hs z ks t over = t
  shift-told demand1 cs m hs z ks t (then {c = c} {cs = ds} {m' = m'} {r = r} {v = v} g d rest) =
      shift-told demand1 ds m' (held_after c r v hs) z ks (more_by demand1 g t c (board_fits (call_of c)) refl d) rest

-- ---- the laws
nothing-told : (first size : ℕ) (m : List ℕ) → Told first size m m []
unfolding history.after run whole_boards
nothing-told first size m = record { calls = []; boards = refl; memory = refl; holding = refl }

module _ (demand1 : Demand1) (held : HeldAndFree) (one-holder : OneHolder) (same-again : SameAgain) where
  module _ (first size : ℕ) (m : List ℕ) (f : FreshMemory first size m) (z : List ℕ) (ks : List Holding) (t : Told first size m z ks)
    where
      begins : Begins first size m t.calls
      begins = record { accepted = f.accepted; fresh = f.fresh; boards = t.boards }

      all : length ks + count_free (slots (counted first size) z) ≡ counted first size
      all =
          subst (λ (hs : List Holding). length hs + count_free (slots (counted first size) z) ≡ counted first size) t.holding
          (subst (λ (n : List ℕ). length (history.after first size m t.calls).holding + count_free (slots (counted first size) n)
          ≡ counted first size) t.memory (held.all first size m t.calls begins))

      one : (g h : Holding) → Memᴰ g ks → Memᴰ h ks → g.address ≡ h.address → g.board ≡ h.board
      one g h i j =
          let back = sym t.holding in
          one-holder.one first size m t.calls begins g h (subst (λ (hs : List Holding). Memᴰ g hs) back i)
          (subst (λ (hs : List Holding). Memᴰ h hs) back j)

  -- the ledger of a struct of the range is that of a history which ends with its count and its summary
  module _ (first size : ℕ) (m : List ℕ) (f : FreshMemory first size m) (z : List ℕ) (ks : List Holding) (t : Told first size m z ks)
      (b s : List ℕ) (g : OfRange first size s) where
    abbrev l : Ledger
    l = ledger_image.get s

    abbrev ended : List Call
    ended = t.calls ++ (history.hands l.free l.summary ∷ [])

    abbrev handed_at : List ℕ → List Holding → Moment
    handed_at n hs = record { ledger = ledger_of first size l.free l.summary; memory = n; holding = hs }

    last : history.after first size m ended ≡ handed_at z ks
    unfolding run step
    last = after_on first size m t.calls (history.hands l.free l.summary ∷ []) ∙ ap₂ handed_at t.memory t.holding

    ended-begins : Begins first size m ended
    unfolding whole_boards
    ended-begins = record {
      accepted = f.accepted;
      fresh = f.fresh;
      boards = boards-on t.calls (history.hands l.free l.summary ∷ []) t.boards refl;
    }

    again : listed b ks ≡ true → granted l z b ≡ outcome (Ok (address_of b ks)) l z
    unfolding SameAgain
    again y =
        let p = same-again first size m ended ended-begins b (subst (λ (k : Moment). listed b k.holding ≡ true) (sym last) y) in
        let q = subst
        (λ (k : Moment). granted k.ledger k.memory b ≡ outcome (Ok (address_of b k.holding)) k.ledger k.memory) last p in
        subst (λ (k : Ledger). granted k z b ≡ outcome (Ok (address_of b ks)) k z)
        (sym (of_range first size l g.starts g.sized)) q

  pub ledger-histories : LedgerHistories
  unfolding LedgerHistories
  ledger-histories first size m cs z ks f sh =
      let t = shift-told first size m demand1 cs m [] z ks (nothing-told first size m) sh in
      record {
        all = all first size m f z ks t;
        one = one first size m f z ks t;
        same = λ b s r s' m' v e y g d.
            let a = again first size m f z ks t b s g y in
            let did = asked-did demand1 b (eq-eqb (length b) 8 e) g.image d in
            let n = did.number (address_of b ks) (ap (λ (o : Outcome). o.answer) a) in
            (n.0, n.1, did.memory ∙ ap (λ (o : Outcome). o.memory) a);
      }
