-- One call from C does to the image what the ledger's own call does to the ledger: the ledger is loaded as it was stored, and has an image
-- again after every call. Zeros are no image, so every call but an opening is RANGE on them.
use Rattle.std.specs.Prelude.{Ok, Err}
use Prim.Native.Nat.{ℕ}
use mathlib.Core.Path.{◌≡◌, refl, ap, ap₂, sym, ◌∙◌, subst}
use mathlib.Core.Bool.{Bool, true, false, cond}
use mathlib.Core.List.{List, []}
use borrow.Author.Tests.{eq-eqb}
use lib.Dec.{eqb}
use lib.ListN.{length, replicate}
use Rattle.refusal.specs.Verdict.{verdict_number}
use Rattle.refusal.specs.Verdict.{Verdict}
use Rattle.image.specs.Effects.{on_accept}
use Rattle.image.specs.Part.{RoundTrips, is_image}
use Rattle.address_ledger.specs.Ledger.{opened}
use Rattle.address_ledger.specs.declared.ledger.Ledger.{Ledger}
use Rattle.address_ledger_laws.specs.Demand1.{LedgerCall, opening, asking, returning, counting, perform, ledger_left, Demand1}
use Rattle.state_image.specs.Ledger.{ledger_image}
use Rattle.ledger_calls.specs.Ledger.{LedgerDid, board_fits}
use Rattle.pothatch_laws.specs.Ledger.{LedgerOutput, ledger_output, Opened, Counted, Did, Held, no-ledger, ledger, Keeping, keeping}
use Rattle.pothatch_laws.specs.Ledger.{Outcome, ranged, opened_with, perform_on, comes_to, tells, after, image_of, shown, LedgerRuns}
use Rattle.pothatch_laws.specs.Runs.{Lent, lent}
use Rattle.pothatch_laws.proofs.Bounds.{opened-fits, asked-fits, returned-fits}
use Rattle.pothatch_laws.proofs.Following.{Step, runs, runs-from}
use Rattle.pothatch_laws.proofs.Images.{put-long, put_is, put-got, got-fits, got-put}

-- ---- the struct s stands for a ledger, or for none
pub data Stands : Held → List ℕ → Type 0 where
  stored : {l : Ledger} {s : List ℕ} → ledger_image.Fit l → s ≡ ledger_image.put l → Stands (ledger l) s
  zeros : {s : List ℕ} → s ≡ replicate 16 0 → Stands no-ledger s

stands-shown : (h : Held) (s : List ℕ) → Stands h s → s ≡ image_of h
stands-shown h s (stored f e) = e
stands-shown h s (zeros e) = e

-- ---- what one call comes to
record Came (o : Outcome) (t : LedgerOutput) (s' m' : List ℕ) : Type 0 where
  same-told : t ≡ o.answer
  stands : Stands o.kept.held s'
  same_memory : m' ≡ o.kept.memory

told-as : (t : LedgerOutput) {n v : ℕ} → t.number ≡ n → t.value ≡ v → t ≡ ledger_output n v
told-as t e f = ap₂ ledger_output e f

-- RANGE: nothing moved
ranged-follows : (h : Held) {t : LedgerOutput} {s s' m m' : List ℕ} → Stands h s → t.number ≡ 13 → t.value ≡ 0 → s' ≡ s → m' ≡ m
    → Came (ranged (keeping h m)) t s' m'
ranged-follows h {t} a e f g i = record { same-told = told-as t e f; stands = subst (Stands h) (sym g) a; same_memory = i }

-- ---- a call other than an opening, on the ledger of the image
module _ (demand1 : Demand1) (c : LedgerCall) (l : Ledger) (m : List ℕ) (k : ledger_left c l ≡ l) where
  value-left : (v : Verdict) → (perform c l m).verdict ≡ v → on_accept v 0 (perform c l m).value ≡ (perform c l m).value
  value-left (Ok tt) e = refl
  value-left (Err r) e = sym (demand1.untouched c l m r e).value

  memory-left : (v : Verdict) → (perform c l m).verdict ≡ v → on_accept v m (perform c l m).memory ≡ (perform c l m).memory
  memory-left (Ok tt) e = refl
  memory-left (Err r) e = sym (demand1.untouched c l m r e).memory

  image-left : (v : Verdict) {s : List ℕ} → (perform c l m).verdict ≡ v → s ≡ ledger_image.put l
      → on_accept v s (ledger_image.put (perform c l m).ledger) ≡ ledger_image.put (perform c l m).ledger
  image-left (Ok tt) e g = refl
  image-left (Err r) e g = g ∙ ap ledger_image.put (sym ((demand1.untouched c l m r e).ledger ∙ k))

-- ---- a board asks or gives back
module _ (demand1 : Demand1) (laws : RoundTrips ledger_image) (c : LedgerCall) (m : List ℕ) {t : LedgerOutput} {s s' m' : List ℕ}
    (d : LedgerDid c s m t.number s' m' t.value) where
  board-other : (h : Held) → Stands h s → board_fits c ≡ false → Came (ranged (keeping h m)) t s' m'
  board-other h a w = ranged-follows h a (rw w at d.number) (rw w at d.value) (rw w at d.ledger) (rw w at d.memory)

  board-follows : (h : Held) → ((l : Ledger) → ledger_left c l ≡ l)
      → ((l : Ledger) → ledger_image.Fit l → ledger_image.Fit (perform c l m).ledger) → Stands h s → board_fits c ≡ true
      → Came (perform_on c h m) t s' m'
  board-follows h k keeps (stored {l = l} f e) w =
      let is : is_image ledger_image s ≡ true = ap (is_image ledger_image) e ∙ put_is ledger_image laws l f in
      let got : ledger_image.get s ≡ l = ap ledger_image.get e ∙ put-got ledger_image laws l f in
      let v = (perform c l m).verdict in
      let number : t.number ≡ verdict_number v = rw (w, is, got) at d.number in
      let value : t.value ≡ on_accept v 0 (perform c l m).value = rw (w, is, got) at d.value in
      let image : s' ≡ on_accept v s (ledger_image.put (perform c l m).ledger) = rw (w, is, got) at d.ledger in
      let memory : m' ≡ on_accept v m (perform c l m).memory = rw (w, is, got) at d.memory in
      record {
        same-told = told-as t number (value ∙ value-left demand1 c l m (k l) v refl);
        stands = stored (keeps l f) (image ∙ image-left demand1 c l m (k l) v refl e);
        same_memory = memory ∙ memory-left demand1 c l m (k l) v refl;
      }
  board-follows h k keeps (zeros e) w =
      let none : is_image ledger_image s ≡ false = ap (is_image ledger_image) e in
      ranged-follows no-ledger (zeros e) (rw (w, none) at d.number) (rw (w, none) at d.value) (rw (w, none) at d.ledger)
      (rw (w, none) at d.memory)

  board-by : (h : Held) → ((l : Ledger) → ledger_left c l ≡ l)
      → ((l : Ledger) → ledger_image.Fit l → ledger_image.Fit (perform c l m).ledger) → Stands h s → (b : Bool) → board_fits c ≡ b
      → Came (cond b (perform_on c h m) (ranged (keeping h m))) t s' m'
  board-by h k keeps a true w = board-follows h k keeps a w
  board-by h k keeps a false w = board-other h a w

-- ---- how many are free: without the memory
module _ (l : Ledger) (m : List ℕ) where
  count-verdict : (perform counting l []).verdict ≡ (perform counting l m).verdict
  unfolding perform
  count-verdict = refl

  count-value : (perform counting l []).value ≡ (perform counting l m).value
  unfolding perform
  count-value = refl

  count-ledger : (perform counting l m).ledger ≡ l
  unfolding perform
  count-ledger = refl

  count-memory : (perform counting l m).memory ≡ m
  unfolding perform
  count-memory = refl

-- ---- opening
opened-stands : (v : Verdict) (l : Ledger) {s' : List ℕ} → ledger_image.Fit l → s' ≡ on_accept v (replicate 16 0) (ledger_image.put l)
    → Stands (on_accept v no-ledger (ledger l)) s'
opened-stands (Ok tt) l f g = stored f g
opened-stands (Err r) l f g = zeros g

opening-follows : (first size : ℕ) (x : Lent) (t : LedgerOutput) (y : Lent) → length x.image ≡ 16 → Opened first size x t y
    → Came (opened_with (opened first size x.memory) x.memory) t y.image y.memory
opening-follows first size x t y k d =
    let o = opened first size x.memory in
    record {
      same-told = told-as t (rw (eq-eqb (length x.image) 16 k) at d.opens.number) d.value;
      stands =
          opened-stands o.verdict o.ledger (opened-fits first size x.memory)
          (rw (eq-eqb (length x.image) 16 k) at d.opens.ledger);
      same_memory = d.memory;
    }

-- ---- any call, and then lists
module _ (demand1 : Demand1) (laws : RoundTrips ledger_image) where
  stands-long : (h : Held) (s : List ℕ) → Stands h s → length s ≡ 16
  stands-long h s (stored {l = l} f e) = ap length e ∙ put-long ledger_image laws l f
  stands-long h s (zeros e) = ap length e

  count-follows : (h : Held) (x : Lent) (t : LedgerOutput) (y : Lent) → Stands h x.image → Counted x t y
      → Came (perform_on counting h x.memory) t y.image y.memory
  count-follows h x t y (stored {l = l} f e) d =
      let m = x.memory in
      let is : is_image ledger_image x.image ≡ true = ap (is_image ledger_image) e ∙ put_is ledger_image laws l f in
      let got : ledger_image.get x.image ≡ l = ap ledger_image.get e ∙ put-got ledger_image laws l f in
      let v = (perform counting l []).verdict in
      let number : t.number ≡ verdict_number v = rw (is, got) at d.counts.number in
      let value : t.value ≡ on_accept v 0 (perform counting l []).value = rw (is, got) at d.counts.value in
      record {
        same-told =
            told-as t (number ∙ ap verdict_number (count-verdict l m))
            (value ∙ value-left demand1 counting l [] refl v refl ∙ count-value l m);
        stands = subst (λ (k : Ledger). Stands (ledger k) y.image) (sym (count-ledger l m)) (stored f (d.image ∙ e));
        same_memory = d.memory ∙ sym (count-memory l m);
      }
  count-follows h x t y (zeros e) d =
      let none : is_image ledger_image x.image ≡ false = ap (is_image ledger_image) e in
      ranged-follows no-ledger (zeros e) (rw none at d.counts.number) (rw none at d.counts.value) d.image d.memory

  follows : (c : LedgerCall) (h : Held) (x : Lent) (t : LedgerOutput) (y : Lent) → Stands h x.image → Did c x t y
      → Came (comes_to c h x.memory) t y.image y.memory
  follows (opening first size) h x t y a d = opening-follows first size x t y (stands-long h x.image a) d
  follows (asking b) h x t y a d =
      let m = x.memory in
      board-by demand1 laws (asking b) m d h (λ l. refl) (λ l f. asked-fits b l m f) a (eqb (length b) 8) refl
  follows (returning b) h x t y a d =
      let m = x.memory in
      board-by demand1 laws (returning b) m d h (λ l. refl) (λ l f. returned-fits b l m f) a (eqb (length b) 8) refl
  follows counting h x t y a d = count-follows h x t y a d

-- ---- the lent bytes stand for what is kept
record StandsFor (k : Keeping) (x : Lent) : Type 0 where
  the-ledger : Stands k.held x.image
  the-memory : x.memory ≡ k.memory

seen : (k : Keeping) (x : Lent) → StandsFor k x → x ≡ shown k
seen k x a = ap₂ lent (stands-shown k.held x.image a.the-ledger) a.the-memory

as_step : (c : LedgerCall) (k : Keeping) (m : List ℕ) (t : LedgerOutput) (y : Lent) → m ≡ k.memory
    → Came (comes_to c k.held m) t y.image y.memory → Step tells after StandsFor c k t y
as_step c k m t y e p =
    let q = subst (λ (n : List ℕ). Came (comes_to c k.held n) t y.image y.memory) e p in
    record { same = q.same-told; stands = record { the-ledger = q.stands; the-memory = q.same_memory } }

module _ (demand1 : Demand1) (laws : RoundTrips ledger_image) where
  step : (c : LedgerCall) (k : Keeping) (x : Lent) (t : LedgerOutput) (y : Lent) → StandsFor k x → Did c x t y
      → Step tells after StandsFor c k t y
  step c k x t y a d = as_step c k x.memory t y a.the-memory (follows demand1 laws c k.held x t y a.the-ledger d)

  pub ledger-runs : LedgerRuns
  ledger-runs =
      record {
        from-open = λ first size cs h x ts z l r.
            runs-from Did tells after StandsFor shown seen step (opening first size) cs (keeping h x.memory) x ts z
            (λ t y d. as_step (opening first size) (keeping h x.memory) x.memory t y refl (opening-follows first size x t y l d))
            r;
        from-image = λ cs x ts z b i r.
            runs Did tells after StandsFor shown seen step cs (keeping (ledger (ledger_image.get x.image)) x.memory) x ts z
            (record {
              the-ledger = stored (got-fits ledger_image laws x.image b i) (sym (got-put ledger_image laws x.image b i));
              the-memory = refl;
            })
            r;
      }
