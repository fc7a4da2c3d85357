-- The ledger's calls from C are those of the ledger in the image; a refused one leaves the memory, as the ledger promises.
use Rattle.std.specs.Prelude.{Some, None, Result, Ok, Err}
use Rattle.refusal.specs.declared.Refusal.{Refusal}
use Prim.Native.Nat.{ℕ}
use mathlib.Core.Path.{◌≡◌, refl, sym, ap}
use mathlib.Core.Bool.{Bool, true, false, cond, ◌&&◌, and-false}
use native.Mathlib.Omega.{arith}
use lib.Dec.{eqb}
use mathlib.Core.List.{List}
use borrow.Author.Tests.{eq-eqb, ne_eqb}
use lib.ListN.{length, replicate}
use Rattle.refusal.specs.Verdict.{verdict_number}
use Rattle.refusal.specs.Verdict.{Verdict}
use Rattle.image.specs.Part.{is_image}
use Rattle.address_ledger.specs.Answers.{address_verdict, address_value, free_verdict, free_value}
use Rattle.address_ledger.specs.Ledger.{Outcome, outcome, opened, granted, given_back, free_count}
use Rattle.address_ledger.specs.declared.answer.CallResult.{CallResult}
use Rattle.address_ledger.specs.declared.answer.OpenResult.{OpenResult}
use Rattle.address_ledger.specs.declared.ledger.Ledger.{Ledger}
use Rattle.address_ledger_laws.specs.Demand1.{LedgerCall, asking, returning, Performed, performed, perform, Demand1}
use Rattle.state_image.specs.Ledger.{ledger_image}
use Rattle.image.specs.Effects.{on_accept}
use Rattle.ledger_calls.specs.Ledger.{Opens, board_fits, performed_in, LedgerDid, Counts, lent}

-- ---- opening
module _ (first size : ℕ) (m s : List ℕ) where
  pub open-unfit : ¬ (length s ≡ 16) → Opens first size m s 13 s
  open-unfit h = record { number = rw (ne_eqb (length s) 16 h); ledger = rw (ne_eqb (length s) 16 h) }

  pub open_told : (o : OpenResult) {r : ℕ} {s' : List ℕ} → o ≡ opened first size m → length s ≡ 16 → r ≡ verdict_number o.verdict
      → s' ≡ on_accept o.verdict (replicate 16 0) (ledger_image.put o.ledger) → Opens first size m s r s'
  open_told o e h a b =
      record {
        number = rw (eq-eqb (length s) 16 h, ← e) a;
        ledger = rw (eq-eqb (length s) 16 h, ← e) b;
      }

-- ---- granting and giving back: what the ledger's function answered is what the call performs
module _ (l : Ledger) (m b : List ℕ) (d : CallResult) (m' : List ℕ) where
  abbrev Answer : Performed
  Answer = performed (address_verdict d.answer) (address_value d.answer) d.ledger m'

  abbrev of : Outcome → Performed
  of o = performed (address_verdict o.answer) (address_value o.answer) o.ledger o.memory

  pub asked : outcome d.answer d.ledger m' ≡ granted l m b → perform (asking b) l m ≡ Answer
  unfolding perform
  asked e = sym (ap of e)

  pub returned : outcome d.answer d.ledger m' ≡ given_back l m b → perform (returning b) l m ≡ Answer
  unfolding perform
  returned e = sym (ap of e)

memory-left : Demand1 → (c : LedgerCall) (l : Ledger) (m : List ℕ) (v : Verdict) → (perform c l m).verdict ≡ v
    → (perform c l m).memory ≡ on_accept v m (perform c l m).memory
memory-left d c l m (Ok tt) e = refl
memory-left d c l m (Err k) e = (d.untouched c l m k e).memory

module _ (c : LedgerCall) (s m : List ℕ) where
  pub unfit : (board_fits c && is_image ledger_image s) ≡ false → LedgerDid c s m 13 s m 0
  unfit e = record { number = rw e; ledger = rw e; memory = rw e; value = rw e }

  pub told : Demand1 → (p : Performed) {r v : ℕ} {s' : List ℕ} → (board_fits c && is_image ledger_image s) ≡ true → performed_in c s m ≡ p
      → r ≡ verdict_number p.verdict → s' ≡ on_accept p.verdict s (ledger_image.put p.ledger)
      → v ≡ on_accept p.verdict 0 p.value
      → LedgerDid c s m r s' p.memory v
  told d p f e x y z =
      record {
        number = rw (f, e) x;
        ledger = rw (f, e) y;
        memory = rw (f, ← e) (memory-left d c (ledger_image.get s) m _ refl);
        value = rw (f, e) z;
      }

-- ---- what is lent
module _ (s b : List ℕ) where
  pub lent-both : length b ≡ 8 → is_image ledger_image s ≡ true → (l : Ledger) → l ≡ ledger_image.get s → (b' : List ℕ) → b' ≡ b
      → Some (l, b') ≡ lent s b
  lent-both h i l e b' f = rw (eq-eqb (length b) 8 h, i, e, f)

  pub no-image : is_image ledger_image s ≡ false → None ≡ lent s b
  no-image e = rw (e, and-false (eqb (length b) 8))

  pub no-board : (length b ≡ 8 → ⊥) → None ≡ lent s b
  no-board h = rw (ne_eqb (length b) 8 h)

  none-not : (t : Bool) (p : Ledger × List ℕ) → None ≡ cond t (Some p) None → t ≡ false
  none-not true p e = let z : ◌≡◌ {A = ℕ} 0 1 = cc in absurd (omega arith)
  none-not false p e = refl

  pub not-lent : None ≡ lent s b → (eqb (length b) 8 && is_image ledger_image s) ≡ false
  not-lent e = none-not _ _ e

  some-so : (t : Bool) (p q : Ledger × List ℕ) → Some q ≡ cond t (Some p) None → (t ≡ true) × (q ≡ p)
  some-so true p q e = (refl, cc)
  some-so false p q e = let z : ◌≡◌ {A = ℕ} 0 1 = cc in absurd (omega arith)

  pub is_lent : (q : Ledger × List ℕ) → Some q ≡ lent s b
      → ((eqb (length b) 8 && is_image ledger_image s) ≡ true) × (q ≡ (ledger_image.get s, b))
  is_lent q e = some-so _ _ q e

-- ---- how many are free
module _ (s : List ℕ) where
  pub count-unfit : is_image ledger_image s ≡ false → Counts s 13 0
  count-unfit e = record { number = rw e; value = rw e }

  pub counted : (f : Result ℕ Refusal) {r v : ℕ} → is_image ledger_image s ≡ true → f ≡ free_count (ledger_image.get s)
      → r ≡ verdict_number (free_verdict f) → v ≡ on_accept (free_verdict f) 0 (free_value f) → Counts s r v
  unfolding perform
  counted f e g x y = record { number = rw (e, ← g) x; value = rw (e, ← g) y }
