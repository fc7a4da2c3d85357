-- An address that is answered is that of a place that counts; a range from FFFE on has no such place.
use Rattle.std.specs.Prelude.{Result, Ok, Err}
use Rattle.refusal.specs.declared.Refusal.{Refusal}
use Prim.Native.Nat.{ℕ, ◌+◌, ◌*◌, ◌≤◌, ◌<◌}
use mathlib.Core.Path.{◌≡◌, refl, sym, ap}
use mathlib.Core.Bool.{Bool, true, false}
use mathlib.Core.List.{List, []}
use native.Mathlib.Omega.{arith}
use borrow.Author.Tests.{ltb-true, ltb-false}
use lib.Dec.{ltb}
use lib.ListN.{length}
use lib.Seq.{drop-nil}
use Rattle.refusal.specs.declared.Refusal.TheVariants.{Full, Unknown}
use Rattle.refusal.specs.Verdict.{Verdict}
use Rattle.short_address.specs.Address.{is_address, bytes_of, AddressLaws}
use Rattle.address_slots.specs.Slot.{Slot, slots, lowest, has, count_free, slot_found}
use Rattle.address_slots.specs.Marks.{slot_found_by}
use Rattle.address_ledger.specs.range.Range.{judged, counted}
use Rattle.address_ledger.specs.Ledger.{outcome, counted_of, places_of, judged_of, granting, granted_by}
use Rattle.address_ledger.specs.Ledger.{granted, giving_back, given_back_by, given_back, free_count}
use Rattle.address_ledger.specs.declared.ledger.Ledger.{Ledger}
use Rattle.address_slots.specs.declared.slot.SlotFound.{SlotFound}
use Rattle.address_slots.specs.declared.slot.SlotFound.TheVariants.{Held, Free, Nothing}
use Rattle.address_ledger.proofs.range.Judged.{end-limit, within-limits}
use Rattle.address_ledger.proofs.range.Counted.{counted-number, counted-is-address, other-is-none}
use Rattle.address_slots.proofs.Found.{held-within}
use Rattle.address_slots.proofs.Offers.{held-inside, free-inside-of}
use Rattle.address_ledger.proofs.Calls as calls
use Rattle.address_ledger_laws.specs.Addresses.{AddressesAlone, TwoAlone}
use Rattle.address_ledger_laws.proofs.Leading.{none-marked}
use Rattle.address_ledger_laws.proofs.Histories.{right_ledger, opened-is}

module _ (laws : AddressLaws) where
  counts-by : (first size k : ℕ) → first + size ≤ 0x10000 → k < size → (x : Bool) → ltb k (counted first size) ≡ x
      → is_address (bytes_of (first + k)) ≡ ltb k (counted first size)
  counts-by first size k h l true e = rw e (counted-is-address laws first size k h (ltb-true k (counted first size) e))
  counts-by first size k h l false e = rw e (other-is-none laws first size k h l (ltb-false k (counted first size) e))

  module _ (l : Ledger) (m b : List ℕ) (a : ℕ) (f : Ok tt ≡ judged_of l m) where
    one : (k : ℕ) → k < counted l.first l.size → ◌≡◌ {A = Result ℕ Refusal} (Ok (l.first + k)) (Ok a) → is_address (bytes_of a) ≡ true
    one k w e =
        let z : l.first + k ≡ a = cc in
        rw (← z) (counted-is-address laws l.first l.size k (end-limit l.first l.size (length m) f) w)

    grant-by : (s : SlotFound) → s ≡ slot_found_by l.summary b (places_of l m) → (granting (counted_of l) l m b s).answer ≡ Ok a
        → is_address (bytes_of a) ≡ true
    unfolding granting
    grant-by (Held k) s e = one k (held-inside l.summary b (counted l.first l.size) m k s) e
    grant-by (Free k) s e = one k (free-inside-of l.summary b (counted l.first l.size) m k s) e
    grant-by Nothing s e = let z : ◌≡◌ {A = ℕ} 0 1 = cc in absurd (omega arith)

    back_by : (s : SlotFound) → s ≡ slot_found b (places_of l m) → (giving_back (counted_of l) l m s).answer ≡ Ok a
        → is_address (bytes_of a) ≡ true
    unfolding giving_back
    back_by (Held k) s e = one k (held-within b (counted l.first l.size) m k s) e
    back_by (Free k) s e = let z : ◌≡◌ {A = ℕ} 0 1 = cc in absurd (omega arith)
    back_by Nothing s e = let z : ◌≡◌ {A = ℕ} 0 1 = cc in absurd (omega arith)

  granted-by : (l : Ledger) (m b : List ℕ) (a : ℕ) (v : Verdict) → v ≡ judged_of l m → (granted_by v l m b).answer ≡ Ok a
      → is_address (bytes_of a) ≡ true
  unfolding granted_by
  granted-by l m b a (Ok tt) f e = grant-by l m b a f (slot_found_by l.summary b (places_of l m)) refl e
  granted-by l m b a (Err r) f e = let z : ◌≡◌ {A = ℕ} 0 1 = cc in absurd (omega arith)

  given_by : (l : Ledger) (m b : List ℕ) (a : ℕ) (v : Verdict) → v ≡ judged_of l m → (given_back_by v l m b).answer ≡ Ok a
      → is_address (bytes_of a) ≡ true
  unfolding given_back_by
  given_by l m b a (Ok tt) f e = back_by l m b a f (slot_found b (places_of l m)) refl e
  given_by l m b a (Err r) f e = let z : ◌≡◌ {A = ℕ} 0 1 = cc in absurd (omega arith)

  pub addresses-alone : AddressesAlone
  unfolding granted given_back
  addresses-alone =
      record {
        counts = λ first size k h l. counts-by first size k h l _ refl;
        granted-one = λ l m b a e. granted-by l m b a (judged_of l m) refl e;
        given-one = λ l m b a e. given_by l m b a (judged_of l m) refl e;
      }

-- no place is free and none is the board's
nothing-there : (x : ℕ) (b : List ℕ) (m : List ℕ) → Nothing ≡ slot_found_by x b (slots 0 m)
unfolding slot_found_by slots has lowest
nothing-there x b m = sym (none-marked 64 x 0 [] (λ g h t. rw (drop-nil {A = Slot} (64 * g))))

module _ (first size : ℕ) (m b : List ℕ) (e : counted first size ≡ 0) (f : Ok tt ≡ judged first size (length m)) where
  lists-none : free_count (right_ledger first size m) ≡ Ok 0
  unfolding slots count_free
  lists-none = rw (← calls.free-within (right_ledger first size m) (sym (within-limits first size (length m) f)), e)

  grants-none : granted (right_ledger first size m) m b ≡ outcome (Err Full) (right_ledger first size m) m
  unfolding granting
  grants-none =
      sym
      (calls.grant-accepted (right_ledger first size m) m b f 0 (sym e) _
      (ap (λ (s : SlotFound). granting 0 (right_ledger first size m) m b s) (nothing-there (right_ledger first size m).summary b m)))

  gives_none : given_back (right_ledger first size m) m b ≡ outcome (Err Unknown) (right_ledger first size m) m
  unfolding giving_back slots slot_found has lowest
  gives_none = sym (calls.back-accepted (right_ledger first size m) m b f 0 (sym e) _ refl)

module _ (laws : AddressLaws) where
  none-counts : (first size : ℕ) → 0xfffe ≤ first → first + size ≤ 0x10000 → counted first size ≡ 0
  none-counts first size h l = omega (arith, counted-number laws first size l)

  module _ (first size : ℕ) (m : List ℕ) (h : 0xfffe ≤ first) (f : Ok tt ≡ judged first size (length m)) where
    none-there : counted first size ≡ 0
    none-there = none-counts first size h (end-limit first size (length m) f)

  pub two-alone : TwoAlone
  two-alone =
      record {
        none-counts = none-counts;
        none_free = λ first size m h f. rw (opened-is first size m f) (lists-none first size m [] (none-there first size m h f) f);
        full = λ first size m b h f. rw (opened-is first size m f) (grants-none first size m b (none-there first size m h f) f);
        unknown = λ first size m b h f. rw (opened-is first size m f) (gives_none first size m b (none-there first size m h f) f);
      }
