-- A record is taken in one way only; so a changed one is another call's, or does not fit.
use Rattle.std.specs.Prelude.{Ok, Err}
use Prim.Native.Nat.{ℕ, zero, suc, ◌+◌, ◌-◌, ◌/◌, ◌%◌, ◌≤◌, ◌<◌}
use mathlib.Core.Path.{◌≡◌, refl, sym, ap, ◌∙◌}
use mathlib.Core.Bool.{Bool, true, false}
use mathlib.Core.List.{List, [], ◌∷◌}
use native.Mathlib.Omega.{arith}
use borrow.Author.Tests.{ltb-true, ltb-false}
use lib.Dec.{eqb, ltb}
use lib.ListN.{length, get_or, take, drop, set, length-append, length-drop}
use lib.Seq.{
  take_at,
  drop_at,
  get_or-set_same,
  get_or-set_other,
  drop-set-add,
  drop-set-lt,
  take-set-le,
  take-set-lt,
  get_or-take,
  length-take-le,
}
use Rattle.lemmas.specs.lists.Same.{same}
use Rattle.lemmas.specs.lists.SameLemmas.{same-equal}
use Rattle.lemmas.specs.lists.Digits.{digits}
use Rattle.address_ledger.specs.declared.ledger.Ledger.{Ledger}
use Rattle.address_journal.specs.Crc32.{crc32}
use Rattle.address_journal.specs.Format.{four_bytes, record_fields, record_with, record_of, check_of, kind_in, board_in, zero_record}
use Rattle.std.specs.Prelude.{Option}
use Rattle.std.specs.Prelude.{Some, None}
use Rattle.address_journal.specs.declared.resume.ResumeStep.TheVariants.{Taken, Cut}
use Rattle.address_journal.specs.declared.resume.ResumeError.TheVariants.{Damaged}
use Rattle.address_journal.specs.Entry.{grant_due, back_due, entry_of}
use Rattle.address_journal.specs.Resume.{Step, resumed, entry_here, fits, resume_record}
use Rattle.address_journal_laws.specs.Damage.{Octets, IsTaken, DamageFound}
use Rattle.address_journal_laws.proofs.Remainder.{one-changed}

cut-not : ◌≡◌ {A = Step} (Ok Cut) (Ok Taken) → ⊥
cut-not e = let z : ◌≡◌ {A = ℕ} 0 1 = cc in omega arith

damaged-not : ◌≡◌ {A = Step} (Err Damaged) (Ok Taken) → ⊥
damaged-not e = let z : ◌≡◌ {A = ℕ} 0 1 = cc in omega arith

taken_not : ◌≡◌ {A = Step} (Ok Taken) (Err Damaged) → ⊥
taken_not e = let z : ◌≡◌ {A = ℕ} 0 1 = cc in omega arith

cut-not-damaged : ◌≡◌ {A = Step} (Ok Cut) (Err Damaged) → ⊥
cut-not-damaged e = let z : ◌≡◌ {A = ℕ} 0 1 = cc in omega arith

-- ---- how a record is taken
pub record Own (l : Ledger) (m : List ℕ) (c : ℕ) (r : List ℕ) : Type 0 where
  pub bytes : r ≡ (entry_here (kind_in r) l m (board_in r) c).bytes
  pub long : 16 ≤ length r

module _ (l : Ledger) (m : List ℕ) (c : ℕ) (r : List ℕ) where
  own-by : (u v w : Bool) → ltb (length r) 16 ≡ u → same r zero_record ≡ v → fits l m c r ≡ w → IsTaken l m c r → Own l m c r
  unfolding resume_record
  own-by true v w p q f e = absurd (cut-not (rw p at e))
  own-by false true w p q f e = absurd (cut-not (rw (p, q) at e))
  own-by false false false p q f e = absurd (damaged-not (rw (p, q, f) at e))
  own-by false false true p q f e =
      record { bytes = same-equal r (entry_here (kind_in r) l m (board_in r) c).bytes f; long = ltb-false (length r) 16 p }

  own : IsTaken l m c r → Own l m c r
  own e = own-by _ _ _ refl refl refl e

  unchanged-by : (u v w : Bool) → ltb (length r) 16 ≡ u → same r zero_record ≡ v → fits l m c r ≡ w → (resume_record l m c r).step ≡ Err Damaged
      → resume_record l m c r ≡ resumed (Err Damaged) l c m
  unfolding resume_record
  unchanged-by true v w p q f e = absurd (cut-not-damaged (rw p at e))
  unchanged-by false true w p q f e = absurd (cut-not-damaged (rw (p, q) at e))
  unchanged-by false false true p q f e = absurd (taken_not (rw (p, q, f) at e))
  unchanged-by false false false p q f e = rw (p, q, f)

  unchanged : (resume_record l m c r).step ≡ Err Damaged → resume_record l m c r ≡ resumed (Err Damaged) l c m
  unchanged e = unchanged-by _ _ _ refl refl refl e

-- ---- one record of one kind and one board
one : (l : Ledger) (m : List ℕ) (c : ℕ) (r q : List ℕ) → Own l m c r → Own l m c q → kind_in r ≡ kind_in q → board_in r ≡ board_in q → r ≡ q
one l m c r q o p ek eb =
    o.bytes
    ∙ ap (λ (k : ℕ). (entry_here k l m (board_in r) c).bytes) ek
    ∙ ap (λ (b : List ℕ). (entry_here (kind_in q) l m b c).bytes) eb
    ∙ sym p.bytes

-- ---- the first twelve bytes and the check
fields-long : (k : ℕ) (b : List ℕ) (a : ℕ) → length b ≡ 8 → length (record_fields k b a) ≡ 12
fields-long k b a e = omega (arith, length-append b (a / 256 ∷ a % 256 ∷ 0 ∷ []))

module _ (k : ℕ) (b : List ℕ) (a c : ℕ) (e : length b ≡ 8) where
  first-twelve : take 12 (record_of k b a c) ≡ record_fields k b a
  unfolding record_with
  first-twelve = take_at (record_fields k b a) (four_bytes (check_of k b a c)) 12 (fields-long k b a e)

  last-four : drop 12 (record_of k b a c) ≡ four_bytes (crc32 c (record_fields k b a))
  unfolding record_with check_of
  last-four = drop_at (record_fields k b a) (four_bytes (check_of k b a c)) 12 (fields-long k b a e)

length-board : (s : List ℕ) → 16 ≤ length s → length (board_in s) ≡ 8
length-board s h = length-take-le 8 (drop 1 s) (rw (length-drop 1 s) (omega arith))

-- an entry that is not empty is a record, and ends with its check
abbrev Checked : ℕ → List ℕ → Type 0
Checked c r = drop 12 r ≡ four_bytes (crc32 c (take 12 r))

checked : (k : ℕ) (b : List ℕ) (a c : ℕ) → length b ≡ 8 → Checked c (record_of k b a c)
checked k b a c e = last-four k b a c e ∙ ap (λ (x : List ℕ). four_bytes (crc32 c x)) (sym (first-twelve k b a c e))

due-checked : (k : ℕ) (b : List ℕ) (c : ℕ) (d : Option ℕ) (r : List ℕ) → r ≡ (entry_of k b c d).bytes → 16 ≤ length r → length b ≡ 8
    → Checked c r
unfolding entry_of
due-checked k b c (Some a) r q h e = rw q (checked k b a c e)
due-checked k b c None r q h e = let z = ap length q in absurd (omega (arith, h, z))

kind-checked : (l : Ledger) (m : List ℕ) (c k : ℕ) (b r : List ℕ) (v w : Bool) → eqb k 1 ≡ v → eqb k 2 ≡ w
    → r ≡ (entry_here k l m b c).bytes → 16 ≤ length r → length b ≡ 8 → Checked c r
unfolding entry_here
kind-checked l m c k b r true w p q e h n = due-checked 1 b c (grant_due l m b) r (rw p at e) h n
kind-checked l m c k b r false true p q e h n = due-checked 2 b c (back_due l m b) r (rw (p, q) at e) h n
kind-checked l m c k b r false false p q e h n = let z = ap length (rw (p, q) at e) in absurd (omega (arith, h, z))

own-check : (l : Ledger) (m : List ℕ) (c : ℕ) (r : List ℕ) → Own l m c r → Checked c r
own-check l m c r o = kind-checked l m c (kind_in r) (board_in r) r _ _ refl refl o.bytes o.long (length-board r o.long)

four_same : (x y : ℕ) → four_bytes x ≡ four_bytes y → x ≡ y
four_same x y e =
    let a : x / 0x1000000 ≡ y / 0x1000000 = ap (λ (l : List ℕ). get_or l 0 0) e in
    let b : x / 0x10000 % 256 ≡ y / 0x10000 % 256 = ap (λ (l : List ℕ). get_or l 1 0) e in
    let c : x / 0x100 % 256 ≡ y / 0x100 % 256 = ap (λ (l : List ℕ). get_or l 2 0) e in
    let d : x % 256 ≡ y % 256 = ap (λ (l : List ℕ). get_or l 3 0) e in
    digits x ∙ rw (a, b, c, d) (sym (digits y))

octets-take : (n : ℕ) (s : List ℕ) → Octets s → Octets (take n s)
octets-take zero s o i = omega arith
octets-take (suc n) [] o i = o i
octets-take (suc n) (x ∷ s) o zero = o 0
octets-take (suc n) (x ∷ s) o (suc i) = octets-take n s (λ j. o (suc j)) i

-- ---- one changed byte
module _ (l : Ledger) (m : List ℕ) (c : ℕ) (r : List ℕ) (h : c < 0x100000000) (oct : Octets r) (o : Own l m c r) (i v : ℕ)
    (small : v < 256)
    (p : Own l m c (set r i v)) where
  early : i < 12 → get_or r i 0 ≡ v
  early k =
      let g : crc32 c (take 12 r) ≡ crc32 c (take 12 (set r i v)) =
      four_same _ _ (sym (own-check l m c r o) ∙ sym (drop-set-lt 12 r i v k) ∙ own-check l m c (set r i v) p) in
      let n = length-take-le 12 r (omega (arith, o.long)) in
      sym (get_or-take 12 r i 0 k)
      ∙ one-changed (take 12 r) c i v h small (octets-take 12 r oct) (omega (arith, n, k)) (g
      ∙ ap (λ (x : List ℕ). crc32 c x) (take-set-lt 12 r i v k))

  late : 12 ≤ i → i < 16 → get_or r i 0 ≡ v
  late k n =
      let ek : kind_in r ≡ kind_in (set r i v) = sym (get_or-set_other r i 0 v 0 (λ z. omega (arith, z, k))) in
      let d : i ≡ 1 + (i - 1) = omega (arith, k) in
      let eb : board_in r ≡ board_in (set r i v) =
      sym (ap (λ (j : ℕ). take 8 (drop 1 (set r j v))) d ∙ ap (λ (x : List ℕ). take 8 x) (drop-set-add 1 r (i - 1) v)
      ∙ take-set-le 8 (drop 1 r) (i - 1) v (omega (arith, k))) in
      let z = one l m c r (set r i v) o p ek eb in
      ap (λ (x : List ℕ). get_or x i 0) z ∙ get_or-set_same r i v 0 (omega (arith, n, o.long))

  by_place : (w : Bool) → ltb i 12 ≡ w → i < 16 → get_or r i 0 ≡ v
  by_place true e n = early (ltb-true i 12 e)
  by_place false e n = late (ltb-false i 12 e) n

pub damage-found : DamageFound
damage-found =
    record {
      own = λ l m c r e. (own l m c r e).bytes;
      one-record = λ l m c r q e f k b. one l m c r q (own l m c r e) (own l m c q f) k b;
      one_byte = λ l m c r h oct e i v n small other f. other (by_place l m c r h oct (own l m c r e) i v small (own l m c
          (set r i v) f) _ refl n);
      unchanged = λ l m c r e. unchanged l m c r e;
    }
