-- Each way to make a part keeps the laws, so a record's image is lawful by its table.
-- Assumes nothing.
use Rattle.std.specs.Prelude.{ℕ, zero, suc, ◌+◌, ◌<◌, ◌≤◌, ◌≡◌, refl, true, ◌&&◌, List, [], ◌∷◌, ◌++◌, leb, eqb, length, take, drop, get_or}
use Rattle.std.proofs.Common.{ap, ap₂, sym, ◌∙◌, subst, append_assoc, arith, eq-eqb, eqb-true, length-append, length-drop, take_at, drop_at, take-add, length-take-le}
use Rattle.lemmas.specs.logic.Tests.{both_left, both_right, both as both_true}
use Rattle.byte_io.specs.BigEndian.{big_endian, bytes_of}
use Rattle.byte_io.specs.BigEndianLemmas.{length-bytes_of}
use Rattle.image.specs.ByteLemmas.{dropped-bytes}
use Rattle.image.specs.Numbers.{read_back, below, put_back}
use Rattle.image.specs.Part.{Part, AllBytes, RoundTrips, byte, number, octets, up_to, both, viewed_if, viewed}
use Rattle.image.specs.Part.{code, puts, gets, goods, Fits, none, more, total, times, headed, is_headed, layout}

first_byte : (s : List ℕ) → 1 ≤ length s → get_or s 0 0 ∷ [] ≡ take 1 s
first_byte [] h = absurd (omega arith)
first_byte (x ∷ s) h = refl

taken-byte : (k : ℕ) (s : List ℕ) (i : ℕ) → get_or s i 0 < 256 → get_or (take k s) i 0 < 256
taken-byte zero s i h = omega arith
taken-byte (suc k) [] i h = omega arith
taken-byte (suc k) (x ∷ s) zero h = h
taken-byte (suc k) (x ∷ s) (suc i) h = taken-byte k s i h

pub byte-lawful : RoundTrips byte
byte-lawful =
    record {
      sized = λ b h. refl;
      loaded = λ b r h. refl;
      stored = λ b r h. refl;
      fits = λ s b h g. b 0;
      back = λ s b h g. first_byte s h;
    }

pub number-lawful : (k : ℕ) → RoundTrips (number k)
number-lawful k =
    record {
      sized = λ n h. length-bytes_of k n;
      loaded = λ n r h. ap big_endian (take_at (bytes_of k n) r k (length-bytes_of k n)) ∙ read_back k n h;
      stored = λ n r h. refl;
      fits = λ s b h g. below s k b h;
      back = λ s b h g. put_back s k b h;
    }

pub octets-lawful : (k : ℕ) → RoundTrips (octets k)
octets-lawful k =
    record {
      sized = λ s h. h.0;
      loaded = λ s r h. take_at s r k h.0;
      stored = λ s r h. refl;
      fits = λ s b h g. (length-take-le k s h, λ i. taken-byte k s i (b i));
      back = λ s b h g. refl;
    }

pub up_to-lawful : (most : ℕ) (p : Part ℕ) → RoundTrips p → RoundTrips (up_to most p)
up_to-lawful most p l =
    record {
      sized = λ n h. l.sized n h.0;
      loaded = λ n r h. l.loaded n r h.0;
      stored = λ n r h. rw (l.stored n r h.0, l.loaded n r h.0) h.1;
      fits = λ s b h g. (
        l.fits s b h (both_left (p.good s) (leb (p.get s) most) g),
        both_right (p.good s) (leb (p.get s) most) g,
      );
      back = λ s b h g. l.back s b h (both_left (p.good s) (leb (p.get s) most) g);
    }

module _ {A B : Type 0} where
  -- on what fits `to` and `from` undo each other, and lead to what fits
  pub record Views (Ok : B → Type 0) (p : Part A) (to : A → B) (from : B → A) : Type 0 where
    pub there : (b : B) → Ok b → p.Fit (from b)
    pub again : (b : B) → Ok b → to (from b) ≡ b
    pub here : (a : A) → p.Fit a → Ok (to a)
    pub undone : (a : A) → p.Fit a → from (to a) ≡ a

  pub viewed_if-lawful : (Ok : B → Type 0) (p : Part A) (to : A → B) (from : B → A) → Views Ok p to from → RoundTrips p
      → RoundTrips (viewed_if Ok p to from)
  viewed_if-lawful Ok p to from v l =
      record {
        sized = λ b h. l.sized (from b) (v.there b h);
        loaded = λ b r h. ap to (l.loaded (from b) r (v.there b h)) ∙ v.again b h;
        stored = λ b r h. l.stored (from b) r (v.there b h);
        fits = λ s b h g. v.here (p.get s) (l.fits s b h g);
        back = λ s b h g. ap p.put (v.undone (p.get s) (l.fits s b h g)) ∙ l.back s b h g;
      }

  pub viewed-lawful : (p : Part A) (to : A → B) (from : B → A) → ((b : B) → to (from b) ≡ b) → ((a : A) → p.Fit a → from (to a) ≡ a)
      → RoundTrips p → RoundTrips (viewed p to from)
  viewed-lawful p to from e f l =
      viewed_if-lawful (λ b. p.Fit (from b)) p to from
      (record { there = λ b h. h; again = λ b h. e b; here = λ a h. subst p.Fit (sym (f a h)) h; undone = f })
      l

  module _ (p : Part A) (q : Part B) (l : RoundTrips p) (m : RoundTrips q) where
    after : (x : A × B) (r : List ℕ) → p.Fit x.0 → drop p.size ((p.put x.0 ++ q.put x.1) ++ r) ≡ q.put x.1 ++ r
    after x r h =
        ap (drop p.size) (append_assoc (p.put x.0) (q.put x.1) r)
        ∙ drop_at (p.put x.0) (q.put x.1 ++ r) p.size (l.sized x.0 h)

    front : (s : List ℕ) → (p.good s && q.good (drop p.size s)) ≡ true → p.good s ≡ true
    front s g = both_left (p.good s) (q.good (drop p.size s)) g

    rest : (s : List ℕ) → (p.good s && q.good (drop p.size s)) ≡ true → q.good (drop p.size s) ≡ true
    rest s g = both_right (p.good s) (q.good (drop p.size s)) g

    left_over : (s : List ℕ) → p.size + q.size ≤ length s → q.size ≤ length (drop p.size s)
    left_over s h = omega (arith, length-drop p.size s)

    pub both-lawful : RoundTrips (both p q)
    both-lawful =
        record {
          sized = λ x h.
              length-append (p.put x.0) (q.put x.1) ∙ ap₂ (λ (a b : ℕ). a + b) (l.sized x.0 h.0) (m.sized x.1 h.1);
          loaded = λ x r h.
              ap₂ (λ (a : A) (b : B). (a, b))
              (ap p.get (append_assoc (p.put x.0) (q.put x.1) r) ∙ l.loaded x.0 (q.put x.1 ++ r) h.0)
              (ap q.get (after x r h.0) ∙ m.loaded x.1 r h.1);
          stored = λ x r h.
              both_true _ _
              (ap p.good (append_assoc (p.put x.0) (q.put x.1) r) ∙ l.stored x.0 (q.put x.1 ++ r) h.0)
              (ap q.good (after x r h.0) ∙ m.stored x.1 r h.1);
          fits = λ s b h g. (
            l.fits s b (omega arith) (front s g),
            m.fits (drop p.size s) (dropped-bytes p.size s b) (left_over s h) (rest s g),
          );
          back = λ s b h g.
              ap₂ (λ (x y : List ℕ). x ++ y)
              (l.back s b (omega arith) (front s g))
              (m.back (drop p.size s) (dropped-bytes p.size s b) (left_over s h) (rest s g))
              ∙ sym (take-add p.size q.size s);
        }

-- `case-of` undoes `number_of_lem`, and the other way for the numbers that there are
pub code-lawful : {A : Type 0} (number_of_lem : A → ℕ) (case-of : ℕ → A) (most : ℕ)
    → ((a : A) → case-of (number_of_lem a) ≡ a) → ((n : ℕ) → leb n most ≡ true → number_of_lem (case-of n) ≡ n)
    → RoundTrips (code number_of_lem case-of most)
code-lawful number_of_lem case-of most e f =
    viewed-lawful (up_to most byte) case-of number_of_lem e (λ n h. f n h.1) (up_to-lawful most byte byte-lawful)

module _ {A : Type 0} (p : Part A) (l : RoundTrips p) where
  puts-sized : (n : ℕ) (xs : List A) → Fits p n xs → length (puts p xs) ≡ total p n
  puts-sized n xs none = refl
  puts-sized n xs (more {n = k} {a = a} {xs = ys} f g) =
      length-append (p.put a) (puts p ys) ∙ ap₂ (λ (x y : ℕ). x + y) (l.sized a f) (puts-sized k ys g)

  next : (a : A) (ys : List A) (r : List ℕ) → p.Fit a → drop p.size ((p.put a ++ puts p ys) ++ r) ≡ puts p ys ++ r
  next a ys r f =
      ap (drop p.size) (append_assoc (p.put a) (puts p ys) r) ∙ drop_at (p.put a) (puts p ys ++ r) p.size (l.sized a f)

  puts-loaded : (n : ℕ) (xs : List A) (r : List ℕ) → Fits p n xs → gets p n (puts p xs ++ r) ≡ xs
  puts-loaded n xs r none = refl
  puts-loaded n xs r (more {n = k} {a = a} {xs = ys} f g) =
      ap₂ (λ (x : A) (zs : List A). x ∷ zs)
      (ap p.get (append_assoc (p.put a) (puts p ys) r) ∙ l.loaded a (puts p ys ++ r) f)
      (ap (gets p k) (next a ys r f) ∙ puts-loaded k ys r g)

  puts-stored : (n : ℕ) (xs : List A) (r : List ℕ) → Fits p n xs → goods p n (puts p xs ++ r) ≡ true
  puts-stored n xs r none = refl
  puts-stored n xs r (more {n = k} {a = a} {xs = ys} f g) =
      both_true _ _
      (ap p.good (append_assoc (p.put a) (puts p ys) r) ∙ l.stored a (puts p ys ++ r) f)
      (ap (goods p k) (next a ys r f) ∙ puts-stored k ys r g)

  gets-fit : (n : ℕ) (s : List ℕ) → AllBytes s → total p n ≤ length s → goods p n s ≡ true → Fits p n (gets p n s)
  gets-fit zero s b h g = none
  gets-fit (suc n) s b h g =
      more
      (l.fits s b (omega arith) (both_left (p.good s) (goods p n (drop p.size s)) g))
      (gets-fit n (drop p.size s) (dropped-bytes p.size s b) (omega (arith, length-drop p.size s))
      (both_right (p.good s) (goods p n (drop p.size s)) g))

  puts_back : (n : ℕ) (s : List ℕ) → AllBytes s → total p n ≤ length s → goods p n s ≡ true → puts p (gets p n s) ≡ take (total p n) s
  puts_back zero s b h g = refl
  puts_back (suc n) s b h g =
      ap₂ (λ (x y : List ℕ). x ++ y)
      (l.back s b (omega arith) (both_left (p.good s) (goods p n (drop p.size s)) g))
      (puts_back n (drop p.size s) (dropped-bytes p.size s b) (omega (arith, length-drop p.size s))
      (both_right (p.good s) (goods p n (drop p.size s)) g))
      ∙ sym (take-add p.size (total p n) s)

  pub times-lawful : (n : ℕ) → RoundTrips (times n p)
  times-lawful n =
      record { sized = puts-sized n; loaded = puts-loaded n; stored = puts-stored n; fits = gets-fit n; back = puts_back n }

-- ---- images
two_bytes : (kind : ℕ) (s t : List ℕ) (n : ℕ) → 2 ≤ length s → is_headed kind s ≡ true → t ≡ take n (drop 2 s)
    → kind ∷ layout ∷ t ≡ take (suc (suc n)) s
two_bytes kind [] t n h g e = absurd (omega arith)
two_bytes kind (x ∷ []) t n h g e = absurd (omega arith)
two_bytes kind (x ∷ y ∷ s) t n h g e =
    let k : x ≡ kind = eqb-true x kind (both_left (eqb x kind) (eqb y layout) g) in
    let l : y ≡ layout = eqb-true y layout (both_right (eqb x kind) (eqb y layout) g) in
    ap₂ (λ (a : ℕ) (u : List ℕ). a ∷ u) (sym k) (ap₂ (λ (a : ℕ) (u : List ℕ). a ∷ u) (sym l) e)

pub headed-lawful : {A : Type 0} (kind : ℕ) (p : Part A) → RoundTrips p → RoundTrips (headed kind p)
headed-lawful kind p l =
    let front : (s : List ℕ) → (is_headed kind s && p.good (drop 2 s)) ≡ true → is_headed kind s ≡ true =
    λ s g. both_left (is_headed kind s) (p.good (drop 2 s)) g in
    let rest : (s : List ℕ) → (is_headed kind s && p.good (drop 2 s)) ≡ true → p.good (drop 2 s) ≡ true =
    λ s g. both_right (is_headed kind s) (p.good (drop 2 s)) g in
    record {
      sized = λ a h. ap (λ (n : ℕ). suc (suc n)) (l.sized a h);
      loaded = λ a r h. l.loaded a r h;
      stored = λ a r h. both_true _ _ (both_true _ _ (eq-eqb kind kind refl) refl) (l.stored a r h);
      fits = λ s b h g. l.fits (drop 2 s) (dropped-bytes 2 s b) (omega (arith, length-drop 2 s)) (rest s g);
      back = λ s b h g.
          two_bytes kind s (p.put (p.get (drop 2 s))) p.size (omega arith) (front s g)
          (l.back (drop 2 s) (dropped-bytes 2 s b) (omega (arith, length-drop 2 s)) (rest s g));
    }
