-- What is left after a head or an item is what stands some bytes further on: at least one byte, and after n members at least n.
-- Shown for every reader of heads that takes at least a byte.
use Prim.Native.Nat.{ℕ, zero, suc, ◌+◌, ◌-◌, ◌%◌, ◌^◌, ◌≤◌, ◌<◌}
use mathlib.Core.Path.{◌≡◌, refl, ap, sym, ◌∙◌}
use mathlib.Core.Bool.{Bool, true, false, cond}
use mathlib.Core.List.{List, [], ◌∷◌}
use native.Mathlib.Omega.{arith}
use native.Mathlib.Decide.{dec_le}
use lib.Dec.{ltb}
use lib.ListN.{length, take, drop, length-drop, length-take, take-append-drop}
use lib.Seq.{drop-drop}
use Rattle.cbor.specs.Item.{Item, Items, Pairs}
use Rattle.cbor.specs.Decode.{Outcome, refused, got, and_then, next, argument, heading, Heading, members, pairs, Major, unsigneds}
use Rattle.cbor.specs.Decode.{negatives, byte_strings, text_strings, arrays, maps, tags, others, major_of, content, decode_by}
use Rattle.cbor.specs.Strict.{short, strict_heading, head_by}
use Rattle.cbor.specs.Laws.{Suffix}
use Rattle.cbor.proofs.Heads.{next-got, next-cut}

-- what is left is l less at least j bytes
abbrev pub Tail : {A : Type 0} → List ℕ → ℕ → Outcome A → Type 0
Tail l j (refused k) = Unit {0}
Tail l j (got a t) = (k : ℕ) × (j ≤ k) × (k ≤ length l) × (t ≡ drop k l)

from : {A : Type 0} (l : List ℕ) (j m k : ℕ) (t : List ℕ) (o : Outcome A) → j ≤ k → k ≤ length l → t ≡ drop k l → Tail t m o
    → Tail l (j + m) o
from l j m k t (refused i) p q e h = tt
from l j m k t (got a u) p q e h =
    (k + h.0, omega (arith, h.1), omega (arith, h.2, ap length e, length-drop k l), h.3 ∙ rw e (drop-drop h.0 k l))

tail-then : {A B : Type 0} (l : List ℕ) (j m : ℕ) (o : Outcome A) (f : A → List ℕ → Outcome B)
    → Tail l j o → ((a : A) (t : List ℕ) → Tail t m (f a t)) → Tail l (j + m) (and_then o f)
tail-then l j m (refused k) f p q = tt
tail-then l j m (got a t) f p q = from l j m p.0 t (f a t) p.1 p.2 p.3 (q a t)

here : (t : List ℕ) → (k : ℕ) × (0 ≤ k) × (k ≤ length t) × (t ≡ drop k t)
here t = (0, omega arith, omega arith, refl)

tail-cond : {A : Type 0} (b : Bool) (l : List ℕ) (j : ℕ) (x y : Outcome A) → Tail l j x → Tail l j y → Tail l j (cond b x y)
tail-cond true l j x y p q = p
tail-cond false l j x y p q = q

least : {A : Type 0} (l : List ℕ) (i j : ℕ) (o : Outcome A) → i ≤ j → Tail l j o → Tail l i o
least l i j (refused k) p h = tt
least l i j (got a t) p h = (h.0, omega (arith, h.1), h.2, h.3)

next-tail : (n : ℕ) (l : List ℕ) → Tail l 0 (next n l)
next-tail n l = go (dec_le n (length l))
  where
    go : Dec (n ≤ length l) → Tail l 0 (next n l)
    go (yes h) = rw (next-got n l h) (n, omega arith, h, refl)
    go (no h) = let h' : length l < n = omega arith in rw (next-cut n l h') tt

argument-tail : (k : ℕ) (l : List ℕ) → Tail l 0 (argument k l)
unfolding argument
argument-tail k l =
    tail-cond (ltb k 24) l 0 _ _ (here l)
    (tail-cond (ltb 27 k) l 0 _ _ tt (tail-then l 0 0 (next (2 ^ (k - 24)) l) _ (next-tail (2 ^ (k - 24)) l) (λ bs t. here t)))

-- one byte in front
cons_tail : {A : Type 0} (b : ℕ) (l : List ℕ) (o : Outcome A) → Tail l 0 o → Tail (b ∷ l) 1 o
cons_tail b l (refused k) h = tt
cons_tail b l (got a t) h = (suc h.0, omega arith, omega (arith, h.2), h.3)

pub heading-tail : (l : List ℕ) → Tail l 1 (heading l)
unfolding heading
heading-tail [] = tt
heading-tail (b ∷ l) =
    cons_tail {A = Heading} b l (heading (b ∷ l)) (tail-then l 0 0 (argument (b % 32) l) _ (argument-tail (b % 32) l) (λ n t. here t))

module _ (item : List ℕ → Outcome Item) (shorter : (l : List ℕ) → Tail l 1 (item l)) where
  pub members-tail : (n : ℕ) (l : List ℕ) → Tail l n (members item n l)
  unfolding members
  members-tail zero l = here l
  members-tail (suc n) l =
      least {A = Items} l (suc n) (1 + (n + 0)) (members item (suc n) l) (omega arith)
      (tail-then l 1 (n + 0) (item l) _ (shorter l) (λ i t.
      tail-then t n 0 (members item n t) _ (members-tail n t) (λ is u. here u)))

  pairs-tail : (n : ℕ) (l : List ℕ) → Tail l 0 (pairs item n l)
  unfolding pairs
  pairs-tail zero l = here l
  pairs-tail (suc n) l =
      least {A = Pairs} l 0 (1 + (1 + (0 + 0))) (pairs item (suc n) l) (omega arith)
      (tail-then l 1 (1 + (0 + 0)) (item l) _ (shorter l) (λ k t.
      tail-then t 1 (0 + 0) (item t) _ (shorter t) (λ v u.
      tail-then u 0 0 (pairs item n u) _ (pairs-tail n u) (λ ps w. here w))))

  content-tail : (M : Major) (i a : ℕ) (l : List ℕ) → Tail l 0 (content item M i a l)
  content-tail unsigneds i a l = here l
  content-tail negatives i a l = here l
  content-tail byte_strings i a l = tail-then l 0 0 (next a l) _ (next-tail a l) (λ x t. here t)
  content-tail text_strings i a l = tail-then l 0 0 (next a l) _ (next-tail a l) (λ x t. here t)
  content-tail arrays i a l =
      least {A = Item} l 0 (a + 0) (content item arrays i a l) (omega arith)
      (tail-then l a 0 (members item a l) _ (members-tail a l) (λ x t. here t))
  content-tail maps i a l = tail-then l 0 0 (pairs item a l) _ (pairs-tail a l) (λ x t. here t)
  content-tail tags i a l =
      least {A = Item} l 0 (1 + 0) (content item tags i a l) (omega arith)
      (tail-then l 1 0 (item l) _ (shorter l) (λ x t. here t))
  content-tail others i a l = here l

module _ (head : List ℕ → Outcome Heading) (headed : (l : List ℕ) → Tail l 1 (head l)) where
  pub decode-by-tail : (d : ℕ) (l : List ℕ) → Tail l 1 (decode_by head d l)
  unfolding decode_by
  decode-by-tail zero l = tt
  decode-by-tail (suc d) l =
      tail-then l 1 0 (head l) _ (headed l) (λ h t.
      content-tail (decode_by head d) (decode-by-tail d) (major_of h.major) h.info h.argument t)

-- read strictly, or not
pub head_tail : (b : Bool) (l : List ℕ) → Tail l 1 (head_by b l)
unfolding strict_heading
head_tail true l = tail-then l 1 0 (heading l) _ (heading-tail l) (λ h t. tail-cond (short h) t 0 _ _ (here t) tt)
head_tail false l = heading-tail l

pub decode-tail : (b : Bool) (d : ℕ) (l : List ℕ) → Tail l 1 (decode_by (head_by b) d l)
decode-tail b d l = decode-by-tail (head_by b) (head_tail b) d l

-- the same as a front and what follows it
pub suffix : {A : Type 0} (n : ℕ) (s : List ℕ) (o : Outcome A) (a : A) (t : List ℕ) → Tail s n o → o ≡ got a t → Suffix n t s
suffix {A} n s o a t h e =
    let (k, l, m, f) : Tail {A = A} s n (got a t) = rw e at h in
    record {
      front = take k s;
      least = omega (arith, length-take k s);
      whole = rw f (sym (take-append-drop k s));
    }
