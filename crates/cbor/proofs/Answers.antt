-- Between the equations of specs/Answer and what Places says:
-- each answer is determined by the bytes that are left, and says where they begin.
use Rattle.std.specs.Prelude.{Result, Ok, Err}
use Prim.Native.Nat.{ℕ, ◌+◌, ◌-◌, ◌≤◌}
use mathlib.Core.Path.{◌≡◌, refl, ap, sym, ◌∙◌}
use mathlib.Core.Bool.{Bool, false}
use mathlib.Core.List.{List}
use native.Mathlib.Omega.{arith}
use lib.ListN.{length, drop, length-drop}
use lib.Seq.{drop-drop}
use Rattle.refusal.specs.Verdict.{verdict_number}
use Rattle.refusal.specs.declared.Refusal.{Refusal}
use Rattle.cbor.specs.Item.{Item}
use Rattle.cbor.specs.Decode.{Outcome, refused, got, heading, Heading, members, decode_by}
use Rattle.cbor.specs.Strict.{head_by}
use Rattle.cbor.specs.Answer.{head_answer, skip_answer, scan_answer, outcome_number, head_number, skip_number}
use Rattle.cbor.specs.ReaderSpecs.{says_end, SkipSpec}
use Rattle.cbor.specs.declared.head.Head.{Head}
use Rattle.cbor.proofs.Places.{plainly, HeadAt, stop, rest, Passed}
use Rattle.cbor.proofs.Tails.{Tail, head_tail, decode-tail, members-tail}

-- where s is passed as far as p, p is what is left over
left_over : (s t : List ℕ) (p : ℕ) → p ≤ length s → drop p s ≡ t → p ≡ length s - length t
left_over s t p i e = omega (arith, ap length e, length-drop p s)

-- ---- to the equations
pub skip-answer : {A : Type 0} (s : List ℕ) (o : Outcome A) (r : Result ℕ Refusal) → Passed s o r → r ≡ skip_answer (length s) o
skip-answer s (refused k) (Err j) q = let e : stop j ≡ stop k = q.says in cc
skip-answer s (refused k) (Ok p) q = let e : rest (drop p s) ≡ stop k = q.says in cc
skip-answer s (got a t) (Err j) q = let e : stop j ≡ rest t = q.says in cc
skip-answer s (got a t) (Ok p) q =
    let e : rest (drop p s) ≡ rest t = q.says in
    let f : drop p s ≡ t = cc in
    ap Ok (left_over s t p q.inside f)

pub tells-number : {A : Type 0} (n : ℕ) (o : Outcome A) → skip_number (skip_answer n o) ≡ outcome_number o
tells-number n (refused k) = refl
tells-number n (got a t) = refl

pub head-number : (n : ℕ) (o : Outcome Heading) → head_number (head_answer n o) ≡ outcome_number o
head-number n (refused k) = refl
head-number n (got h t) = refl

pub scan-number : {A : Type 0} (o : Outcome A) → verdict_number (scan_answer o) ≡ outcome_number o
scan-number (refused k) = refl
scan-number (got a t) = refl

tells-end : {A : Type 0} (s : List ℕ) (o : Outcome A) (r : Result ℕ Refusal) → Passed s o r → says_end s o r
tells-end s (refused k) (Err j) q = refl
tells-end s (refused k) (Ok p) q = let e : rest (drop p s) ≡ stop k = q.says in cc
tells-end s (got a t) (Err j) q = let e : stop j ≡ rest t = q.says in cc
tells-end s (got a t) (Ok p) q = let e : rest (drop p s) ≡ rest t = q.says in cc

pub skip-tells : {A : Type 0} (s : List ℕ) (o : Outcome A) (r : Result ℕ Refusal) → Passed s o r → SkipSpec s o r
skip-tells s o r q =
    let e = skip-answer s o r q in
    record { is = e; number = rw e (tells-number (length s) o); end = tells-end s o r q }

-- ---- from the equations
-- what is left of drop at s, k bytes further, begins at the length less what is left
pub place : (s t : List ℕ) (at k : ℕ) → at ≤ length s → k ≤ length (drop at s) → t ≡ drop k (drop at s)
    → (t ≡ drop (length s - length t) s) × (length s - length t ≤ length s)
place s t at k l h e =
    let f : t ≡ drop (at + k) s = e ∙ drop-drop k at s in
    let g : length s - length t ≡ at + k = omega (arith, ap length f, length-drop (at + k) s, length-drop at s) in
    (rw g f, omega arith)

-- no byte is taken past the end
pub within : (s : List ℕ) (at k : ℕ) → 1 ≤ k → k ≤ length (drop at s) → at ≤ length s
within s at k l h = omega (arith, length-drop at s)

pub head-says : (b : Bool) (s : List ℕ) (at : ℕ) (r : Result Head Refusal) → r ≡ head_answer (length s) (head_by b (drop at s)) → HeadAt b s at r
head-says b s at r e = rw e (go (head_by b (drop at s)) (head_tail b (drop at s)) refl)
  where
    go : (o : Outcome Heading) → Tail (drop at s) 1 o → o ≡ head_by b (drop at s) → HeadAt b s at (head_answer (length s) o)
    go (refused k) t e = record { says = e; inside = tt }
    go (got h t) (k, x, y, z) e =
        let q = place s t at k (within s at k x y) y z in
        record { says = ap (got h) (sym q.0) ∙ e; inside = q.1 }

-- the same in the arm of a head that was got
pub got-says : (b : Bool) (s : List ℕ) (at : ℕ) (r : Result Head Refusal) → r ≡ head_answer (length s) (head_by b (drop at s))
    → (h : Head) → r ≡ Ok h → HeadAt b s at (Ok h)
got-says b s at r e h g = rw g at (head-says b s at r e)

passed : {A : Type 0} (s : List ℕ) (at j : ℕ) (o : Outcome A) (r : Result ℕ Refusal) → at ≤ length s → Tail (drop at s) j o
    → r ≡ skip_answer (length s) o → Passed s o r
passed s at j (refused k) r l t e = rw e (record { says = refl; inside = tt })
passed s at j (got a u) r l t e =
    let q = place s u at t.0 l t.2 t.3 in
    rw e (record { says = ap rest (sym q.0); inside = q.1 })

module _ (b : Bool) (s : List ℕ) (at d : ℕ) where
  abbrev item : List ℕ → Outcome Item
  item = decode_by (head_by b) d

  pub passed-item : (r : Result ℕ Refusal) → r ≡ skip_answer (length s) (item (drop at s)) → Passed s (item (drop at s)) r
  passed-item r e = go (item (drop at s)) (decode-tail b d (drop at s)) e
    where
      go : (o : Outcome Item) → Tail (drop at s) 1 o → r ≡ skip_answer (length s) o → Passed s o r
      go (refused k) t e = rw e (record { says = refl; inside = tt })
      go (got i u) t e = passed s at 1 (got i u) r (within s at t.0 t.1 t.2) t e

  pub passed-members : (n : ℕ) (r : Result ℕ Refusal) → at ≤ length s
      → r ≡ skip_answer (length s) (members item n (drop at s)) → Passed s (members item n (drop at s)) r
  passed-members n r l e = passed s at n (members item n (drop at s)) r l (members-tail item (decode-tail b d) n (drop at s)) e

-- ---- which outcome there was
pub passed-got : {A : Type 0} (s : List ℕ) (o : Outcome A) (p : ℕ) → Passed s o (Ok p) → (a : A) × (o ≡ got a (drop p s))
passed-got s (refused k) p q =
    let e : rest (drop p s) ≡ stop k = q.says in
    absurd (let z : ◌≡◌ {A = ℕ} 0 1 = cc in omega arith)
passed-got s (got a t) p q =
    let e : rest (drop p s) ≡ rest t = q.says in
    let f : t ≡ drop p s = cc in
    (a, ap (got a) f)

pub passed-refused : {A : Type 0} (s : List ℕ) (o : Outcome A) (k : Refusal) → Passed s o (Err k) → o ≡ refused k
passed-refused s (refused j) k q = let e : stop k ≡ stop j = q.says in cc
passed-refused s (got a t) k q = let e : stop k ≡ rest t = q.says in cc

-- ---- in the arm of a head that was refused, or got
module _ (s : List ℕ) (at : ℕ) (r : Result Head Refusal) (e : r ≡ head_answer (length s) (heading (drop at s))) where
  pub head-refused : (k : Refusal) → r ≡ Err k → heading (drop at s) ≡ refused k
  head-refused k g = let h : HeadAt false s at (Err k) = rw g at (head-says false s at r e) in sym h.says

  module _ (h : Head) (g : r ≡ Ok h) where
    pub head_at : HeadAt false s at (Ok h)
    head_at = rw g at (head-says false s at r e)

    pub head-got : heading (drop at s) ≡ got (plainly h) (drop h.next s)
    head-got = sym head_at.says

    pub head-inside : h.next ≤ length s
    head-inside = head_at.inside

    pub head-place : length s - length (drop h.next s) ≡ h.next
    head-place = sym (left_over s (drop h.next s) h.next head-inside refl)
