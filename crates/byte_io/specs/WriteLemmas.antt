-- Lemmas: how the contents of a destination compose:
-- what is written to its front, and then to the lent part after it, is written one after the other.
-- These facts hold by lists alone, of any bytes.
use Rattle.std.specs.Prelude.{ℕ, ◌+◌, ◌-◌, ◌≤◌, ◌<◌, ◌≡◌, refl, List, [], ◌++◌, length, take, drop, Result, Ok, Err}
use Rattle.std.proofs.Common.{ap, sym, ◌∙◌, append_assoc, append-nil, arith, le-leb, length-append, length-drop, drop_of_length-le, drop-drop, take_at, drop_at, take_all}
use Rattle.std.proofs.lemmas.Bool.{lt-leb}
use Rattle.refusal.specs.declared.Refusal.{Refusal}
use Rattle.refusal.specs.declared.Refusal.TheVariants.{Room}
use Rattle.byte_io.specs.Write.{refuse, emit, Did, Wrote}

-- ---- bytes in front of a destination
module _ {p d d' : List ℕ} {n : ℕ} (w : Wrote p d n d') (fits : length p ≤ length d) where
  pub wrote-length : length d' ≡ length d
  wrote-length = ap length w.holds ∙ simp (length-append, length-drop) (omega arith)

  rest-is : take (length d' - n) (drop n d') ≡ drop (length p) d
  rest-is =
      take_all (length d' - n) (drop n d') (omega (arith, length-drop n d'))
      ∙ ap (drop n) w.holds ∙ drop_at p (drop (length p) d) n (sym w.many)

-- p was written, and then q in the part that was lent
pub seam : {p q d d' e : List ℕ} {n m : ℕ} → length p + length q ≤ length d → Wrote p d n d'
    → Wrote q (take (length d' - n) (drop n d')) m e
    → Wrote (p ++ q) d (n + m) (take n d' ++ (e ++ drop (length d' - n) (drop n d')))
seam {p} {q} {d} {d'} {e} {n} {m} h w v =
    let f : length p ≤ length d = omega arith in
    let end : drop (length d' - n) (drop n d') ≡ [] =
    drop_of_length-le (drop n d') {i = length d' - n} (omega (arith, length-drop n d')) in
    let front : take n d' ≡ p = ap (take n) w.holds ∙ take_at p (drop (length p) d) n (sym w.many) in
    let mid : e ≡ q ++ drop (length q) (drop (length p) d) = v.holds ∙ rw (rest-is w f) in
    record {
      many = omega (arith, w.many, v.many, length-append p q);
      holds = rw (end, front, mid, append-nil, drop-drop (length q) (length p) d, append_assoc p q, length-append p q);
    }

-- the same, counted otherwise
pub wrote_as : {p d d' : List ℕ} {n : ℕ} (m : ℕ) → m ≡ length p → Wrote p d n d' → Wrote p d m d'
wrote_as m e w = record { many = e; holds = w.holds }

-- nothing
pub wrote_none : (d : List ℕ) → Wrote [] d 0 d
wrote_none d = record { many = refl; holds = refl }

-- ---- from within to without
pub did-refuse : (k : Refusal) (d : List ℕ) → Did (refuse k) d (Err k) d
did-refuse k d = record { says = refl; holds = refl }

pub did-emit : {p d d' : List ℕ} {n : ℕ} → length p ≤ length d → Wrote p d n d' → Did (emit p) d (Ok n) d'
did-emit {p} {d} h w =
    let fits = le-leb (length p) (length d) h in
    record { says = simp fits (ap Ok w.many); holds = simp fits w.holds }

pub did-room : (p d : List ℕ) → length d < length p → Did (emit p) d (Err Room) d
did-room p d h = record { says = simp (lt-leb (length p) (length d) h); holds = simp (lt-leb (length p) (length d) h) }

-- what a caller that knows of the room learns
pub did-kept : (p d : List ℕ) (r : Result ℕ Refusal) (d' : List ℕ) → length p ≤ length d → Did (emit p) d r d' → Wrote p d (length p) d'
did-kept p d r d' h w = record { many = refl; holds = simp (le-leb (length p) (length d) h) at w.holds }

pub did-done : (p d : List ℕ) (r : Result ℕ Refusal) (d' : List ℕ) (n : ℕ) → length p ≤ length d → Did (emit p) d r d' → r ≡ Ok n
    → Wrote p d n d'
did-done p d r d' n h w e =
    let f : r ≡ Ok (length p) = simp (le-leb (length p) (length d) h) at w.says in
    wrote_as n (cc) (did-kept p d r d' h w)

pub did_never : (p d : List ℕ) (r : Result ℕ Refusal) (d' : List ℕ) (k : Refusal) → length p ≤ length d → Did (emit p) d r d' → r ≡ Err k
    → ⊥
did_never p d r d' k h w e =
    let f : r ≡ Ok (length p) = simp (le-leb (length p) (length d) h) at w.says in
    let z : ◌≡◌ {A = ℕ} 0 1 = cc in
    omega arith
