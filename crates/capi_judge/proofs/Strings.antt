-- Byte strings with shortest heads, one after the other, are what is written of them.
use Prim.Native.Nat.{ℕ, zero, suc, ◌+◌, ◌-◌, ◌%◌, ◌<◌, ◌≤◌}
use mathlib.Core.Path.{◌≡◌, refl, ap, sym, ◌∙◌}
use mathlib.Core.Bool.{Bool, true, false, cond, ◌&&◌, and-false}
use mathlib.Core.List.{List, [], ◌∷◌, ◌++◌, append_assoc}
use native.Mathlib.Omega.{arith}
use borrow.Author.Tests.{eq-eqb, ne_eqb, eqb-true, eqb-false, ltb-false, lt-ltb, le-leb, lt-leb, leb-false}
use lib.Dec.{leb, eqb, ltb}
use lib.ListN.{length, take, drop, get_or, length-append, length-drop, take-append-drop}
use lib.Seq.{drop-append_seam, get_or-drop, drop-drop, take-length, take-append_seam, length-take-le}
use Rattle.lemmas.specs.lists.Same.{same}
use Rattle.lemmas.specs.lists.SameLemmas.{same-equal}
use Rattle.cbor.specs.Decode.{Outcome, got, refused, heading, decode, major_of}
use Rattle.byte_io.specs.BigEndian.{bytes_of}
use Rattle.cbor.specs.Encode.{info_of, extra_of, shortest, encode}
use Rattle.cbor.specs.Item.{Item, bytes}
use Rattle.cbor.specs.View.{Scalar, number, minus, string, other, scalar_at, and_on, value_answer}
use Rattle.cbor.specs.Laws.{ItemLaws}
use Rattle.cojp.specs.Bytes.{members_at, member_of, Neither, MemberAt, MemberSpec}
use Rattle.cojp.specs.Lists.{Picked, nothing, picked, before, fitting, written, strings_in, list_answer, same_as, kept}
use Rattle.cojp.specs.Octets.{padded}
use Rattle.cojp.specs.declared.members.Member.{Member}
use Rattle.cojp.specs.declared.members.Member.TheVariants as mv
use Rattle.lemmas.specs.logic.Tests.{both_left, both_right, never}
use Rattle.capi_judge.specs.Kept.{list_in, short_at, made_of}

-- ---- bytes compared
pub same-front : (x a b : List ℕ) → same (x ++ a) (x ++ b) ≡ same a b
unfolding same
same-front [] a b = refl
same-front (y ∷ x) a b = rw (eq-eqb y y refl) (same-front x a b)

-- ---- the list is kept exactly if it is made of what is picked
made-small : (ps : List Scalar) (n : ℕ) (s : List ℕ) → length s ≤ 253 → leb (length (written ps)) 253 ≡ false
    → made_of (picked ps) n s ≡ false
made-small ps n s h e = go (same (written ps) s) refl
  where
    go : (b : Bool) → same (written ps) s ≡ b → made_of (picked ps) n s ≡ false
    go true f = absurd (omega (arith, leb-false (length (written ps)) 253 e, ap (λ (t : List ℕ). length t) (same-equal (written ps) s f)))
    go false f = rw f (and-false (eqb (length ps) n))

pub kept-so : (n : ℕ) (s : List ℕ) → length s ≤ 253 → kept strings_in (list_in n s) ≡ made_of (strings_in (members_at n s)) n s
unfolding kept same_as padded
kept-so n s h =
    rw (le-leb (length s) 253 h)
    (ap (λ (u : List ℕ). same_as (list_answer (fitting 253 (strings_in (members_at n u)))) (list_in n s)) (take-length s)
    ∙ go (strings_in (members_at n s)))
  where
    by : (ps : List Scalar) (b : Bool) → leb (length (written ps)) 253 ≡ b
        → same_as (list_answer (cond b (picked ps) nothing)) (list_in n s) ≡ made_of (picked ps) n s
    by ps true e = rw (take-append_seam (written ps) _, take-length s)
    by ps false e = sym (made-small ps n s h e)

    go : (q : Picked) → same_as (list_answer (fitting 253 q)) (list_in n s) ≡ made_of q n s
    go nothing = refl
    go (picked ps) = by ps (leb (length (written ps)) 253) refl

pub kept-not : (n : ℕ) (s : List ℕ) → 253 < length s → false ≡ kept strings_in (list_in n s)
unfolding kept
kept-not n s h = rw (lt-leb (length s) 253 h)

-- ---- the shortest head
one_byte : (n : ℕ) → ltb n 24 ≡ true → shortest 2 n ≡ (64 + n) ∷ []
unfolding shortest info_of extra_of bytes_of
one_byte n e = rw e

two_bytes : (n : ℕ) → n ≤ 253 → ltb n 24 ≡ false → shortest 2 n ≡ 88 ∷ n ∷ []
unfolding shortest info_of extra_of bytes_of
two_bytes n h e = let f : n % 256 ≡ n = omega arith in rw (e, lt-ltb n 256 (omega arith), f)

abbrev short_in : List ℕ → ℕ → Bool
short_in t n = cond (ltb n 24) (eqb (get_or t 0 0) (64 + n)) (eqb (get_or t 0 0) 88 && eqb (get_or t 1 0) n)

short-so : (s : List ℕ) (at n : ℕ) → short_in (drop at s) n ≡ short_at s at n
short-so s at n =
    let e : at + 0 ≡ at = omega arith in
    rw (get_or-drop at s 0 0, get_or-drop at s 1 0, e)

short-yes : (t : List ℕ) (n : ℕ) → n ≤ 253 → short_in t n ≡ true → (b : Bool) → ltb n 24 ≡ b → (u : List ℕ) × (t ≡ shortest 2 n ++ u)
short-yes [] n h e true f = absurd (omega (arith, eqb-true 0 (64 + n) (rw f at e)))
short-yes (x ∷ t) n h e true f = (t, rw (one_byte n f, eqb-true x (64 + n) (rw f at e)))
short-yes [] n h e false f = absurd (omega (arith, eqb-true 0 88 (both_left (eqb 0 88) (eqb 0 n) (rw f at e))))
short-yes (x ∷ []) n h e false f = absurd (omega (arith, ltb-false n 24 f, eqb-true 0 n (both_right (eqb x 88) (eqb 0 n) (rw f at e))))
short-yes (x ∷ y ∷ t) n h e false f =
    let g : (eqb x 88 && eqb y n) ≡ true = rw f at e in
    (t, rw (two_bytes n h f, eqb-true x 88 (both_left (eqb x 88) (eqb y n) g), eqb-true y n (both_right (eqb x 88) (eqb y n) g)))

short-all : (n : ℕ) (u : List ℕ) → n ≤ 253 → (b : Bool) → ltb n 24 ≡ b → short_in (shortest 2 n ++ u) n ≡ true
short-all n u h true f = rw (one_byte n f, f) (eq-eqb (64 + n) (64 + n) refl)
short-all n u h false f = rw (two_bytes n h f, f) (eq-eqb n n refl)

-- ---- one member
eqb-less : (l n : ℕ) → 0 < n → eqb (suc l) n ≡ eqb l (n - 1)
eqb-less l n h = go (eqb l (n - 1)) refl
  where
    go : (b : Bool) → eqb l (n - 1) ≡ b → eqb (suc l) n ≡ eqb l (n - 1)
    go true e = eq-eqb (suc l) n (omega (arith, eqb-true l (n - 1) e)) ∙ sym e
    go false e = ne_eqb (suc l) n (λ z. eqb-false l (n - 1) e (omega arith)) ∙ sym e

made-step : (b : List ℕ) (q : Picked) (n : ℕ) (t : List ℕ) → 0 < n
    → made_of (before (string b ∷ []) q) n (encode (bytes b) ++ t) ≡ made_of q (n - 1) t
made-step b nothing n t h = refl
made-step b (picked ps) n t h = rw (eqb-less (length ps) n h, same-front (encode (bytes b)) (written ps) t)

made-bad : (b : List ℕ) (q : Picked) (n : ℕ) (t : List ℕ) → ((r : List ℕ) → t ≡ encode (bytes b) ++ r → ⊥)
    → made_of (before (string b ∷ []) q) n t ≡ false
made-bad b nothing n t h = refl
made-bad b (picked ps) n t h = go (same (encode (bytes b) ++ written ps) t) refl
  where
    go : (x : Bool) → same (encode (bytes b) ++ written ps) t ≡ x → made_of (before (string b ∷ []) (picked ps)) n t ≡ false
    go true e = absurd (h (written ps) (sym (same-equal (encode (bytes b) ++ written ps) t e)))
    go false e = rw e (and-false (eqb (suc (length ps)) n))

-- ---- where the bytes of a string stand that has the shortest head
place_of : {p a : ℕ} (n : ℕ) (u : List ℕ) (b : Bool) → leb a (length u) ≡ b
    → mv.Bytes p a ≡ member_of (value_answer n (got (record { major = 2; info = info_of a; argument = a }) u)) → p ≡ n - length u
unfolding major_of
place_of {p} {a} n u true e f = let g : mv.Bytes p a ≡ mv.Bytes (n - length u) a = rw e at f in cc
place_of {p} {a} n u false e f = let g : mv.Bytes p a ≡ mv.Neither = rw e at f in absurd (let z : ◌≡◌ {A = ℕ} 0 1 = cc in omega arith)

-- ---- one turn of the loop
abbrev pub made : List ℕ → ℕ → ℕ → Bool
made s at left = made_of (strings_in (members_at left (drop at s))) left (drop at s)

-- there is a member where one is left
members-some : (n : ℕ) (l : List ℕ) → 0 < n → (p : Scalar) × (ps : List Scalar) × (members_at n l ≡ p ∷ ps)
members-some n l h =
    let e : n ≡ suc (n - 1) = omega arith in
    go (decode 6 l) (ap (λ (k : ℕ). members_at k l) e)
  where
    go : (o : Outcome Item) → members_at n l ≡ and_on (scalar_at l) o (λ t. members_at (n - 1) t)
        → (p : Scalar) × (ps : List Scalar) × (members_at n l ≡ p ∷ ps)
    go (refused k) e = (other, [], e)
    go (got i t) e = (scalar_at l, members_at (n - 1) t, e)

module _ (laws : ItemLaws) (s : List ℕ) (at left : ℕ) (v : Member) (e : MemberSpec s at left v) (some : 0 < left) where
  module _ (p a : ℕ) (g : v ≡ mv.Bytes p a) (few : length s ≤ 253) where
    here : MemberAt s at left (mv.Bytes p a)
    here = rw g at e.here

    abbrev b : List ℕ
    b = take a (drop p s)

    abbrev rest : Picked
    rest = strings_in (members_at (left - 1) (drop (p + a) s))

    pub inside : (p + a ≤ length s) × (a ≤ 253)
    inside = (here.1, omega (arith, here.1, few))

    long : length b ≡ a
    long = length-take-le a (drop p s) (omega (arith, length-drop p s, here.1))

    next : strings_in (members_at left (drop at s)) ≡ before (string b ∷ []) rest
    unfolding strings_in
    next = rw here.2

    encoded : encode (bytes b) ≡ shortest 2 a ++ b
    encoded = ap (λ (n : ℕ). shortest 2 n ++ b) long

    pub turn-not : short_at s at a ≡ false → made s at left ≡ false
    turn-not f =
        ap (λ (q : Picked). made_of q left (drop at s)) next
        ∙ made-bad b rest left (drop at s)
        (λ r z.
        let y : drop at s ≡ shortest 2 a ++ (b ++ r) = z ∙ ap (λ (x : List ℕ). x ++ r) encoded ∙ append_assoc (shortest 2 a) b r in
        never (short_at s at a)
        (sym (short-so s at a) ∙ ap (λ (x : List ℕ). short_in x a) y ∙ short-all a (b ++ r) inside.1 (ltb a 24) refl) f)

    answered : (u : List ℕ) → drop at s ≡ shortest 2 a ++ u
        → mv.Bytes p a ≡ member_of (value_answer (length s) (got (record { major = 2; info = info_of a; argument = a }) u))
    answered u z =
        let read = ap heading z ∙ laws.head_read 2 a u (omega (arith, inside.1)) in
        let z0 : left ≡ 0 → ⊥ = λ w. omega arith in
        sym g ∙ e.is ∙ rw (ne_eqb left 0 z0, read)

    whole : at ≤ length s → (u : List ℕ) → drop at s ≡ shortest 2 a ++ u → drop at s ≡ encode (bytes b) ++ drop (p + a) s
    whole h u z =
        let sh = shortest 2 a in
        let l : length s - at ≡ length sh + length u = sym (length-drop at s) ∙ ap (λ (x : List ℕ). length x) z ∙ length-append sh u in
        let w : p ≡ length s - length u = place_of (length s) u (leb a (length u)) refl (answered u z) in
        let q : at + length sh ≡ p = omega arith in
        let d : drop p s ≡ u = ap (λ (n : ℕ). drop n s) (sym q) ∙ sym (drop-drop (length sh) at s) ∙ ap (drop (length sh)) z
        ∙ drop-append_seam sh u in
        let t : u ≡ b ++ drop (p + a) s =
        sym d ∙ sym (take-append-drop a (drop p s)) ∙ ap (λ (x : List ℕ). b ++ x) (drop-drop a p s) in
        z ∙ ap (λ (x : List ℕ). sh ++ x) t ∙ sym (append_assoc sh b (drop (p + a) s))
        ∙ ap (λ (x : List ℕ). x ++ drop (p + a) s) (sym encoded)

    pub turn-yes : at ≤ length s → short_at s at a ≡ true → made s at left ≡ made s (p + a) (left - 1)
    turn-yes h f =
        let (u, z) = short-yes (drop at s) a inside.1 (short-so s at a ∙ f) (ltb a 24) refl in
        ap (λ (q : Picked). made_of q left (drop at s)) next
        ∙ ap (made_of (before (string b ∷ []) rest) left) (whole h u z)
        ∙ made-step b rest left (drop (p + a) s) some

  pub turn-broken : ((p a : ℕ) → ¬ (v ≡ mv.Bytes p a)) → made s at left ≡ false
  unfolding strings_in
  turn-broken no-string = ap (λ (q : Picked). made_of q left (drop at s)) (go v e.here no-string)
    where
      none : (p : Scalar) (ps : List Scalar) → Neither (p ∷ ps) → strings_in (p ∷ ps) ≡ nothing
      none (number x) ps w = absurd w
      none (minus x) ps w = refl
      none (string x) ps w = absurd w
      none other ps w = refl

      go : (v : Member) → MemberAt s at left v → ((p a : ℕ) → ¬ (v ≡ mv.Bytes p a)) → strings_in (members_at left (drop at s)) ≡ nothing
      go (mv.Number x p) w no-string = rw w.1
      go (mv.Bytes p a) w no-string = absurd (no-string p a refl)
      go mv.Neither w no-string = let (p, ps, f) = members-some left (drop at s) some in rw f (none p ps (rw f at w))

-- ---- where n are left, as the code counts them down
pub counted : (s : List ℕ) (at n : ℕ) (v : Member) → 0 < n → MemberSpec s at (n - 1 + 1) v → MemberSpec s at n v
counted s at n v h e = let z : n - 1 + 1 ≡ n = omega arith in rw z at e

-- ---- nothing is left to ask
pub made-end : (s : List ℕ) (at left : ℕ) → left ≡ 0 → at ≤ length s → eqb at (length s) ≡ made s at left
unfolding strings_in same
made-end s at left z h = rw z (go (drop at s) (length-drop at s))
  where
    go : (t : List ℕ) → length t ≡ length s - at → eqb at (length s) ≡ same [] t
    go [] e = eq-eqb at (length s) (omega arith)
    go (x ∷ t) e = ne_eqb at (length s) (λ w. omega arith)

pub past_end : (s : List ℕ) (i : ℕ) → length s ≤ i → get_or s i 0 ≡ 0
past_end [] i h = refl
past_end (x ∷ s) zero h = absurd (omega arith)
past_end (x ∷ s) (suc i) h = past_end s i (omega arith)
