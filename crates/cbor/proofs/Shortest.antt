-- No head that is read as a major type and an argument is shorter than the one that is written:
-- a head with w bytes of argument holds a number below 256 ^ w, for which the written head has at most w.
use Prim.Native.Nat.{ℕ, zero, suc, ◌+◌, ◌*◌, ◌-◌, ◌%◌, ◌^◌, ◌≤◌, ◌<◌}
use mathlib.Core.Path.{◌≡◌, refl, ap, sym, ◌∙◌}
use mathlib.Core.Bool.{Bool, true, false, cond}
use lib.Dec.{ltb, eqb}
use mathlib.Core.List.Memᴰ
use mathlib.Core.List.{List, [], ◌∷◌, ◌++◌}
use mathlib.Core.Logic.{◌⊎◌, inl, inr, ⊎_elim}
use native.Mathlib.Omega.{arith}
use native.Mathlib.Decide.{dec_lt, dec_le}
use native.Mathlib.Nat.{zero-add}
use borrow.Author.Tests.{le-ltb, lt-ltb, eq-eqb, ne_eqb, eqb-true, eqb-false}
use lib.ListN.{length, take, drop, length-drop, length-take, take-append-drop}
use Rattle.byte_io.specs.BigEndian.{digits, big_endian}
use Rattle.lemmas.specs.lists.BigEndian.{grows}
use Rattle.cbor.specs.Decode.{got, argument, heading, Heading}
use Rattle.cbor.specs.Encode.{info_of, extra_of, shortest}
use Rattle.cbor.specs.Strict.{is_short, short}
use Rattle.cbor.specs.Laws.{Suffix, Bytes}
use Rattle.cbor.proofs.Heads.{next-got, next-cut, argument-direct, argument-form, argument-wide}
use Rattle.cbor.proofs.Outcomes.{never, then-got, same-value, same_rest}
use Rattle.cbor.proofs.HeadLengths.{length-head}

pub digits-below : (w i v : ℕ) (s : List ℕ) → Bytes s → v < 256 ^ i → w ≤ length s → digits v (take w s) < 256 ^ (i + w)
unfolding digits
digits-below zero i v s b h l = let e : i + 0 ≡ i = omega arith in rw e h
digits-below (suc w) i v [] b h l = absurd (omega arith)
digits-below (suc w) i v (x ∷ s) b h l =
    let e : i + suc w ≡ i + 1 + w = omega arith in
    rw e
    (digits-below w (i + 1) (v * 256 + x) s (λ y m. b y (Memᴰ.tail m)) (grows v x i h (b x (Memᴰ.head refl))) (omega arith))

-- the written head's bytes, by how large the argument is
record Extra (n : ℕ) : Type 0 where
  none : n < 24 → extra_of n ≤ 0
  one : n < 256 ^ 1 → extra_of n ≤ 1
  two : n < 256 ^ 2 → extra_of n ≤ 2
  four : n < 256 ^ 4 → extra_of n ≤ 4
  eight : extra_of n ≤ 8

extra : (n : ℕ) → Extra n
unfolding extra_of
extra n = go (dec_lt n 24) (dec_lt n 256) (dec_lt n 65536) (dec_lt n 4294967296)
  where
    at_most : (k : ℕ) → extra_of n ≡ k → (24 ≤ n ⊎ k ≤ 0) → (256 ≤ n ⊎ k ≤ 1) → (65536 ≤ n ⊎ k ≤ 2) → (4294967296 ≤ n ⊎ k ≤ 4) → k ≤ 8
        → Extra n
    at_most k e a b c d f = record {
      none = λ h. ⊎_elim (λ l. absurd (omega arith)) (λ l. rw e l) a;
      one = λ h. ⊎_elim (λ l. absurd (omega arith)) (λ l. rw e l) b;
      two = λ h. ⊎_elim (λ l. absurd (omega arith)) (λ l. rw e l) c;
      four = λ h. ⊎_elim (λ l. absurd (omega arith)) (λ l. rw e l) d;
      eight = rw e f;
    }

    go : Dec (n < 24) → Dec (n < 256) → Dec (n < 65536) → Dec (n < 4294967296) → Extra n
    go (yes a) b c d =
        at_most 0 (simp (lt-ltb n 24 a)) (inr (omega arith)) (inr (omega arith)) (inr (omega arith)) (inr (omega arith)) (omega arith)
    go (no a) (yes b) c d =
        let a' : 24 ≤ n = omega arith in
        at_most 1 (simp (le-ltb n 24 a', lt-ltb n 256 b)) (inl a') (inr (omega arith)) (inr (omega arith)) (inr (omega arith)) (omega arith)
    go (no a) (no b) (yes c) d =
        let a' : 24 ≤ n = omega arith in
        let b' : 256 ≤ n = omega arith in
        at_most 2 (simp (le-ltb n 24 a', le-ltb n 256 b', lt-ltb n 65536 c)) (inl a') (inl b') (inr (omega arith))
        (inr (omega arith)) (omega arith)
    go (no a) (no b) (no c) (yes d) =
        let a' : 24 ≤ n = omega arith in
        let b' : 256 ≤ n = omega arith in
        let c' : 65536 ≤ n = omega arith in
        at_most 4 (simp (le-ltb n 24 a', le-ltb n 256 b', le-ltb n 65536 c', lt-ltb n 4294967296 d)) (inl a') (inl b') (inl c')
        (inr (omega arith)) (omega arith)
    go (no a) (no b) (no c) (no d) =
        let a' : 24 ≤ n = omega arith in
        let b' : 256 ≤ n = omega arith in
        let c' : 65536 ≤ n = omega arith in
        let d' : 4294967296 ≤ n = omega arith in
        at_most 8 (simp (le-ltb n 24 a', le-ltb n 256 b', le-ltb n 65536 c', le-ltb n 4294967296 d')) (inl a') (inl b') (inl c')
        (inl d') (omega arith)

-- the bytes of an argument that were read are as many as the written head has, at least
wide-extra : (k n : ℕ) → 24 ≤ k → k ≤ 27 → n < 256 ^ (2 ^ (k - 24)) → extra_of n ≤ 2 ^ (k - 24)
wide-extra k n l h b = go (k - 24) (omega arith) b
  where
    go : (j : ℕ) → j ≤ 3 → n < 256 ^ (2 ^ j) → extra_of n ≤ 2 ^ j
    go zero l b = (extra n).one b
    go (suc zero) l b = (extra n).two b
    go (suc (suc zero)) l b = (extra n).four b
    go (suc (suc (suc zero))) l b = (extra n).eight
    go (suc (suc (suc (suc j)))) l b = absurd (omega arith)

-- what is left after an argument that was read
argument-least : (k : ℕ) (s : List ℕ) (n : ℕ) (t : List ℕ) → Bytes s → argument k s ≡ got n t → Suffix (extra_of n) t s
argument-least k s n t b e = go (dec_lt k 24) (dec_lt 27 k)
  where
    wide : 24 ≤ k → k ≤ 27 → Dec (2 ^ (k - 24) ≤ length s) → Suffix (extra_of n) t s
    wide l h (yes f) =
        let w = 2 ^ (k - 24) in
        let g : got (big_endian (take w s)) (drop w s) ≡ got n t = rw (argument-wide k s l h, next-got w s f) at e in
        let m : n < 256 ^ w = rw (← same-value g) (rw (zero-add w) at (digits-below w 0 0 s b (omega arith) f)) in
        record {
          front = take w s;
          least = omega (arith, length-take w s, wide-extra k n l h m);
          whole = rw (← same_rest g) (sym (take-append-drop w s));
        }
    wide l h (no f) =
        let f' : length s < 2 ^ (k - 24) = omega arith in
        absurd (never (rw (argument-wide k s l h, next-cut (2 ^ (k - 24)) s f') at e))

    go : Dec (k < 24) → Dec (27 < k) → Suffix (extra_of n) t s
    go (yes a) b =
        let g : got k s ≡ got n t = rw (argument-direct k s a) at e in
        record { front = []; least = (extra n).none (rw (← same-value g) a); whole = same_rest g }
    go (no a) (yes b) = absurd (never (rw (argument-form k s b) at e))
    go (no a) (no b) = wide (omega arith) (omega arith) (dec_le (2 ^ (k - 24)) (length s))

pub head-shortest : (s : List ℕ) (h : Heading) (t : List ℕ) → Bytes s → heading s ≡ got h t
    → Suffix (length (shortest h.major h.argument)) t s
unfolding heading
head-shortest [] h t b e = absurd (never e)
head-shortest (x ∷ s) h t b e =
    let (n, u, f, g) = then-got (argument (x % 32) s) _ h t e in
    let q = argument-least (x % 32) s n u (λ y m. b y (Memᴰ.tail m)) f in
    let a : h.argument ≡ n = ap (λ (k : Heading). k.argument) (sym (same-value g)) in
    record {
      front = x ∷ q.front;
      least = omega (arith, q.least, length-head h.major h.argument, ap extra_of a);
      whole = ap (λ (r : List ℕ). x ∷ r) q.whole ∙ ap (λ (r : List ℕ). x ∷ (q.front ++ r)) (same_rest g);
    }

-- ---- the flag of a head: it has as many bytes as the one that is written
eqb_same : (a b c d : ℕ) → (a ≡ b → c ≡ d) → (c ≡ d → a ≡ b) → eqb a b ≡ eqb c d
eqb_same a b c d f g = go (eqb a b) refl
  where
    go : (x : Bool) → eqb a b ≡ x → eqb a b ≡ eqb c d
    go true e = e ∙ sym (eq-eqb c d (f (eqb-true a b e)))
    go false e = e ∙ sym (ne_eqb c d (λ h. eqb-false a b e (g h)))

-- the written head's length information says how many bytes follow its first
info-extra : (k n : ℕ) → 24 ≤ k → k ≤ 27 → eqb k (info_of n) ≡ eqb (2 ^ (k - 24)) (extra_of n)
unfolding info_of extra_of
info-extra k n l h = let e : k ≡ 24 + (k - 24) = omega arith in rw e (by (k - 24) (omega arith) (dec_lt n 24))
  where
    wide : (j : ℕ) → j ≤ 3 → (b c d : Bool)
        → eqb (24 + j) (cond b 24 (cond c 25 (cond d 26 27))) ≡ eqb (2 ^ (24 + j - 24)) (cond b 1 (cond c 2 (cond d 4 8)))
    wide zero l true c d = refl
    wide zero l false true d = refl
    wide zero l false false true = refl
    wide zero l false false false = refl
    wide (suc zero) l true c d = refl
    wide (suc zero) l false true d = refl
    wide (suc zero) l false false true = refl
    wide (suc zero) l false false false = refl
    wide (suc (suc zero)) l true c d = refl
    wide (suc (suc zero)) l false true d = refl
    wide (suc (suc zero)) l false false true = refl
    wide (suc (suc zero)) l false false false = refl
    wide (suc (suc (suc zero))) l true c d = refl
    wide (suc (suc (suc zero))) l false true d = refl
    wide (suc (suc (suc zero))) l false false true = refl
    wide (suc (suc (suc zero))) l false false false = refl
    wide (suc (suc (suc (suc j)))) l b c d = absurd (omega arith)

    none : (j : ℕ) → j ≤ 3 → eqb (2 ^ (24 + j - 24)) 0 ≡ false
    none zero l = refl
    none (suc zero) l = refl
    none (suc (suc zero)) l = refl
    none (suc (suc (suc zero))) l = refl
    none (suc (suc (suc (suc j)))) l = absurd (omega arith)

    by : (j : ℕ) → j ≤ 3 → Dec (n < 24) → eqb (24 + j) (info_of n) ≡ eqb (2 ^ (24 + j - 24)) (extra_of n)
    by j l (yes a) = simp (lt-ltb n 24 a) (ne_eqb (24 + j) n (λ e. omega arith) ∙ sym (none j l))
    by j l (no a) = let a' : 24 ≤ n = omega arith in simp (le-ltb n 24 a') (wide j l (ltb n 256) (ltb n 65536) (ltb n 4294967296))

small-info : (n : ℕ) → n < 24 → info_of n ≡ n
unfolding info_of
small-info n h = simp (lt-ltb n 24 h)

small-extra : (n : ℕ) → n < 24 → extra_of n ≡ 0
unfolding extra_of
small-extra n h = simp (lt-ltb n 24 h)

argument-flag : (k n : ℕ) (s u : List ℕ) → argument k s ≡ got n u → eqb k (info_of n) ≡ eqb (suc (length s)) (extra_of n + 1 + length u)
argument-flag k n s u e = go (dec_lt k 24) (dec_lt 27 k)
  where
    wide : 24 ≤ k → k ≤ 27 → Dec (2 ^ (k - 24) ≤ length s) → eqb k (info_of n) ≡ eqb (suc (length s)) (extra_of n + 1 + length u)
    wide l h (yes f) =
        let w = 2 ^ (k - 24) in
        let g : got (big_endian (take w s)) (drop w s) ≡ got n u = rw (argument-wide k s l h, next-got w s f) at e in
        let m : length u ≡ length s - w = ap length (sym (same_rest g)) ∙ length-drop w s in
        info-extra k n l h ∙ eqb_same w (extra_of n) (suc (length s)) (extra_of n + 1 + length u) (λ q. omega arith) (λ q. omega arith)
    wide l h (no f) =
        let f' : length s < 2 ^ (k - 24) = omega arith in
        absurd (never (rw (argument-wide k s l h, next-cut (2 ^ (k - 24)) s f') at e))

    go : Dec (k < 24) → Dec (27 < k) → eqb k (info_of n) ≡ eqb (suc (length s)) (extra_of n + 1 + length u)
    go (yes a) b =
        let g : got k s ≡ got n u = rw (argument-direct k s a) at e in
        let i : k ≡ n = same-value g in
        let j : length s ≡ length u = ap length (same_rest g) in
        let c : n < 24 = omega arith in
        eq-eqb k (info_of n) (i ∙ sym (small-info n c))
        ∙ sym (eq-eqb (suc (length s)) (extra_of n + 1 + length u) (omega (arith, small-extra n c)))
    go (no a) (yes b) = absurd (never (rw (argument-form k s b) at e))
    go (no a) (no b) = wide (omega arith) (omega arith) (dec_le (2 ^ (k - 24)) (length s))

flag-of : (h : Heading) (s t u : List ℕ) (k n : ℕ) → ¬ (h.major ≡ 7) → k ≡ h.info → n ≡ h.argument → u ≡ t → argument k s ≡ got n u
    → short h ≡ eqb (suc (length s)) (length (shortest h.major h.argument) + length t)
unfolding is_short
flag-of h s t u k n m i a r f =
    rw (ne_eqb h.major 7 m, length-head h.major h.argument, ← i, ← a, ← r) (argument-flag k n s u f)

pub head-flag : (s : List ℕ) (h : Heading) (t : List ℕ) → heading s ≡ got h t → ¬ (h.major ≡ 7)
    → short h ≡ eqb (length s) (length (shortest h.major h.argument) + length t)
unfolding heading
head-flag [] h t e m = absurd (never e)
head-flag (x ∷ s) h t e m =
    let (n, u, f, g) = then-got (argument (x % 32) s) _ h t e in
    flag-of h s t u (x % 32) n m (ap (λ (k : Heading). k.info) (same-value g))
    (ap (λ (k : Heading). k.argument) (same-value g)) (same_rest g) f
