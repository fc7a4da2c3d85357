-- Lemmas: nothing here has to be believed.
-- Parts one after the other are read one at a time; a part is written over the one that stands at its place.
use Rattle.std.specs.Prelude.{true, false, ℕ, zero, suc, ◌+◌, ◌-◌, ◌<◌, ◌≤◌, Bool, ◌&&◌, ◌*◌, List, [], ◌∷◌, ◌++◌, ◌≡◌, refl, length, take, drop, get_or, set}
use Rattle.std.proofs.Common.{append_assoc, append-nil, add-one, take-suc, take-suc-set, ap, ap₂, sym, ◌∙◌, arith, length-drop, drop_of_length-le, drop-drop, take_all, take_at, drop_at}
use Rattle.std.proofs.Math.Nat.{mul-suc}
use Rattle.byte_io.specs.BigEndian.{digits, big_endian}
use Rattle.byte_io.specs.Write.{Wrote}
use Rattle.image.specs.Fields.{next_field, wrote-same}
use Rattle.image.specs.Part.{Part, gets, puts, goods}

module _ {A : Type 0} (p : Part A) where
  -- the first of so many parts, and those after it
  pub next-gets : (s : List ℕ) (k left : ℕ) → 0 < left
      → gets p left (drop k s) ≡ p.get (drop k s) ∷ gets p (left - 1) (drop (k + p.size) s)
  next-gets s k zero h = absurd (omega arith)
  next-gets s k (suc m) h =
      let e : m ≡ suc m - 1 = omega arith in
      ap₂ (λ (n : ℕ) (t : List ℕ). p.get (drop k s) ∷ gets p n t) e (drop-drop p.size k s)

  pub take-gets : (n m : ℕ) (t : List ℕ) → n ≤ m → take n (gets p m t) ≡ gets p n t
  take-gets zero m t h = refl
  take-gets (suc n) zero t h = absurd (omega arith)
  take-gets (suc n) (suc m) t h = ap (λ (xs : List A). p.get t ∷ xs) (take-gets n m (drop p.size t) (omega arith))

  pub length-gets : (n : ℕ) (t : List ℕ) → length (gets p n t) ≡ n
  length-gets zero t = refl
  length-gets (suc n) t = ap suc (length-gets n (drop p.size t))

  -- where one of several parts is another one, its bytes alone are others
  pub puts-set : (xs : List A) (i : ℕ) (x : A) → i < length xs
      → puts p (set xs i x) ≡ puts p (take i xs) ++ (p.put x ++ puts p (drop (suc i) xs))
  puts-set [] i x h = absurd (omega arith)
  puts-set (y ∷ xs) zero x h = refl
  puts-set (y ∷ xs) (suc i) x h =
      ap (λ (t : List ℕ). p.put y ++ t) (puts-set xs i x (omega arith))
      ∙ sym (append_assoc (p.put y) (puts p (take i xs)) (p.put x ++ puts p (drop (suc i) xs)))

  -- the part at an index, between those before it and those after it
  pub puts-split : (xs : List A) (i : ℕ) (d : A) → i < length xs
      → puts p xs ≡ puts p (take i xs) ++ (p.put (get_or xs i d) ++ puts p (drop (suc i) xs))
  puts-split [] i d h = absurd (omega arith)
  puts-split (y ∷ xs) zero d h = refl
  puts-split (y ∷ xs) (suc i) d h =
      ap (λ (t : List ℕ). p.put y ++ t) (puts-split xs i d (omega arith))
      ∙ sym (append_assoc (p.put y) (puts p (take i xs)) (p.put (get_or xs i d) ++ puts p (drop (suc i) xs)))

  gets-suc : (n : ℕ) (t : List ℕ) → gets p (suc n) t ≡ gets p n t ++ (p.get (drop (p.size * n) t) ∷ [])
  gets-suc zero t = let e : p.size * 0 ≡ 0 = omega arith in rw e refl
  gets-suc (suc n) t =
      let e : p.size * suc n ≡ p.size + p.size * n = mul-suc p.size n ∙ omega arith in
      let u = drop p.size t in
      let f : drop (p.size * n) u ≡ drop (p.size * suc n) t = drop-drop (p.size * n) p.size t ∙ ap (λ (k : ℕ). drop k t) (sym e) in
      ap (λ (xs : List A). p.get t ∷ xs) (gets-suc n u ∙ ap (λ (v : List ℕ). gets p n u ++ (p.get v ∷ [])) f)

  -- one part more, behind those before it
  pub gets-last : (n : ℕ) (t : List ℕ) → gets p (n + 1) t ≡ gets p n t ++ (p.get (drop (p.size * n) t) ∷ [])
  gets-last n t = ap (λ (k : ℕ). gets p k t) (add-one n) ∙ gets-suc n t

  puts-append : (xs ys : List A) → puts p (xs ++ ys) ≡ puts p xs ++ puts p ys
  puts-append [] ys = refl
  puts-append (x ∷ xs) ys =
      ap (λ (t : List ℕ). p.put x ++ t) (puts-append xs ys) ∙ sym (append_assoc (p.put x) (puts p xs) (puts p ys))

  pub puts-last : (xs : List A) (n : ℕ) (d : A) → n < length xs → puts p (take (n + 1) xs) ≡ puts p (take n xs) ++ p.put (get_or xs n d)
  puts-last xs n d h =
      let y = get_or xs n d in
      ap (λ (k : ℕ). puts p (take k xs)) (add-one n)
      ∙ ap (puts p) (take-suc xs n d h)
      ∙ puts-append (take n xs) (y ∷ [])
      ∙ ap (λ (t : List ℕ). puts p (take n xs) ++ t) (append-nil (p.put y))

  -- of those that are left the first is judged
  pub next-goods : (s : List ℕ) (k left : ℕ) → 0 < left
      → goods p left (drop k s) ≡ (p.good (drop k s) && goods p (left - 1) (drop (k + p.size) s))
  next-goods s k zero h = absurd (omega arith)
  next-goods s k (suc m) h =
      let e : m ≡ suc m - 1 = omega arith in
      ap₂ (λ (n : ℕ) (t : List ℕ). p.good (drop k s) && goods p n t) e (drop-drop p.size k s)

  -- the first n of them were read, and one more
  pub read_next : (s : List ℕ) (at n : ℕ) (xs : List A) (x : A) → n < length xs
      → take n xs ≡ gets p n (drop at s) → x ≡ p.get (drop (at + p.size * n) s) → take (n + 1) (set xs n x) ≡ gets p (n + 1) (drop at s)
  read_next s at n xs x h e f =
      ap (λ (k : ℕ). take k (set xs n x)) (add-one n)
      ∙ take-suc-set xs n x h
      ∙ ap₂ (λ (ys : List A) (y : A). ys ++ (y ∷ [])) e (f ∙ ap p.get (sym (drop-drop (p.size * n) at s)))
      ∙ sym (gets-last n (drop at s))

  -- the first n of them were written, and one more
  pub write_next : (xs : List A) (n : ℕ) (d : A) {t t' e : List ℕ} → n < length xs → p.size * n + p.size ≤ length t
      → Wrote (puts p (take n xs)) t (p.size * n) t'
      → Wrote (p.put (get_or xs n d)) (take (length t' - p.size * n) (drop (p.size * n) t')) p.size e
      → Wrote (puts p (take (n + 1) xs)) t (p.size * (n + 1)) (take (p.size * n) t' ++ (e ++ drop (length t' - p.size * n) (drop (p.size * n) t')))
  write_next xs n d h room w v =
      let e : p.size * (n + 1) ≡ p.size * n + p.size = ap (λ (k : ℕ). p.size * k) (add-one n) ∙ mul-suc p.size n in
      rw e (wrote-same (sym (puts-last xs n d h)) (next_field room w v))

  -- all were read
  pub read_all : (t : List ℕ) (n k : ℕ) (xs : List A) → n ≡ k → length xs ≡ k → take n xs ≡ gets p n t → xs ≡ gets p k t
  read_all t n k xs e h f =
      let i : length xs ≤ n = omega arith in
      sym (take_all n xs i) ∙ f ∙ ap (λ (m : ℕ). gets p m t) e

  -- of n that stand there the first i are good, and the others are left
  module _ (s : List ℕ) (at n : ℕ) where
    abbrev pub LeftOver : ℕ → Type 0
    LeftOver i = goods p n (drop at s) ≡ goods p (n - i) (drop (at + p.size * i) s)

    pub none_judged : LeftOver 0
    none_judged =
        let e : n - 0 ≡ n = omega arith in
        let f : at + p.size * 0 ≡ at = omega arith in
        rw (e, f) refl

    pub bad_judged : (i : ℕ) → i < n → LeftOver i → p.good (drop (at + p.size * i) s) ≡ false → false ≡ goods p n (drop at s)
    bad_judged i h l g =
        sym (l ∙ next-goods s (at + p.size * i) (n - i) (omega arith)
        ∙ ap (λ (b : Bool). b && goods p (n - i - 1) (drop (at + p.size * i + p.size) s)) g)

    pub good_judged : (i : ℕ) → i < n → LeftOver i → p.good (drop (at + p.size * i) s) ≡ true → LeftOver (i + 1)
    good_judged i h l g =
        let e : n - i - 1 ≡ n - (i + 1) = omega arith in
        let f : at + p.size * i + p.size ≡ at + p.size * (i + 1) =
        omega (arith, mul-suc p.size i, ap (λ (k : ℕ). p.size * k) (add-one i)) in
        l ∙ next-goods s (at + p.size * i) (n - i) (omega arith)
        ∙ ap (λ (b : Bool). b && goods p (n - i - 1) (drop (at + p.size * i + p.size) s)) g
        ∙ ap₂ (λ (k m : ℕ). goods p k (drop m s)) e f

    pub all_judged : (i : ℕ) → n ≤ i → LeftOver i → true ≡ goods p n (drop at s)
    all_judged i h l =
        let e : n - i ≡ 0 = omega arith in
        sym (l ∙ ap (λ (k : ℕ). goods p k (drop (at + p.size * i) s)) e)

-- a number of one byte is that byte
pub one-digit : (t : List ℕ) → 1 ≤ length t → big_endian (take 1 t) ≡ get_or t 0 0
unfolding digits
one-digit [] h = absurd (omega arith)
one-digit (x ∷ t) h = omega arith

-- c stands between p and q; c' is written over it
pub over : (p c q c' : List ℕ) {s e : List ℕ} {i k : ℕ} → s ≡ p ++ (c ++ q) → length p ≡ i → length c ≡ k
    → Wrote c' (take (length s - i) (drop i s)) k e → take i s ++ (e ++ drop (length s - i) (drop i s)) ≡ p ++ (c' ++ q)
over p c q c' {s} {e} {i} {k} stands m n w =
    let enough : length (drop i s) ≤ length s - i = omega (arith, length-drop i s) in
    let front : take i s ≡ p = ap (take i) stands ∙ take_at p (c ++ q) i m in
    let rest : drop i s ≡ c ++ q = ap (drop i) stands ∙ drop_at p (c ++ q) i m in
    let lent : take (length s - i) (drop i s) ≡ c ++ q = take_all (length s - i) (drop i s) enough ∙ rest in
    let end : drop (length s - i) (drop i s) ≡ [] = drop_of_length-le (drop i s) {i = length s - i} enough in
    let mid : e ≡ c' ++ q =
    w.holds
    ∙ ap (λ (x : List ℕ). c' ++ drop (length c') x) lent
    ∙ ap (λ (x : List ℕ). c' ++ x) (drop_at c q (length c') (n ∙ w.many)) in
    ap₂ (λ (x y : List ℕ). x ++ y) front (ap (λ (x : List ℕ). e ++ x) end ∙ append-nil e ∙ mid)
