-- Members are gathered one after the other: what was kept so far stands in front of the destination.
use Rattle.std.specs.Prelude.{Option, Some, None, Result, Ok, Err}
use Prim.Native.Nat.{ℕ, zero, suc, ◌+◌, ◌-◌, ◌≤◌, ◌<◌}
use mathlib.Core.Path.{sym, ◌≡◌, refl, ap, ◌∙◌}
use mathlib.Core.Bool.{true}
use mathlib.Core.List.{List, [], ◌∷◌, ◌++◌, append_assoc, append-nil}
use native.Mathlib.Omega.{arith}
use lib.ListN.{length, take, drop, replicate, length-append, length-take, length-drop, length-replicate}
use borrow.Author.Tests.{le-leb, lt-leb}
use native.Mathlib.Decide.{dec_le}
use Rattle.refusal.specs.declared.Refusal.{Refusal}
use Rattle.byte_io.specs.Write.{Did, Wrote, emit}
use Rattle.byte_io.specs.WriteLemmas.{seam, wrote_none, wrote-length, did-done, did-kept, did_never}
use Rattle.cbor.specs.Encode.{encode, shortest}
use Rattle.cbor.specs.View.{Scalar, number, minus, string, other}
use Rattle.cbor.specs.HeadLaws.{HeadLaws}
use Rattle.cojp.specs.Bytes.{members_at}
use Rattle.cojp.proofs.Arrays.{members-none}
use Rattle.cojp.specs.Lists.{Picked, nothing, picked, before, fitting, scalar_item, written, list_answer}
use Rattle.cojp.specs.Octets.{padded}
use Rattle.cojp.specs.declared.list.ListRead.{ListRead}
use Rattle.cojp_list.specs.Gathered.{GatheredAs, gathered_list}
use Rattle.cojp_list.specs.declared.list.Gathered.{Gathered}

-- ---- a writer's answer tells whether there was room
module _ {p d d' : List ℕ} {r : Result ℕ Refusal} (w : Did (emit p) d r d') where
  pub did-lacks : (k : Refusal) → r ≡ Err k → length d < length p
  did-lacks k e = go (dec_le (length p) (length d))
    where
      go : Dec (length p ≤ length d) → length d < length p
      go (yes h) = absurd (did_never p d r d' k h w e)
      go (no h) = omega arith

  pub did-fits : (n : ℕ) → r ≡ Ok n → (length p ≤ length d) × Wrote p d n d'
  did-fits n e = go (dec_le (length p) (length d))
    where
      go : Dec (length p ≤ length d) → (length p ≤ length d) × Wrote p d n d'
      go (yes h) = (h, did-done p d r d' n h w e)
      go (no h) =
          let l : length d < length p = omega arith in
          let f : r ≡ Err _ = simp (lt-leb (length p) (length d) l) at w.says in
          absurd (let z : ◌≡◌ {A = ℕ} 0 1 = cc in omega arith)

  -- the destination keeps its length
  pub did-length : length d' ≡ length d
  did-length = go (dec_le (length p) (length d))
    where
      go : Dec (length p ≤ length d) → length d' ≡ length d
      go (yes h) = wrote-length (did-kept p d r d' h w) h
      go (no h) =
          let l : length d < length p = omega arith in
          ap length (simp (lt-leb (length p) (length d) l) at w.holds)

-- ---- members one after the other
pub before-before : (a b : List Scalar) (q : Picked) → before a (before b q) ≡ before (a ++ b) q
before-before a b nothing = refl
before-before a b (picked ps) = rw (append_assoc a b ps)

pub written-append : (a b : List Scalar) → written (a ++ b) ≡ written a ++ written b
written-append [] b = refl
written-append (p ∷ a) b = rw (written-append a b, append_assoc (encode (scalar_item p)))

pub written-length : (a b : List Scalar) → length (written (a ++ b)) ≡ length (written a) + length (written b)
written-length a b = ap length (written-append a b) ∙ length-append (written a) (written b)

-- each takes a byte at least
one_byte : HeadLaws → (p : Scalar) → 1 ≤ length (encode (scalar_item p))
one_byte H (number n) = omega (arith, H.length-head 0 n)
one_byte H (minus n) = omega (arith, H.length-head 1 n)
one_byte H (string s) = omega (arith, H.length-head 2 (length s), length-append (shortest 2 (length s)) s)
one_byte H other = omega (arith, H.length-head 7 22)

pub written-long : HeadLaws → (ps : List Scalar) → length ps ≤ length (written ps)
written-long H [] = omega arith
written-long H (p ∷ ps) = omega (arith, one_byte H p, written-long H ps, length-append (encode (scalar_item p)) (written ps))

fitting-over : (n : ℕ) (a : List Scalar) (q : Picked) → n < length (written a) → fitting n (before a q) ≡ nothing
fitting-over n a nothing h = refl
fitting-over n a (picked ps) h = let l : n < length (written (a ++ ps)) = omega (arith, written-length a ps) in
    rw (lt-leb (length (written (a ++ ps))) n l)

-- ---- a loop over what is left
-- `whole` is what is to be kept, d the destination before; `rest` is to be kept yet, and d' is the destination now
module _ (whole : Picked) (d : List ℕ) where
  pub record Gathering (rest : Picked) (len members : ℕ) (d' : List ℕ) : Type 0 where
    pub so_far : List Scalar
    pub pattern : whole ≡ before so_far rest
    pub room : length (written so_far) ≤ length d
    pub many : members ≡ length so_far
    pub wrote : Wrote (written so_far) d len d'

  pub gathering-none : Gathering whole 0 0 d
  gathering-none = record {
    so_far = [];
    pattern = same whole;
    room = omega arith;
    many = refl;
    wrote = wrote_none d;
  }
    where
      same : (q : Picked) → q ≡ before [] q
      same nothing = refl
      same (picked ps) = refl

module _ {whole rest : Picked} {d : List ℕ} {len members : ℕ} {d' : List ℕ} (g : Gathering whole d rest len members d') where
  pub gathering-length : length d' ≡ length d
  gathering-length = wrote-length g.wrote g.room

  pub gathering-within : len ≤ length d'
  gathering-within = omega (arith, gathering-length, g.wrote.many, g.room)

  pub gathering-bad : rest ≡ nothing → fitting (length d) whole ≡ nothing
  gathering-bad e = rw (g.pattern, e)

  pub gathering-done : rest ≡ picked [] → GatheredAs whole d (Some (record { members = members; len = len })) d'
  gathering-done e =
      let all : whole ≡ picked g.so_far = g.pattern ∙ rw (e, append-nil g.so_far) in
      (g.so_far, rw (all, le-leb (length (written g.so_far)) (length d) g.room), g.many, g.wrote)

  -- the next members, xs of them kept
  module _ (xs : List Scalar) (next : Picked) (e : rest ≡ before xs next) where
    further : whole ≡ before (g.so_far ++ xs) next
    further = g.pattern ∙ rw e (before-before g.so_far xs next)

    pub gathering-full : length d' - len < length (written xs) → fitting (length d) whole ≡ nothing
    gathering-full h =
        rw further
        (fitting-over (length d) (g.so_far ++ xs) next
        (omega (arith, written-length g.so_far xs, gathering-length, g.wrote.many, g.room)))

    module _ (h : length (written xs) ≤ length d' - len) where
      fits : length (written g.so_far) + length (written xs) ≤ length d
      fits = omega (arith, gathering-length, g.wrote.many, g.room)

      pub gathering-count : HeadLaws → members + length xs ≤ length d
      gathering-count H = omega (arith, fits, g.many, written-long H g.so_far, written-long H xs)

      pub gathering-more : {k : ℕ} {p : List ℕ} → Wrote (written xs) (take (length d' - len) (drop len d')) k p
          → Gathering whole d next (len + k) (members + length xs) (take len d' ++ (p ++ drop (length d' - len) (drop len d')))
      gathering-more w = record {
        so_far = g.so_far ++ xs;
        pattern = further;
        room = omega (arith, fits, written-length g.so_far xs);
        many = omega (arith, g.many, length-append g.so_far xs);
        wrote = rw (written-append g.so_far xs) (seam fits g.wrote w);
      }

-- no member is left
pub gathering-ended : (f : List Scalar → Picked) (left : ℕ) (l : List ℕ) → f [] ≡ picked [] → left ≤ 0 → f (members_at left l) ≡ picked []
gathering-ended f left l e h = let z : left ≡ 0 = omega arith in ap f (members-none left l z) ∙ e

-- ---- one turn: r is the answer of writing xs to the lent part, which then is q
module _ (whole : Picked) (d : List ℕ) where
  pub record Turn (rest : Picked) (len members : ℕ) (d' : List ℕ) (xs : List Scalar) (next : Picked) (r : Result ℕ Refusal)
      (q : List ℕ) : Type 0 where
    pub gathering : Gathering whole d rest len members d'
    pub step : rest ≡ before xs next
    pub put : Did (emit (written xs)) (take (length d' - len) (drop len d')) r q

module _ {whole rest : Picked} {d : List ℕ} {len members : ℕ} {d' : List ℕ} {xs : List Scalar} {next : Picked}
    {r : Result ℕ Refusal} {q : List ℕ}
    (t : Turn whole d rest len members d' xs next r q) where
  lent : length (take (length d' - len) (drop len d')) ≡ length d' - len
  lent = simp (length-take, length-drop) (omega arith)

  pub turn-length : length (take len d' ++ (q ++ drop (length d' - len) (drop len d'))) ≡ length d
  turn-length =
      let h : length q ≡ length d' - len = did-length t.put ∙ lent in
      simp (length-append, length-take, length-drop)
      (omega (arith, gathering-length t.gathering, gathering-within t.gathering))

  pub turn-full : (k : Refusal) → r ≡ Err k → fitting (length d) whole ≡ nothing
  turn-full k y = gathering-full t.gathering xs next t.step (omega (arith, lent, did-lacks t.put k y))

  module _ (k : ℕ) (y : r ≡ Ok k) where
    turn-room : length (written xs) ≤ length d' - len
    turn-room = omega (arith, lent, (did-fits t.put k y).0)

    pub turn_more : Gathering whole d next (len + k) (members + length xs) (take len d' ++ (q ++ drop (length d' - len) (drop len d')))
    turn_more = gathering-more t.gathering xs next t.step turn-room (did-fits t.put k y).1

    pub turn-count : HeadLaws → (len + k ≤ length d) × (members + length xs ≤ length d)
    turn-count H =
        let m = turn_more in
        (omega (arith, m.wrote.many, m.room), gathering-count t.gathering xs next t.step turn-room H)

-- ---- what was gathered in 253 zeros is the list
zeros-after : (k n : ℕ) → drop k (replicate {A = ℕ} n 0) ≡ replicate (n - k) 0
zeros-after zero n = let e : n - 0 ≡ n = omega arith in rw e
zeros-after (suc k) zero = let e : 0 - suc k ≡ 0 = omega arith in rw e
zeros-after (suc k) (suc n) = let e : suc n - suc k ≡ n - k = omega arith in rw e (zeros-after k n)

module _ (q : Picked) (d : List ℕ) (z : d ≡ replicate 253 0) where
  many-zeros : length d ≡ 253
  many-zeros = ap length z ∙ length-replicate {A = ℕ} 253 0

  kept_by : (ps : List Scalar) (m n : ℕ) (d' : List ℕ) → fitting (length d) q ≡ picked ps → m ≡ length ps → Wrote (written ps) d n d'
      → ◌≡◌ {A = ListRead} (record { good = true; value = record { count = m; len = n; bytes = d' } }) (list_answer (fitting 253 q))
  unfolding padded
  kept_by ps m n d' f many wrote =
      let f' : fitting 253 q ≡ picked ps = rw many-zeros at f in
      let b : d' ≡ written ps ++ replicate (253 - length (written ps)) 0 = wrote.holds ∙ rw (z, zeros-after (length (written ps)) 253) in
      rw (f', many, wrote.many, b)

  module _ (r : Option Gathered) (d' : List ℕ) (w : GatheredAs q d r d') where
    pub list-bad : r ≡ None → fitting 253 q ≡ nothing
    list-bad e = let v : GatheredAs q d None d' = rw e at w in rw (← many-zeros) v

    pub list-kept : {g : Gathered} → r ≡ Some g
        → ◌≡◌ {A = ListRead} (record { good = true; value = record { count = g.members; len = g.len; bytes = d' } }) (list_answer (fitting 253 q))
    list-kept {g} e =
        let v : GatheredAs q d (Some g) d' = rw e at w in
        kept_by v.0 g.members g.len d' v.1 v.2 v.3

    pub list-read : gathered_list r d' ≡ list_answer (fitting 253 q)
    list-read = go r refl
      where
        go : (x : Option Gathered) → r ≡ x → gathered_list x d' ≡ list_answer (fitting 253 q)
        go None e = ap list_answer (sym (list-bad e))
        go (Some g) e = list-kept e
