-- An argument stands in at most eight bytes, so it is below 256 ^ 8, and a string has no more bytes than its argument says.
use Prim.Native.Nat.{ℕ, ◌-◌, ◌%◌, ◌^◌, ◌≤◌, ◌<◌}
use mathlib.Core.Path.{◌≡◌, refl, ap, sym}
use mathlib.Core.Bool.{Bool, true, false, cond}
use mathlib.Core.List.Memᴰ
use mathlib.Core.List.{List, [], ◌∷◌}
use native.Mathlib.Decide.{dec_lt, dec_le}
use native.Mathlib.Nat.{pow-le-pow_right, zero-add}
use native.Mathlib.Omega.{arith}
use lib.Dec.{leb}
use lib.ListN.{length, take, drop, length-take}
use Rattle.refusal.specs.declared.Refusal.TheVariants.{Cut}
use Rattle.byte_io.specs.BigEndian.{big_endian}
use Rattle.cbor.specs.Decode.{Outcome, refused, got, Heading, Major, unsigneds, negatives}
use Rattle.cbor.specs.Decode.{byte_strings, text_strings, arrays, maps, tags, others}
use Rattle.cbor.specs.Decode.{major_of, next, argument, heading}
use Rattle.cbor.specs.Laws.{Bytes}
use Rattle.cbor.specs.View.{ScalarValid, string_of, scalar_by, scalar_head, scalar_at}
use Rattle.cbor.proofs.Heads.{next-got, next-cut, argument-direct, argument-form, argument-wide}
use Rattle.cbor.proofs.Outcomes.{never, then-got, same-value}
use Rattle.cbor.proofs.Shortest.{digits-below}

eight-bytes : (n j : ℕ) → j ≤ 3 → n < 256 ^ (2 ^ j) → n < 2 ^ 64
eight-bytes n j h l =
    let w : 2 ^ j ≤ 2 ^ 3 = pow-le-pow_right {n = 2} (omega arith) {i = j} {j = 3} h in
    let m : 256 ^ (2 ^ j) ≤ 256 ^ 8 = pow-le-pow_right {n = 256} (omega arith) {i = 2 ^ j} {j = 8} w in
    omega arith

argument-fits : (k : ℕ) (s : List ℕ) (n : ℕ) (t : List ℕ) → Bytes s → argument k s ≡ got n t → n < 2 ^ 64
argument-fits k s n t b e = go (dec_lt k 24) (dec_lt 27 k)
  where
    wide : 24 ≤ k → k ≤ 27 → Dec (2 ^ (k - 24) ≤ length s) → n < 2 ^ 64
    wide l h (yes f) =
        let w = 2 ^ (k - 24) in
        let g : got (big_endian (take w s)) (drop w s) ≡ got n t = rw (argument-wide k s l h, next-got w s f) at e in
        let m : n < 256 ^ w = rw (← same-value g) (rw (zero-add w) at (digits-below w 0 0 s b (omega arith) f)) in
        eight-bytes n (k - 24) (omega arith) m
    wide l h (no f) =
        let f' : length s < 2 ^ (k - 24) = omega arith in
        absurd (never (rw (argument-wide k s l h, next-cut (2 ^ (k - 24)) s f') at e))

    go : Dec (k < 24) → Dec (27 < k) → n < 2 ^ 64
    go (yes a) b = let g : got k s ≡ got n t = rw (argument-direct k s a) at e in omega (arith, same-value g)
    go (no a) (yes b) = absurd (never (rw (argument-form k s b) at e))
    go (no a) (no b) = wide (omega arith) (omega arith) (dec_le (2 ^ (k - 24)) (length s))

head-fits : (s : List ℕ) (h : Heading) (t : List ℕ) → Bytes s → heading s ≡ got h t → h.argument < 2 ^ 64
unfolding heading
head-fits [] h t b e = absurd (never e)
head-fits (x ∷ s) h t b e =
    let (n, u, f, g) = then-got (argument (x % 32) s) _ h t e in
    let a : h.argument ≡ n = ap (λ (k : Heading). k.argument) (sym (same-value g)) in
    omega (arith, argument-fits (x % 32) s n u (λ y m. b y (Memᴰ.tail m)) f)

string-fits : (n : ℕ) (t : List ℕ) → n < 2 ^ 64 → ScalarValid (string_of (next n t))
unfolding next
string-fits n t h = go (leb n (length t))
  where
    go : (b : Bool) → ScalarValid (string_of (cond b (got (take n t) (drop n t)) (refused Cut)))
    go true = omega (arith, length-take n t)
    go false = tt

by-major : (M : Major) (n : ℕ) (t : List ℕ) → n < 2 ^ 64 → ScalarValid (scalar_by M n t)
by-major unsigneds n t h = h
by-major negatives n t h = h
by-major byte_strings n t h = string-fits n t h
by-major text_strings n t h = tt
by-major arrays n t h = tt
by-major maps n t h = tt
by-major tags n t h = tt
by-major others n t h = tt

pub plain_fits : (s : List ℕ) → Bytes s → ScalarValid (scalar_at s)
unfolding scalar_at
plain_fits s b = go (heading s) refl
  where
    go : (o : Outcome Heading) → heading s ≡ o → ScalarValid (scalar_head o)
    go (refused k) e = tt
    go (got h t) e = by-major (major_of h.major) h.argument t (head-fits s h t b e)
