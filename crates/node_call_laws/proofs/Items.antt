-- What is read of bytes fits: numbers have eight bytes, strings are bytes, and a map has as many pairs as its head says.
use Prim.Native.Nat.{ℕ, zero, suc, ◌-◌, ◌^◌, ◌%◌, ◌<◌, ◌≤◌}
use mathlib.Core.Path.{◌≡◌, refl}
use mathlib.Core.Bool.{Bool, true, false}
use mathlib.Core.List.{List, [], ◌∷◌}
use native.Mathlib.Omega.{arith}
use native.Mathlib.Nat.{pow-le-pow_right}
use borrow.Author.Tests.{leb-true, ltb-true, ltb-false}
use lib.Dec.{leb, ltb, eqb}
use lib.ListN.{length, take, drop}
use Rattle.image.specs.Numbers.{below}
use Rattle.image.specs.Part.{AllBytes}
use Rattle.byte_io.specs.BigEndian.{big_endian}
use Rattle.cbor.specs.Decode.{Outcome, refused, got, and_then, next, argument, Heading, heading, Major, unsigneds, negatives, byte_strings}
use Rattle.cbor.specs.Decode.{text_strings, arrays, maps, tags, others, major_of, members, pairs, content, decode_by, ended, payload_by}
use Rattle.cbor.specs.Strict.{short, strict_heading, head_by}
use Rattle.cbor.specs.Item.{Item, Items, Pairs, unsigned, negative, bytes, text, array, map_item, tag, simple, float, empty, pair}
use Rattle.cbor.specs.View.{Scalar, number, minus, string, other, View, scalar, list, scalar_of, scalars_of, view_of}
use Rattle.node_call_laws.proofs.Lists.{by_cond}

-- nothing is asked
abbrev pub Always : Type 0
Always = ◌≡◌ {A = ℕ} 0 0

abbrev pub Word : ℕ → Type 0
Word n = n < 256 ^ 8

-- ---- values
abbrev pub PlainOk : Scalar → Type 0
PlainOk (number n) = Word n
PlainOk (minus n) = Word n
PlainOk (string s) = AllBytes s
PlainOk other = Always

abbrev pub PlainsOk : List Scalar → Type 0
PlainsOk [] = Always
PlainsOk (p ∷ ps) = PlainOk p × PlainsOk ps

abbrev pub ViewOk : View → Type 0
ViewOk (scalar p) = PlainOk p
ViewOk (list ps) = PlainsOk ps

-- at most so many pairs
pub data PairsOk : ℕ → Pairs → Type 0 where
  no_pairs : {n : ℕ} → PairsOk n empty
  a_pair : {n : ℕ} {k v : Item} {ps : Pairs} → ViewOk (view_of v) → PairsOk n ps → PairsOk (suc n) (pair k v ps)

pub record MapFits (ps : Pairs) : Type 0 where
  pub most : ℕ
  pub small : Word most
  pub each : PairsOk most ps

abbrev pub MapOk : Item → Type 0
MapOk (unsigned n) = Always
MapOk (negative n) = Always
MapOk (bytes s) = Always
MapOk (text s) = Always
MapOk (array is) = Always
MapOk (map_item ps) = MapFits ps
MapOk (tag n i) = Always
MapOk (simple n) = Always
MapOk (float w n) = Always

abbrev pub Ok : Item → Type 0
Ok i = ViewOk (view_of i) × (PlainOk (scalar_of i) × MapOk i)

-- ---- reading: what was got fits, and bytes are left
abbrev pub OutOk : {A : Type 0} → (A → Type 0) → Outcome A → Type 0
OutOk P (refused k) = Always
OutOk P (got a t) = P a × AllBytes t

then_ok : {A B : Type 0} (P : A → Type 0) (Q : B → Type 0) (o : Outcome A) (f : A → List ℕ → Outcome B) → OutOk P o
    → ((a : A) (t : List ℕ) → P a → AllBytes t → OutOk Q (f a t)) → OutOk Q (and_then o f)
then_ok P Q (refused k) f h g = refl
then_ok P Q (got a t) f h g = g a t h.0 h.1

taken-bytes : (n : ℕ) (s : List ℕ) → AllBytes s → AllBytes (take n s)
taken-bytes zero s b i = omega arith
taken-bytes (suc n) [] b i = omega arith
taken-bytes (suc n) (x ∷ s) b zero = b 0
taken-bytes (suc n) (x ∷ s) b (suc i) = taken-bytes n s (λ j. b (suc j)) i

left-bytes : (n : ℕ) (s : List ℕ) → AllBytes s → AllBytes (drop n s)
left-bytes zero s b = b
left-bytes (suc n) [] b = b
left-bytes (suc n) (x ∷ s) b = left-bytes n s (λ j. b (suc j))

next-ok : (n : ℕ) (s : List ℕ) → AllBytes s → OutOk AllBytes (next n s)
unfolding next
next-ok n s b = by_cond (OutOk AllBytes) (leb n (length s)) (λ _. (taken-bytes n s b, left-bytes n s b)) (λ _. refl)

number_ok : (k : ℕ) (s : List ℕ) → k ≤ 8 → AllBytes s → OutOk Word (and_then (next k s) (λ bs t. got (big_endian bs) t))
unfolding next
number_ok k s h b =
    let most : 256 ^ k ≤ 256 ^ 8 = pow-le-pow_right {n = 256} (omega arith) {i = k} {j = 8} h in
    by_cond (λ (o : Outcome (List ℕ)). OutOk Word (and_then o (λ bs t. got (big_endian bs) t))) (leb k (length s))
    (λ e. (omega (arith, below s k b (leb-true k (length s) e)), left-bytes k s b))
    (λ _. refl)

argument-ok : (info : ℕ) (s : List ℕ) → AllBytes s → OutOk Word (argument info s)
unfolding argument
argument-ok info s b =
    by_cond (OutOk Word) (ltb info 24) (λ e. (omega (arith, ltb-true info 24 e), b))
    (λ _. by_cond (OutOk Word) (ltb 27 info) (λ _. refl)
    (λ e.
    let low = ltb-false 27 info e in
    let few : 2 ^ (info - 24) ≤ 2 ^ 3 = pow-le-pow_right {n = 2} (omega arith) {i = info - 24} {j = 3} (omega arith) in
    number_ok (2 ^ (info - 24)) s (omega arith) b))

abbrev HeadingOk : Heading → Type 0
HeadingOk h = Word h.argument

heading-ok : (s : List ℕ) → AllBytes s → OutOk HeadingOk (heading s)
unfolding heading
heading-ok [] b = refl
heading-ok (x ∷ s) b =
    then_ok Word HeadingOk (argument (x % 32) s) _ (argument-ok (x % 32) s (λ j. b (suc j))) (λ n t f g. (f, g))

-- a head of the ordinary reading, or of the strict one, which refuses more
head_ok : (strict : Bool) (s : List ℕ) → AllBytes s → OutOk HeadingOk (head_by strict s)
unfolding strict_heading
head_ok true s b =
    then_ok HeadingOk HeadingOk (heading s) _ (heading-ok s b) (λ h t f g. by_cond (OutOk HeadingOk) (short h) (λ _. (f, g)) (λ _. refl))
head_ok false s b = heading-ok s b

module _ (read : List ℕ → Outcome Item) (ok : (s : List ℕ) → AllBytes s → OutOk Ok (read s)) where
  members-ok : (n : ℕ) (s : List ℕ) → AllBytes s → OutOk (λ (is : Items). PlainsOk (scalars_of is)) (members read n s)
  unfolding members
  members-ok zero s b = (refl, b)
  members-ok (suc n) s b =
      let Q : Items → Type 0 = λ is. PlainsOk (scalars_of is) in
      then_ok Ok Q (read s) _ (ok s b) (λ i t f g. then_ok Q Q (members read n t) _ (members-ok n t g) (λ is u h c. ((f.1.0, h), c)))

  pairs-ok : (n : ℕ) (s : List ℕ) → AllBytes s → OutOk (PairsOk n) (pairs read n s)
  unfolding pairs
  pairs-ok zero s b = (no_pairs, b)
  pairs-ok (suc n) s b =
      then_ok Ok (PairsOk (suc n)) (read s) _ (ok s b)
      (λ k t f g. then_ok Ok (PairsOk (suc n)) (read t) _ (ok t g)
      (λ v u h c. then_ok (PairsOk n) (PairsOk (suc n)) (pairs read n u) _ (pairs-ok n u c) (λ ps w x d. (a_pair h.0 x, d))))

  content-ok : (m : Major) (info n : ℕ) (s : List ℕ) → Word n → AllBytes s → OutOk Ok (content read m info n s)
  content-ok unsigneds info n s h b = ((h, (h, refl)), b)
  content-ok negatives info n s h b = ((h, (h, refl)), b)
  content-ok byte_strings info n s h b = then_ok AllBytes Ok (next n s) _ (next-ok n s b) (λ bs t f g. ((f, (f, refl)), g))
  content-ok text_strings info n s h b = then_ok AllBytes Ok (next n s) _ (next-ok n s b) (λ bs t f g. ((refl, (refl, refl)), g))
  content-ok arrays info n s h b =
      then_ok (λ (is : Items). PlainsOk (scalars_of is)) Ok (members read n s) _ (members-ok n s b) (λ is t f g. ((f, (refl, refl)), g))
  content-ok maps info n s h b =
      then_ok (PairsOk n) Ok (pairs read n s) _ (pairs-ok n s b) (λ ps t f g. ((refl, (refl, record { most = n; small = h; each = f })), g))
  content-ok tags info n s h b = then_ok Ok Ok (read s) _ (ok s b) (λ i t f g. ((refl, (refl, refl)), g))
  content-ok others info n s h b = (
    by_cond Ok (ltb info 25) (λ _. (refl, (refl, refl)))
        (λ _. by_cond Ok (eqb info 25) (λ _. (refl, (refl, refl)))
        (λ _. by_cond Ok (eqb info 26) (λ _. (refl, (refl, refl))) (λ _. (refl, (refl, refl))))),
    b,
  )

ended-ok : (i : Item) (t : List ℕ) → Ok i → AllBytes t → OutOk Ok (ended i t)
ended-ok i [] f g = (f, g)
ended-ok i (x ∷ t) f g = refl

module _ (strict : Bool) where
  decode-ok : (d : ℕ) (s : List ℕ) → AllBytes s → OutOk Ok (decode_by (head_by strict) d s)
  unfolding decode_by
  decode-ok zero s b = refl
  decode-ok (suc d) s b =
      then_ok HeadingOk Ok (head_by strict s) _ (head_ok strict s b)
      (λ h t f g.
      content-ok (λ u. decode_by (head_by strict) d u) (λ u c. decode-ok d u c) (major_of h.major) h.info h.argument t f g)

  pub payload-ok : (s : List ℕ) → AllBytes s → OutOk Ok (payload_by (head_by strict) s)
  unfolding payload_by
  payload-ok s b = then_ok Ok Ok (decode_by (head_by strict) 8 s) ended (decode-ok 8 s b) ended-ok
