-- Reports are read, written and gathered.
use Rattle.std.specs.Prelude.{Option, Some, None, Result, Ok, Err}
use Prim.Native.Nat.{ℕ, ◌+◌, ◌-◌, ◌≤◌, ◌<◌}
use mathlib.Core.Path.{◌≡◌, refl, ap, sym, ◌∙◌}
use mathlib.Core.Bool.{Bool, true, false, cond}
use mathlib.Core.List.{List, [], ◌∷◌, ◌++◌, append_assoc, append-nil}
use native.Mathlib.Omega.{arith}
use lib.ListN.{length, take, drop, length-append, length-take, length-drop}
use Rattle.refusal.specs.declared.Refusal.{Refusal}
use Rattle.refusal.specs.declared.Refusal.TheVariants.{Room}
use Rattle.byte_io.specs.Write.{Did, Wrote, emit}
use Rattle.cbor.specs.Answer.{head_plan}
use Rattle.cbor.specs.Decode.{Outcome, refused, got, decode}
use Rattle.cbor.specs.Encode.{encode, shortest, extra_of}
use Rattle.cbor.specs.Item.{Item}
use Rattle.cbor.specs.View.{Scalar, string, other, scalar_at, and_on, ValueAt, ValueSpec}
use Rattle.cbor.specs.declared.value.Value.{Value}
use Rattle.cbor.specs.declared.value.Value.TheVariants as vv
use Rattle.byte_io.specs.WriteLemmas.{seam, wrote_as, wrote-length, did-emit, did-kept, did-room}
use Rattle.cbor.specs.HeadLaws.{HeadLaws}
use Rattle.cbor.specs.ReaderSpecs.{SkipSpec}
use Rattle.cbor.specs.Writing.{head-did}
use Rattle.cojp.specs.Bytes.{members_at}
use Rattle.cojp.proofs.Arrays.{members-none, members_step, members-some}
use Rattle.cojp.specs.Lists.{Picked, nothing, picked, scalar_item, written, is_integer, integer, error_reports_in, at_least_one}
use Rattle.cojp_list.specs.Gathered.{NoNumber, signed, IntegerAt, AnyAt, ErrorEntryAt}
use Rattle.cojp_list.specs.declared.error_entry.Integer.{Integer}
use Rattle.cojp_list.specs.declared.error_entry.ErrorEntry.{ErrorEntry}
use Rattle.cojp_list.specs.declared.error_entry.Position.{Position}
use Rattle.cojp_list.proofs.Gathering.{Gathering, Turn}

-- ---- which outcome there was, by the answer to passing over an item
refused-then : (s : List ℕ) (o : Outcome Item) (r : Result ℕ Refusal) → SkipSpec s o r → (j : Refusal) → r ≡ Err j → o ≡ refused j
refused-then s (refused k) r e j g = let z : Err k ≡ Err j = sym e.is ∙ g in cc
refused-then s (got i t) r e j g =
    absurd (let f : Ok (length s - length t) ≡ Err j = sym e.is ∙ g in let z : ◌≡◌ {A = ℕ} 0 1 = cc in omega arith)

next-then : (s : List ℕ) (o : Outcome Item) (r : Result ℕ Refusal) → SkipSpec s o r → (p : ℕ) → r ≡ Ok p
    → (i : Item) × (o ≡ got i (drop p s))
next-then s (refused k) r e p g =
    absurd (let f : Err k ≡ Ok p = sym e.is ∙ g in let z : ◌≡◌ {A = ℕ} 0 1 = cc in omega arith)
next-then s (got i t) r e p g = let f : t ≡ drop p s = rw g at e.end in (i, ap (got i) f)

-- ---- the returns of `integer_at` and `pass_over`
module _ (s : List ℕ) (at n : ℕ) where
  pub integer-end : n ≡ 0 → NoNumber (members_at n (drop at s))
  integer-end h = rw (members-none n (drop at s) h) tt

  module _ (h : ¬ (n ≡ 0)) (v : Value) (e : ValueSpec s at v) where
    pub integer-number : (x p : ℕ) → v ≡ vv.Number x p → IntegerAt s at n (Some (record { negative = false; number = x }, p))
    integer-number x p g =
        let w : ValueAt 5 s at (vv.Number x p) = rw g at (e.says 5) in
        (omega arith, members_step n (drop at s) (omega arith) ∙ rw (w.rest.1, w.member))

    pub integer-minus : (x p : ℕ) → v ≡ vv.Minus x p → IntegerAt s at n (Some (record { negative = true; number = x }, p))
    integer-minus x p g =
        let w : ValueAt 5 s at (vv.Minus x p) = rw g at (e.says 5) in
        (omega arith, members_step n (drop at s) (omega arith) ∙ rw (w.rest.1, w.member))

    pub integer-none : ((x p : ℕ) → ¬ (v ≡ vv.Number x p)) → ((x p : ℕ) → ¬ (v ≡ vv.Minus x p)) → NoNumber (members_at n (drop at s))
    integer-none no_number no_minus = go v (e.says 5) no_number no_minus
      where
        none : (p : Scalar) → scalar_at (drop at s) ≡ p → is_integer p ≡ false → NoNumber (members_at n (drop at s))
        none p m z = rw (members_step n (drop at s) (omega arith)) (by (decode 6 (drop at s)))
          where
            by : (o : Outcome Item) → NoNumber (and_on (scalar_at (drop at s)) o (λ t. members_at (n - 1) t))
            by (refused k) = refl
            by (got i t) = rw m z

        go : (v : Value) → ValueAt 5 s at v → ((x p : ℕ) → ¬ (v ≡ vv.Number x p)) → ((x p : ℕ) → ¬ (v ≡ vv.Minus x p))
            → NoNumber (members_at n (drop at s))
        go (vv.Number x p) w no_number no_minus = absurd (no_number x p refl)
        go (vv.Bytes p a) w no_number no_minus = none (string (take a (drop p s))) w.member refl
        go (vv.Array p a) w no_number no_minus = none other w.member refl
        go vv.Other w no_number no_minus = none other w.member refl
        go (vv.Minus x p) w no_number no_minus = absurd (no_minus x p refl)

  module _ (h : 0 < n) (k : Result ℕ Refusal) (e : SkipSpec s (decode 6 (drop at s)) k) where
    pub any-refused : (j : Refusal) → k ≡ Err j → AnyAt s at n (record { next = at; left = 0 })
    any-refused j g =
        (other, h, members_step n (drop at s) h ∙ rw (refused-then s (decode 6 (drop at s)) k e j g, members-none 0 (drop at s) refl))

    pub any_next : (p : ℕ) → k ≡ Ok p → AnyAt s at n (record { next = p; left = n - 1 })
    any_next p g = (scalar_at (drop at s), omega arith, members_step n (drop at s) h ∙ rw (next-then s (decode 6 (drop at s)) k e p g).1)

-- ---- the returns of `after_code` and `error_entry_at`
integer-is : (b : Bool) (x : ℕ) → is_integer (integer b x) ≡ true
integer-is true x = refl
integer-is false x = refl

signed-is : (i : Integer) → is_integer (signed i) ≡ true
signed-is i = integer-is i.negative i.number

module _ (s : List ℕ) (at n : ℕ) (i : Option (Integer × ℕ)) (w : IntegerAt s at n i) where
  module _ (code : Integer) where
    pub code-open : i ≡ None → error_reports_in (signed code ∷ members_at n (drop at s)) ≡ nothing
    unfolding error_reports_in
    code-open g = let v : IntegerAt s at n None = rw g at w in go (members_at n (drop at s)) v
      where
        go : (ps : List Scalar) → NoNumber ps → error_reports_in (signed code ∷ ps) ≡ nothing
        go [] v = refl
        go (q ∷ []) v = refl
        go (q ∷ x ∷ r) v = rw (signed-is code, v)

    module _ {q : Integer × ℕ} (g : i ≡ Some q) where
      label-here : IntegerAt s at n (Some q)
      label-here = rw g at w

      pub code-short : n ≡ 1 → error_reports_in (signed code ∷ members_at n (drop at s)) ≡ nothing
      unfolding error_reports_in
      code-short h = let z : n - 1 ≡ 0 = omega arith in rw (label-here.1, members-none (n - 1) (drop q.1 s) z)

      pub code-left : 1 ≤ n
      code-left = label-here.0

      pub code-whole : (r : Position) → AnyAt s q.1 (n - 1) r
          → ErrorEntryAt s n (error_reports_in (signed code ∷ members_at n (drop at s)))
          (Some (record { code = code; label = q.0; next = r.next; left = r.left }))
      unfolding error_reports_in
      code-whole r (y, l, f) = (omega arith, rw (label-here.1, f, signed-is code, signed-is q.0))

  pub fault-headless : 0 < n → i ≡ None → error_reports_in (members_at n (drop at s)) ≡ nothing
  unfolding error_reports_in
  fault-headless h g =
      let v : IntegerAt s at n None = rw g at w in
      let (p, ps, f) = members-some n (drop at s) h in
      rw f (go p ps (rw f at v))
    where
      go : (p : Scalar) (ps : List Scalar) → is_integer p ≡ false → error_reports_in (p ∷ ps) ≡ nothing
      go p [] v = refl
      go p (q ∷ []) v = refl
      go p (q ∷ x ∷ r) v = rw v

  pub fault-begun : {q : Integer × ℕ} → i ≡ Some q → (r : Option ErrorEntry)
      → ErrorEntryAt s (n - 1) (error_reports_in (signed q.0 ∷ members_at (n - 1) (drop q.1 s))) r
      → ErrorEntryAt s n (error_reports_in (members_at n (drop at s))) r
  fault-begun {q} g r v = let l : IntegerAt s at n (Some q) = rw g at w in go r (ap error_reports_in l.1) v
    where
      go : {q t : Picked} (r : Option ErrorEntry) → q ≡ t → ErrorEntryAt s (n - 1) t r → ErrorEntryAt s n q r
      go None e v = e ∙ v
      go (Some r) e v = (omega (arith, v.0), e ∙ v.1)

-- ---- a report is written: head after head
integer-bytes : (b : Bool) (x : ℕ) → encode (scalar_item (integer b x)) ≡ shortest (cond b 1 0) x
integer-bytes true x = refl
integer-bytes false x = refl

major-most : (b : Bool) → cond b 1 0 ≤ 7
major-most true = omega arith
major-most false = omega arith

module _ (H : HeadLaws) where
  -- a head after what was written
  head-next : {p d d' q : List ℕ} {n k : ℕ} {r : Result ℕ Refusal} (j x : ℕ) → length p + length (shortest j x) ≤ length d → j ≤ 7
      → k ≡ extra_of x + 1
      → Wrote p d n d' → Did (head_plan j x) (take (length d' - n) (drop n d')) r q
      → Wrote (p ++ shortest j x) d (n + k) (take n d' ++ (q ++ drop (length d' - n) (drop n d')))
  head-next {p} {d} {d'} {q} {n} {k} {r} j x h m e w v =
      let part = take (length d' - n) (drop n d') in
      let room : length (shortest j x) ≤ length part =
      simp (length-take, length-drop) (omega (arith, wrote-length w (omega arith), w.many)) in
      seam h w (wrote_as k (omega (arith, H.length-head j x)) (did-kept (shortest j x) part r q room (head-did j x part r q m v)))

  module _ (b : Bool) (c : ℕ) (m : Bool) (l : ℕ) (d : List ℕ) {n k : ℕ} (e : n ≡ extra_of c + 1) (f : k ≡ extra_of l + 1) where
    abbrev report : List Scalar
    report = integer b c ∷ integer m l ∷ other ∷ []

    report-bytes : written report ≡ (shortest (cond b 1 0) c ++ shortest (cond m 1 0) l) ++ shortest 7 22
    report-bytes = rw (integer-bytes b c, integer-bytes m l, append-nil (shortest 7 22), append_assoc (shortest (cond b 1 0) c))

    pub heads-few : n + k ≤ 18
    heads-few = omega (arith, H.extra-most c, H.extra-most l)

    report-length : length (written report) ≡ n + k + 1
    report-length =
        ap length report-bytes ∙ length-append (shortest (cond b 1 0) c ++ shortest (cond m 1 0) l) (shortest 7 22)
        ∙ omega (
          arith,
          length-append (shortest (cond b 1 0) c) (shortest (cond m 1 0) l),
          H.length-head (cond b 1 0) c,
          H.length-head (cond m 1 0) l,
          H.short-head 7 22 (omega arith),
        )

    pub report-room : length d < n + k + 1 → Did (emit (written report)) d (Err Room) d
    report-room h = did-room (written report) d (omega (arith, report-length))

    module _ (h : n + k + 1 ≤ length d) (i j : ℕ) (x : i ≡ cond b 1 0) (y : j ≡ cond m 1 0)
        {r₁ r₂ : Result ℕ Refusal} {d₁ q₂ : List ℕ} (w₁ : Did (head_plan i c) d r₁ d₁)
        (w₂ : Did (head_plan j l) (take (length d₁ - n) (drop n d₁)) r₂ q₂) where
      abbrev d₂ : List ℕ
      d₂ = take n d₁ ++ (q₂ ++ drop (length d₁ - n) (drop n d₁))

      first : Wrote (shortest (cond b 1 0) c) d n d₁
      first =
          let v : Did (head_plan (cond b 1 0) c) d r₁ d₁ = rw x at w₁ in
          wrote_as n (omega (arith, H.length-head (cond b 1 0) c))
          (did-kept (shortest (cond b 1 0) c) d r₁ d₁ (omega (arith, H.length-head (cond b 1 0) c))
          (head-did (cond b 1 0) c d r₁ d₁ (major-most b) v))

      second : Wrote (shortest (cond b 1 0) c ++ shortest (cond m 1 0) l) d (n + k) d₂
      second =
          let v : Did (head_plan (cond m 1 0) l) (take (length d₁ - n) (drop n d₁)) r₂ q₂ = rw y at w₂ in
          head-next (cond m 1 0) l (omega (arith, H.length-head (cond b 1 0) c, H.length-head (cond m 1 0) l)) (major-most m) f first v

      pub report-done : {r₃ : Result ℕ Refusal} {q₃ : List ℕ} → Did (head_plan 7 22) (take (length d₂ - (n + k)) (drop (n + k) d₂)) r₃ q₃
          → Did (emit (written report)) d (Ok (n + k + 1)) (take (n + k) d₂ ++ (q₃ ++ drop (length d₂ - (n + k)) (drop (n + k) d₂)))
      report-done v =
          did-emit (omega (arith, report-length))
          (rw report-bytes
          (head-next 7 22
          (omega (
            arith,
            length-append (shortest (cond b 1 0) c) (shortest (cond m 1 0) l),
            H.length-head (cond b 1 0) c,
            H.length-head (cond m 1 0) l,
            H.short-head 7 22 (omega arith),
          ))
          (omega arith)
          (omega (arith, H.length-head 7 22, H.short-head 7 22 (omega arith)))
          second
          v))

-- ---- gathering
pub faults-none : error_reports_in [] ≡ picked []
unfolding error_reports_in
faults-none = refl

module _ (s : List ℕ) (at left : ℕ) {whole : Picked} {d : List ℕ} {len members : ℕ} {d' : List ℕ}
    (g : Gathering whole d (error_reports_in (members_at left (drop at s))) len members d')
    (v : Option ErrorEntry) (e : ErrorEntryAt s left (error_reports_in (members_at left (drop at s))) v) where
  pub faults-broken : v ≡ None → error_reports_in (members_at left (drop at s)) ≡ nothing
  faults-broken f = let w : ErrorEntryAt s left (error_reports_in (members_at left (drop at s))) None = rw f at e in w

  module _ {x : ErrorEntry} (f : v ≡ Some x) where
    group-here : ErrorEntryAt s left (error_reports_in (members_at left (drop at s))) (Some x)
    group-here = rw f at e

    pub faults-less : x.left < left
    faults-less = group-here.0

    pub faults-turn : {r : Result ℕ Refusal} {q : List ℕ}
        → Did (emit (written (signed x.code ∷ signed x.label ∷ other ∷ []))) (take (length d' - len) (drop len d')) r q
        → Turn whole d (error_reports_in (members_at left (drop at s))) len members d' (signed x.code ∷ signed x.label ∷ other ∷ [])
        (error_reports_in (members_at x.left (drop x.next s))) r q
    faults-turn w = record { gathering = g; step = group-here.1; put = w }

-- at least one
pub some_more : (f : List Scalar → Picked) (n : ℕ) (l : List ℕ) → ¬ (n ≡ 0) → at_least_one f (members_at n l) ≡ f (members_at n l)
some_more f n l h = let (p, ps, e) = members-some n l (omega arith) in rw e

pub some-none : (f : List Scalar → Picked) (n : ℕ) (l : List ℕ) → n ≡ 0 → at_least_one f (members_at n l) ≡ nothing
some-none f n l h = rw (members-none n l h)
