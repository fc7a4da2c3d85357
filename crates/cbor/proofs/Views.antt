-- What the answers of `read_head` and `value_at` say of the tree: where an item can be read at a place,
-- its head tells whether it is an integer, a number, a byte string or an array of such.
use Rattle.std.specs.Prelude.{Result, Ok, Err}
use Prim.Native.Nat.{ℕ, zero, suc, ◌-◌, ◌≤◌, ◌<◌}
use mathlib.Core.Path.{◌≡◌, refl, ap, sym, ◌∙◌}
use mathlib.Core.Bool.{Bool, true, false, cond}
use mathlib.Core.List.{List, []}
use native.Mathlib.Omega.{arith}
use native.Mathlib.Decide.{dec_le}
use borrow.Author.Tests.{le-leb, lt-leb}
use lib.Dec.{ltb, eqb}
use lib.ListN.{length, drop, length-drop}
use lib.Seq.{drop-drop}
use Rattle.refusal.specs.declared.Refusal.{Refusal}
use Rattle.cbor.specs.Item.{Size, half, single, double, Item, Items, unsigned, negative, array, simple, float, more}
use Rattle.cbor.specs.Decode.{Outcome, refused, got, and_then, next, heading, Heading, members, pairs, Major, unsigneds, negatives}
use Rattle.cbor.specs.Decode.{byte_strings, text_strings, arrays, maps, tags, others, major_of, special, content, decode_by, decode}
use Rattle.cbor.specs.Answer.{head_answer, outcome_number, head_number}
use Rattle.cbor.specs.ReaderSpecs.{LabelSpec, says_label, HeadSpec}
use Rattle.cbor.specs.View.{other, scalar, list, scalar_of, scalars_of, view_of, label_of, scalar_by, scalar_at}
use Rattle.cbor.specs.View.{scalars_at, view_by, view_at, label_by, label_at, value_by}
use Rattle.cbor.specs.View.{value_answer, rest_of, after_item, after_items, ValueAt, ValueSpec}
use Rattle.cbor.specs.declared.head.Head.{Head}
use Rattle.cbor.specs.declared.value.Label.TheVariants as lv
use Rattle.cbor.specs.declared.value.Value.{Value}
use Rattle.cbor.specs.declared.value.Value.TheVariants as vv
use Rattle.cbor.proofs.Answers.{head-refused, head-got, head-place, place, within}
use Rattle.cbor.proofs.Heads.{next-got, next-cut}
use Rattle.cbor.proofs.Outcomes.{then-got, same-value}
use Rattle.cbor.proofs.Tails.{Tail, heading-tail}

-- ---- a head, and the returns of `value_at`
module _ (s : List ℕ) (at : ℕ) (r : Result Head Refusal) (e : r ≡ head_answer (length s) (heading (drop at s))) where
  label-refused : (k : Refusal) → r ≡ Err k → label_at (drop at s) ≡ lv.NoInteger
  unfolding label_at
  label-refused k g = rw (head-refused s at r e k g)

  pub value-refused : (k : Refusal) → r ≡ Err k → vv.Other ≡ value_answer (length s) (heading (drop at s))
  value-refused k g = rw (head-refused s at r e k g)

  module _ (h : Head) (g : r ≡ Ok h) where
    abbrev m : ℕ
    m = h.major

    abbrev a : ℕ
    a = h.argument

    abbrev t : List ℕ
    t = drop h.next s

    label-got : label_at (drop at s) ≡ label_by (major_of m) a
    unfolding label_at
    label-got = rw (head-got s at r e h g)

    label-number : m ≡ 0 → label_at (drop at s) ≡ lv.Number a
    unfolding major_of
    label-number f = label-got ∙ rw f

    label-negative : m ≡ 1 → label_at (drop at s) ≡ lv.Negative
    unfolding major_of
    label-negative f = label-got ∙ rw f

    no-integer : (m : ℕ) → 2 ≤ m → label_by (major_of m) a ≡ lv.NoInteger
    unfolding major_of
    no-integer zero l = absurd (omega arith)
    no-integer (suc zero) l = absurd (omega arith)
    no-integer (suc (suc zero)) l = refl
    no-integer (suc (suc (suc zero))) l = refl
    no-integer (suc (suc (suc (suc zero)))) l = refl
    no-integer (suc (suc (suc (suc (suc zero))))) l = refl
    no-integer (suc (suc (suc (suc (suc (suc zero)))))) l = refl
    no-integer (suc (suc (suc (suc (suc (suc (suc m))))))) l = refl

    -- an integer is nothing but its head
    integer-ends : (m : ℕ) → m ≤ 1 → (i n : ℕ) (l : List ℕ) (d : ℕ) → rest_of (content (decode d) (major_of m) i n l) ≡ l
    unfolding major_of
    integer-ends zero u i n l d = refl
    integer-ends (suc zero) u i n l d = refl
    integer-ends (suc (suc m)) u i n l d = absurd (omega arith)

    head-ends : m ≤ 1 → (d : ℕ) → after_item (suc d) (drop at s) ≡ t
    unfolding decode_by
    head-ends l d = rw (head-got s at r e h g) (integer-ends m l h.info a t d)

    label-says : LabelSpec s at h
    label-says =
        record { number = label-number; negative = label-negative; none = λ l. label-got ∙ no-integer m l; ends = head-ends }

    value-got : value_answer (length s) (heading (drop at s)) ≡ value_by (length s) (major_of m) a t
    value-got = rw (head-got s at r e h g)

    pub value-number : m ≡ 0 → vv.Number a h.next ≡ value_answer (length s) (heading (drop at s))
    unfolding major_of
    value-number f = sym (value-got ∙ rw (f, head-place s at r e h g))

    pub value-minus : m ≡ 1 → vv.Minus a h.next ≡ value_answer (length s) (heading (drop at s))
    unfolding major_of
    value-minus f = sym (value-got ∙ rw (f, head-place s at r e h g))

    pub value-string : m ≡ 2 → a ≤ length s - h.next → vv.Bytes h.next a ≡ value_answer (length s) (heading (drop at s))
    unfolding major_of
    value-string f l =
        let l' : a ≤ length t = rw (length-drop h.next s) l in
        sym (value-got ∙ rw (f, le-leb a (length t) l', head-place s at r e h g))

    pub value-cut : m ≡ 2 → length s - h.next < a → vv.Other ≡ value_answer (length s) (heading (drop at s))
    unfolding major_of
    value-cut f l =
        let l' : length t < a = rw (length-drop h.next s) l in
        sym (value-got ∙ rw (f, lt-leb a (length t) l'))

    pub value-array : m ≡ 4 → vv.Array h.next a ≡ value_answer (length s) (heading (drop at s))
    unfolding major_of
    value-array f = sym (value-got ∙ rw (f, head-place s at r e h g))

    neither : (m : ℕ) → ¬ (m ≡ 0) → ¬ (m ≡ 1) → ¬ (m ≡ 2) → ¬ (m ≡ 4) → value_by (length s) (major_of m) a t ≡ vv.Other
    unfolding major_of
    neither zero n x o q = absurd (n refl)
    neither (suc zero) n x o q = absurd (x refl)
    neither (suc (suc zero)) n x o q = absurd (o refl)
    neither (suc (suc (suc zero))) n x o q = refl
    neither (suc (suc (suc (suc zero)))) n x o q = absurd (q refl)
    neither (suc (suc (suc (suc (suc zero))))) n x o q = refl
    neither (suc (suc (suc (suc (suc (suc zero)))))) n x o q = refl
    neither (suc (suc (suc (suc (suc (suc (suc m))))))) n x o q = refl

    pub value-other : ¬ (m ≡ 0) → ¬ (m ≡ 1) → ¬ (m ≡ 2) → ¬ (m ≡ 4) → vv.Other ≡ value_answer (length s) (heading (drop at s))
    value-other n x o q = sym (value-got ∙ neither m n x o q)

  tells-label : (x : Result Head Refusal) → r ≡ x → says_label s at x
  tells-label (Err k) g = label-refused k g
  tells-label (Ok h) g = label-says h g

  tells-number : (o : Outcome Heading) → head_number (head_answer (length s) o) ≡ outcome_number o
  tells-number (refused k) = refl
  tells-number (got h u) = refl

  pub head-tells : HeadSpec s at r
  head-tells = record { is = e; number = rw e (tells-number (heading (drop at s))); label = tells-label r refl }

-- ---- what is left after n members is what is left after n items
nothing-after : (d : ℕ) → after_item d [] ≡ []
unfolding decode_by heading
nothing-after zero = refl
nothing-after (suc d) = refl

after_nothing : (d n : ℕ) → after_items d n [] ≡ []
after_nothing d zero = refl
after_nothing d (suc n) = rw (nothing-after d) (after_nothing d n)

rest-same : {A B : Type 0} (f : A → B) (o : Outcome A) → rest_of (and_then o (λ a t. got (f a) t)) ≡ rest_of o
rest-same f (refused k) = refl
rest-same f (got a t) = refl

after-item : (d n : ℕ) → ((l : List ℕ) → rest_of (members (decode d) n l) ≡ after_items d n l) → (o : Outcome Item)
    → rest_of (and_then o (λ i t. and_then (members (decode d) n t) (λ is u. got (more i is) u))) ≡ after_items d n (rest_of o)
after-item d n below (refused k) = sym (after_nothing d n)
after-item d n below (got i t) = rest-same (more i) (members (decode d) n t) ∙ below t

after-members : (d n : ℕ) (l : List ℕ) → rest_of (members (decode d) n l) ≡ after_items d n l
unfolding members
after-members d zero l = refl
after-members d (suc n) l = after-item d n (λ t. after-members d n t) (decode d l)

-- ---- what an answer of `value_at` says
module _ (d : ℕ) (s : List ℕ) (at : ℕ) where
  module _ (h : Heading) (t : List ℕ) (e : got h t ≡ heading (drop at s)) (l : t ≡ drop (length s - length t) s)
      (i : length s - length t ≤ length s) where
    decode-headed : decode (suc d) (drop at s) ≡ content (decode d) (major_of h.major) h.info h.argument t
    unfolding decode_by
    decode-headed = rw (← e)

    view-headed : view_at (suc d) (drop at s) ≡ view_by (suc d) (major_of h.major) h.argument t
    unfolding view_at
    view-headed = rw (← e)

    plain-headed : scalar_at (drop at s) ≡ scalar_by (major_of h.major) h.argument t
    unfolding scalar_at
    plain-headed = rw (← e)

    abbrev p : ℕ
    p = length s - length t

    abbrev arg : ℕ
    arg = h.argument

    -- neither an integer, nor a byte string, nor an array
    says_other : (M : Major) → major_of h.major ≡ M → view_by (suc d) M arg t ≡ scalar other → scalar_by M arg t ≡ other
        → ValueAt d s at vv.Other
    says_other M f v q = record { view = view-headed ∙ rw f v; member = plain-headed ∙ rw f q; rest = tt }

    says-string : major_of h.major ≡ byte_strings → Dec (arg ≤ length t) → ValueAt d s at (value_by (length s) byte_strings arg t)
    says-string f (yes w) =
        let lt : length t ≡ length s - p = ap length l ∙ length-drop p s in
        rw (le-leb arg (length t) w)
        (record {
          view = view-headed ∙ rw (f, next-got arg t w, ← l);
          member = plain-headed ∙ rw (f, next-got arg t w, ← l);
          rest = (omega arith, decode-headed ∙ rw (f, next-got arg t w, ← drop-drop arg p s, ← l));
        })
    says-string f (no w) =
        let w' : length t < arg = omega arith in
        rw (lt-leb arg (length t) w')
        (record { view = view-headed ∙ rw (f, next-cut arg t w'); member = plain-headed ∙ rw (f, next-cut arg t w'); rest = tt })

    says-by : (M : Major) → major_of h.major ≡ M → ValueAt d s at (value_by (length s) M arg t)
    says-by unsigneds f = record {
      view = view-headed ∙ rw f;
      member = plain-headed ∙ rw f;
      rest = (i, decode-headed ∙ rw f (ap (got (unsigned arg)) l));
    }
    says-by negatives f = record {
      view = view-headed ∙ rw f;
      member = plain-headed ∙ rw f;
      rest = (i, decode-headed ∙ rw f (ap (got (negative arg)) l));
    }
    says-by byte_strings f = says-string f (dec_le arg (length t))
    says-by text_strings f = says_other text_strings f refl refl
    says-by arrays f = record {
      view = view-headed ∙ rw f (ap (λ (u : List ℕ). list (scalars_at (suc d) arg u)) l);
      member = plain-headed ∙ rw f;
      rest = (
        i,
        ap (rest_of {A = Item}) decode-headed
            ∙ rw f (rest-same array (members (decode d) arg t) ∙ after-members d arg t ∙ ap (λ (u : List ℕ). after_items d arg u) l),
      );
    }
    says-by maps f = says_other maps f refl refl
    says-by tags f = says_other tags f refl refl
    says-by others f = says_other others f refl refl

  value-says : (r : Value) → r ≡ value_answer (length s) (heading (drop at s)) → ValueAt d s at r
  unfolding view_at scalar_at
  value-says r e = rw e (go (heading (drop at s)) (heading-tail (drop at s)) refl)
    where
      go : (o : Outcome Heading) → Tail (drop at s) 1 o → o ≡ heading (drop at s) → ValueAt d s at (value_answer (length s) o)
      go (refused k) t e = record { view = rw (← e); member = rw (← e); rest = tt }
      go (got h t) (k, x, y, z) e =
          let q = place s t at k (within s at k x y) y z in
          says-by h t e q.0 q.1 (major_of h.major) refl

pub value-told : (s : List ℕ) (at : ℕ) (r : Value) → r ≡ value_answer (length s) (heading (drop at s)) → ValueSpec s at r
value-told s at r e = record { is = e; says = λ d. value-says d s at r e }

-- ---- what is said of bytes is what is said of the tree that is read there
-- a simple value or a float, whichever it is
pub special-all : {B : Type 0} (f : Item → B) (b : B) → ((n : ℕ) → f (simple n) ≡ b) → ((w : Size) (n : ℕ) → f (float w n) ≡ b)
    → (x n : ℕ) → f (special x n) ≡ b
special-all f b p q x n = go (ltb x 25) (eqb x 25) (eqb x 26)
  where
    go : (t u v : Bool) → f (cond t (simple n) (cond u (float half n) (cond v (float single n) (float double n)))) ≡ b
    go true u v = p n
    go false true v = q half n
    go false false true = q single n
    go false false false = q double n

module _ (item : List ℕ → Outcome Item) (x a : ℕ) (l : List ℕ) (k : Item) (u : List ℕ) where
  label-by : (M : Major) → content item M x a l ≡ got k u → label_by M a ≡ label_of k
  label-by unsigneds e = ap label_of (same-value e)
  label-by negatives e = ap label_of (same-value e)
  label-by byte_strings e = let q = then-got (next a l) _ k u e in ap label_of (same-value q.3)
  label-by text_strings e = let q = then-got (next a l) _ k u e in ap label_of (same-value q.3)
  label-by arrays e = let q = then-got (members item a l) _ k u e in ap label_of (same-value q.3)
  label-by maps e = let q = then-got (pairs item a l) _ k u e in ap label_of (same-value q.3)
  label-by tags e = let q = then-got (item l) _ k u e in ap label_of (same-value q.3)
  label-by others e = sym (special-all label_of lv.NoInteger (λ n. refl) (λ w n. refl) x a) ∙ ap label_of (same-value e)

  plain_by : (M : Major) → content item M x a l ≡ got k u → scalar_by M a l ≡ scalar_of k
  plain_by unsigneds e = ap scalar_of (same-value e)
  plain_by negatives e = ap scalar_of (same-value e)
  plain_by byte_strings e = let q = then-got (next a l) _ k u e in rw q.2 (ap scalar_of (same-value q.3))
  plain_by text_strings e = let q = then-got (next a l) _ k u e in ap scalar_of (same-value q.3)
  plain_by arrays e = let q = then-got (members item a l) _ k u e in ap scalar_of (same-value q.3)
  plain_by maps e = let q = then-got (pairs item a l) _ k u e in ap scalar_of (same-value q.3)
  plain_by tags e = let q = then-got (item l) _ k u e in ap scalar_of (same-value q.3)
  plain_by others e = sym (special-all scalar_of other (λ n. refl) (λ w n. refl) x a) ∙ ap scalar_of (same-value e)

pub tree-label : (d : ℕ) (l : List ℕ) (k : Item) (u : List ℕ) → decode (suc d) l ≡ got k u → label_at l ≡ label_of k
unfolding decode_by label_at
tree-label d l k u e =
    let q = then-got (heading l) _ k u e in
    rw q.2 (label-by (decode d) q.0.info q.0.argument q.1 k u (major_of q.0.major) q.3)

pub tree_plain : (d : ℕ) (l : List ℕ) (k : Item) (u : List ℕ) → decode (suc d) l ≡ got k u → scalar_at l ≡ scalar_of k
unfolding decode_by scalar_at
tree_plain d l k u e =
    let q = then-got (heading l) _ k u e in
    rw q.2 (plain_by (decode d) q.0.info q.0.argument q.1 k u (major_of q.0.major) q.3)

module _ (d : ℕ) where
  tree-plains : (n : ℕ) (l : List ℕ) (is : Items) (u : List ℕ) → members (decode (suc d)) n l ≡ got is u
      → scalars_at (suc d) n l ≡ scalars_of is
  unfolding members
  tree-plains zero l is u e = ap scalars_of (same-value e)
  tree-plains (suc n) l is u e =
      let q = then-got (decode (suc d) l) _ is u e in
      let r = then-got (members (decode (suc d)) n q.1) _ is u q.3 in
      rw (q.2, tree_plain d l q.0 q.1 q.2, tree-plains n q.1 r.0 r.1 r.2) (ap scalars_of (same-value r.3))

  module _ (x a : ℕ) (l : List ℕ) (k : Item) (u : List ℕ) where
    view-by : (M : Major) → content (decode (suc d)) M x a l ≡ got k u → view_by (suc d) M a l ≡ view_of k
    view-by unsigneds e = ap view_of (same-value e)
    view-by negatives e = ap view_of (same-value e)
    view-by byte_strings e = let q = then-got (next a l) _ k u e in rw q.2 (ap view_of (same-value q.3))
    view-by text_strings e = let q = then-got (next a l) _ k u e in ap view_of (same-value q.3)
    view-by arrays e =
        let q = then-got (members (decode (suc d)) a l) _ k u e in
        rw (tree-plains a l q.0 q.1 q.2) (ap view_of (same-value q.3))
    view-by maps e = let q = then-got (pairs (decode (suc d)) a l) _ k u e in ap view_of (same-value q.3)
    view-by tags e = let q = then-got (decode (suc d) l) _ k u e in ap view_of (same-value q.3)
    view-by others e = sym (special-all view_of (scalar other) (λ n. refl) (λ w n. refl) x a) ∙ ap view_of (same-value e)

  pub tree-view : (l : List ℕ) (k : Item) (u : List ℕ) → decode (suc (suc d)) l ≡ got k u → view_at (suc d) l ≡ view_of k
  unfolding decode_by view_at
  tree-view l k u e =
      let q = then-got (heading l) _ k u e in
      rw q.2 (view-by q.0.info q.0.argument q.1 k u (major_of q.0.major) q.3)
