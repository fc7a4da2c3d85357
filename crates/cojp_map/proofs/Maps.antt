-- The pairs of a map, for any object: what is read pair by pair at their places is what is read of the tree.
use Rattle.std.specs.Prelude.{Result, Ok, Err, Some, None}
use Prim.Native.Nat.{ℕ, suc, ◌+◌, ◌-◌, ◌≤◌, ◌<◌}
use mathlib.Core.Path.{◌≡◌, refl, ap, sym, subst, ◌∙◌}
use mathlib.Core.Bool.{Bool, true, false, cond}
use mathlib.Core.List.{List, [], ◌∷◌}
use native.Mathlib.Omega.{arith}
use lib.ListN.{length, drop}
use lib.Seq.{drop-length}
use borrow.Author.Tests.{lt-ltb, le-ltb}
use lib.Dec.{ltb}
use Rattle.refusal.specs.Order.{refused_if, in_order}
use Rattle.refusal.specs.Refusal.{number_of}
use Rattle.refusal.specs.RefusalLemmas.{refused-first}
use Rattle.refusal.specs.declared.Refusal.{Refusal}
use Rattle.refusal.specs.declared.Refusal.TheVariants as refusal
use Rattle.refusal.specs.Verdict.{Verdict}
use Rattle.cbor.specs.Answer.{head_answer, skip_answer}
use Rattle.cbor.specs.Decode.{Outcome, Heading, heading, decode, payload_by}
use Rattle.cbor.specs.Decode as decode
use Rattle.cbor.specs.Item.{Item, Pairs, unsigned, negative, bytes, text, array, map_item, tag, simple, float, empty, pair}
use Rattle.cbor.specs.ReaderSpecs.{LabelSpec, says_label, HeadSpec, says_end, SkipSpec, PairsAt, says_opened, OpenSpec}
use Rattle.cbor.specs.Strict.{head_by}
use Rattle.cbor.specs.View.{View, label_of, view_of, if_map, label_at}
use Rattle.cbor.specs.declared.item.MapHead.{MapHead}
use Rattle.cbor.specs.Answer.{Opened}
use Rattle.cbor.specs.declared.value.Label.{Label}
use Rattle.cbor.specs.declared.value.Label.TheVariants as label
use Rattle.cbor.specs.declared.head.Head.{Head}
use Rattle.cojp.specs.Bytes.{value_view, after_value, EndsAt}
use Rattle.cojp.specs.Reading.{Reading, refused, read, read_by, bind, map_reading, result_of, Accepting}
use Rattle.cojp.specs.Walk.{Form, label_status_of, known_read, pair_read, pairs_read, map_read, scanned_read, payload_read_by}
use Rattle.cojp.specs.declared.disposition.Disposition.{Disposition}
use Rattle.cojp.specs.declared.disposition.Disposition.TheVariants.{Absent, Taken, Discarded}
use Rattle.cojp.specs.declared.walk.LabelStatus.{LabelStatus}
use Rattle.cojp.specs.declared.walk.LabelStatus.TheVariants.{Unknown, First, Repeated}
use Rattle.cojp.proofs.Nexts.{on-with}
use Rattle.cojp_map.specs.Pairs.{start_of, start_answer, map_in, pairs_in, says_start, payload_number, map_number, StartSpec}
use Rattle.cojp_map.specs.Pairs.{labelled, PairLabelSpec, seen, once, walk_at}

-- ---- the returns of `open_payload`
pub start-long : (b : Bool) (s : List ℕ) → 256 < length s → StartSpec b s (Err refusal.Long)
unfolding start_answer pairs_in
start-long b s h = let long = lt-ltb 256 (length s) h in record { is = rw long; number = rw long; says = rw long }

not-map : {R : Type 0} (f : Pairs → R) (x : R) (i : Item) → if_map (λ ps. true) false i ≡ false → if_map f x i ≡ x
not-map f x (map_item ps) e = absurd (let z : ◌≡◌ {A = ℕ} 0 1 = cc in omega arith)
not-map f x (unsigned n) e = refl
not-map f x (negative n) e = refl
not-map f x (bytes b) e = refl
not-map f x (text b) e = refl
not-map f x (array is) e = refl
not-map f x (tag n i) e = refl
not-map f x (simple n) e = refl
not-map f x (float w n) e = refl

module _ (b : Bool) (s : List ℕ) (h : length s ≤ 256) where
  start-says : (p : Opened) → says_opened b s p → says_start b s (start_of p)
  unfolding pairs_in
  start-says (Err k) w = rw (le-ltb 256 (length s) h, w)
  start-says (Ok None) w = rw (le-ltb 256 (length s) h, w.read) (not-map read (refused refusal.«Type») w.item w.other)
  start-says (Ok (Some m)) w = (w.pairs-are, rw (le-ltb 256 (length s) h, w.read), w.stand)

  start-number : (p : Opened) → says_opened b s p
      → payload_number (start_of p)
      ≡ in_order (refused_if (ltb 256 (length s)) (number_of refusal.Long) ∷ map_number (payload_by (head_by b) s) ∷ [])
  start-number (Err k) w = rw (le-ltb 256 (length s) h, w) (sym (refused-first k []))
  start-number (Ok None) w =
      rw (le-ltb 256 (length s) h, w.read, not-map (λ (ps : Pairs). 0) (number_of refusal.«Type») w.item w.other)
  start-number (Ok (Some m)) w = rw (le-ltb 256 (length s) h, w.read)

  pub start-opened : (o : Opened) → OpenSpec b s o → (p : Opened) → o ≡ p → StartSpec b s (start_of p)
  unfolding start_answer
  start-opened o e p g =
      let w = subst (says_opened b s) g e.says in
      record { is = rw (le-ltb 256 (length s) h, ← e.is, g); number = start-number p w; says = start-says p w }

-- ---- a place that is told after an item, or after a head, is in the payload or at its end
abbrev skip_place : Result ℕ Refusal → ℕ
skip_place (Err k) = 0
skip_place (Ok p) = p

skip-inside : {A : Type 0} (n : ℕ) (o : Outcome A) → skip_place (skip_answer n o) ≤ n
skip-inside n (decode.refused k) = omega arith
skip-inside n (decode.got a t) = omega arith

abbrev head_place : Result Head Refusal → ℕ
head_place (Err k) = 0
head_place (Ok h) = h.next

head-inside : (n : ℕ) (o : Outcome Heading) → head_place (head_answer n o) ≤ n
head-inside n (decode.refused k) = omega arith
head-inside n (decode.got h t) = omega arith

-- ---- the returns of `item_end`
module _ (s : List ℕ) (at : ℕ) (k : Result ℕ Refusal) (e : SkipSpec s (decode 7 (drop at s)) k) where
  pub end_refused : (j : Refusal) → k ≡ Err j → EndsAt s (length s) (after_value (drop at s))
  end_refused j g = record { rest = drop-length s ∙ sym (subst (says_end s (decode 7 (drop at s))) g e.end); inside = omega arith }

  pub end-next : (p : ℕ) → k ≡ Ok p → EndsAt s p (after_value (drop at s))
  end-next p g = record {
    rest = sym (subst (says_end s (decode 7 (drop at s))) g e.end);
    inside = omega (arith, ap skip_place (sym g ∙ e.is), skip-inside (length s) (decode 7 (drop at s)));
  }

-- ---- the returns of `labelled_at`
module _ (s : List ℕ) (at : ℕ) (r : Result Head Refusal) (e : HeadSpec s at r) where
  pub told-refused : (k : Refusal) → r ≡ Err k → PairLabelSpec s (drop at s) (Err refusal.«Type»)
  told-refused k g = record { is = rw (subst (says_label s at) g e.label); rest = tt }

  module _ (h : Head) (g : r ≡ Ok h) where
    here : LabelSpec s at h
    here = subst (says_label s at) g e.label

    value_after : h.major ≤ 1 → EndsAt s h.next (after_value (drop at s))
    value_after m = record {
      rest = sym (here.ends m 6);
      inside = omega (arith, ap head_place (sym g ∙ e.is), head-inside (length s) (heading (drop at s)));
    }

    pub told-number : h.major ≡ 0
        → PairLabelSpec s (drop at s) (Ok (h.argument, h.next))
    told-number m = record { is = rw (here.number m); rest = value_after (omega arith) }

    pub told-negative : h.major ≡ 1 → PairLabelSpec s (drop at s) (Ok (0, h.next))
    told-negative m = record { is = rw (here.negative m); rest = value_after (omega arith) }

    pub told-other : 2 ≤ h.major → PairLabelSpec s (drop at s) (Err refusal.«Type»)
    told-other m = record { is = rw (here.none m); rest = tt }

-- ---- what was read is put in its place
pub put-said : {A B : Type 0} (f : A → B) (v : Verdict) (a : A) (x : Reading A) → result_of v a ≡ x → result_of v (f a) ≡ map_reading f x
put-said {A} f v a x e = go v ∙ ap (map_reading f) e
  where
    go : (v : Verdict) → result_of v (f a) ≡ map_reading f (result_of v a)
    go (Ok tt) = refl
    go (Err k) = refl

-- ---- a known label: it comes again, or its value is read and put in its place
abbrev pub if_again : Bool → LabelStatus
if_again true = Repeated
if_again false = First

pub standing-seen : (r : Disposition) → label_status_of r ≡ if_again (seen r)
standing-seen Absent = refl
standing-seen Taken = refl
standing-seen Discarded = refl

-- ---- the walk
module _ {S : Type 0} (F : Form S) where
  pub known-put : {P : Type 0} (c : S) (n : ℕ) (v : View) (again : Bool) (f : P → S) (x : Reading P)
      → F.standing c n ≡ if_again again → F.taking c n v ≡ map_reading f x
      → map_reading f (once again x) ≡ known_read F (F.standing c n) c n v
  known-put c n v again f x g h = rw g (go again)
    where
      go : (again : Bool) → map_reading f (once again x) ≡ known_read F (if_again again) c n v
      go true = refl
      go false = sym h

  -- one turn: what a pair says of what was gathered, and where the next pair begins
  pub record Turned (c : S) (s l : List ℕ) (w : Verdict) (d : S) (next : ℕ) : Type 0 where
    pub says : result_of w d ≡ pair_read F c (label_at l) (value_view (after_value l))
    pub ends : Accepting w (EndsAt s next (after_value (after_value l)))

  same_read : {m n : ℕ} → read m ≡ read n → m ≡ n
  same_read e = cc

  same_refusal : {j k : Refusal} → ◌≡◌ {A = Reading ℕ} (refused j) (refused k) → j ≡ k
  same_refusal e = cc

  never : (n : ℕ) → {k : Refusal} → read n ≡ refused k → ⊥
  never n e = let z : ◌≡◌ {A = ℕ} 0 1 = cc in omega arith

  module _ (c : S) (s l : List ℕ) (p : Result (ℕ × ℕ) Refusal) (t : PairLabelSpec s l p) where
    -- a label that is no integer
    pub turned-refused : (k : Refusal) → p ≡ Err k → (d : S) (next : ℕ) → Turned c s l (Err k) d next
    turned-refused k h d next = go (label_at l) refl (sym (ap read_by h) ∙ t.is)
      where
        go : (x : Label) → label_at l ≡ x → refused k ≡ labelled x → Turned c s l (Err k) d next
        go label.NoInteger g e = let z : k ≡ refusal.«Type» = same_refusal e in record { says = rw (g, z); ends = tt }
        go label.Negative g e = absurd (never 0 (sym e))
        go (label.Number n) g e = absurd (never n (sym e))

    module _ (q : ℕ × ℕ) (h : p ≡ Ok q) where
      told : read q.0 ≡ labelled (label_at l)
      told = sym (ap read_by h) ∙ t.is

      place : EndsAt s q.1 (after_value l)
      place = rw h at t.rest

      pub turned-known : 0 < q.0 → (w : Verdict) (d : S) (next : ℕ)
          → result_of w d ≡ known_read F (F.standing c q.0) c q.0 (value_view (drop q.1 s))
          → Accepting w (EndsAt s next (after_value (drop q.1 s))) → Turned c s l w d next
      turned-known some w d next e f = go (label_at l) refl
        where
          go : (x : Label) → label_at l ≡ x → Turned c s l w d next
          go label.NoInteger g = let z : read q.0 ≡ refused refusal.«Type» = told ∙ ap labelled g in absurd (never q.0 z)
          go label.Negative g = let z : q.0 ≡ 0 = same_read (told ∙ ap labelled g) in absurd (omega arith)
          go (label.Number n) g =
              let n-is : q.0 ≡ n = same_read (told ∙ ap labelled g) in
              let value = place.rest in
              record { says = e ∙ rw (g, n-is, value); ends = rw (← value) f }

      pub turned-passed : F.standing c q.0 ≡ Unknown → (next : ℕ) → EndsAt s next (after_value (drop q.1 s))
          → Turned c s l (Ok tt) (F.passing c) next
      turned-passed unknown next f = go (label_at l) refl
        where
          go : (x : Label) → label_at l ≡ x → Turned c s l (Ok tt) (F.passing c) next
          go label.NoInteger g = let z : read q.0 ≡ refused refusal.«Type» = told ∙ ap labelled g in absurd (never q.0 z)
          go label.Negative g = record { says = rw g; ends = on-with (ap after_value place.rest) f }
          go (label.Number n) g =
              let n-is : q.0 ≡ n = same_read (told ∙ ap labelled g) in
              let here : F.standing c n ≡ Unknown = rw n-is at unknown in
              record { says = rw (g, here); ends = on-with (ap after_value place.rest) f }

-- a walk under way: labels passed over, pairs left, what was gathered so far, and the bytes of the pairs that are left
pub record Walking {S : Type 0} (F : Form S) (total : Reading S) (count passed left : ℕ) (c : S) (l : List ℕ) : Type 0 where
  pub few : passed + left ≤ count
  pub rest : walk_at F left c l ≡ total

module _ {S : Type 0} (F : Form S) where
  pub walk_start : (n : ℕ) (c : S) (l : List ℕ) → Walking F (walk_at F n c l) n 0 n c l
  walk_start n c l = record { few = omega arith; rest = refl }

  module _ (total : Reading S) (count : ℕ) {p n : ℕ} {c : S} where
    pub walk-done : {l : List ℕ} → Walking F total count p n c l → n ≤ 0 → read c ≡ total
    unfolding walk_at
    walk-done {l} i h = let z : 0 ≡ n = omega arith in ap (λ (m : ℕ). walk_at F m c l) z ∙ i.rest

    module _ (s l : List ℕ) (i : Walking F total count p n c l) (h : 0 < n) where
      step : walk_at F (suc (n - 1)) c l ≡ total
      step = let z : suc (n - 1) ≡ n = omega arith in ap (λ (m : ℕ). walk_at F m c l) z ∙ i.rest

      turn_on : (w : Verdict) (d : S) (next : ℕ) → Turned F c s l w d next
          → bind (result_of w d) (λ d. walk_at F (n - 1) d (after_value (after_value l))) ≡ total
      unfolding walk_at
      turn_on w d next t = ap (λ (x : Reading S). bind x (λ d. walk_at F (n - 1) d (after_value (after_value l)))) t.says ∙ step

      pub turn-stops : (w : Verdict) (d : S) (next : ℕ) → Turned F c s l w d next → (k : Refusal) → w ≡ Err k
          → refused k ≡ total
      turn-stops w d next t k g =
          ap (λ (w : Verdict). bind (result_of w d) (λ d. walk_at F (n - 1) d (after_value (after_value l)))) (sym g) ∙ turn_on w d next t

      pub turn-goes : (w : Verdict) (d : S) (next : ℕ) → Turned F c s l w d next → w ≡ Ok tt → (q : ℕ) → q ≤ p + 1
          → Walking F total count q (n - 1) d (drop next s)
      turn-goes w d next t g q f =
          let place : EndsAt s next (after_value (after_value l)) = rw g at t.ends in
          record {
            few = omega (arith, i.few);
            rest =
                ap (walk_at F (n - 1) d) place.rest
                ∙ ap (λ (w : Verdict). bind (result_of w d) (λ d. walk_at F (n - 1) d (after_value (after_value l)))) (sym g)
                ∙ turn_on w d next t;
          }

  -- ---- the tree
  onward-same : (r : Reading S) (f g : S → Reading S) → ((d : S) → f d ≡ g d) → bind r f ≡ bind r g
  onward-same (refused k) f g h = refl
  onward-same (read d) f g h = h d

  walk-tree : (ps : Pairs) (n : ℕ) (c : S) (l : List ℕ) → PairsAt n l ps → walk_at F n c l ≡ pairs_read F c ps
  unfolding walk_at
  walk-tree empty n c l e = rw e
  walk-tree (pair k v ps) n c l (m, e, a, x, q) =
      rw (e, a, x)
      (onward-same (pair_read F c (label_of k) (view_of v)) (λ d. walk_at F m d (after_value (after_value l))) (λ d. pairs_read F d ps)
      (λ d. walk-tree ps m d (after_value (after_value l)) q))

  -- ---- a whole payload, read strictly or not
  map_read_lem : (c : S) (i : Item) → map_read F c i ≡ bind (if_map read (refused refusal.«Type») i) (pairs_read F c)
  map_read_lem c (map_item ps) = refl
  map_read_lem c (unsigned n) = refl
  map_read_lem c (negative n) = refl
  map_read_lem c (bytes b) = refl
  map_read_lem c (text b) = refl
  map_read_lem c (array is) = refl
  map_read_lem c (tag n i) = refl
  map_read_lem c (simple n) = refl
  map_read_lem c (float w n) = refl

  module _ (b : Bool) (c : S) (s : List ℕ) where
    read-in : payload_read_by F (head_by b) c s ≡ bind (pairs_in b s) (pairs_read F c)
    unfolding payload_read_by pairs_in
    read-in = go (ltb 256 (length s)) (payload_by (head_by b) s)
      where
        go : (l : Bool) (o : Outcome Item)
            → cond l (refused refusal.Long) (scanned_read F c o) ≡ bind (cond l (refused refusal.Long) (map_in o)) (pairs_read F c)
        go true o = refl
        go false (decode.refused k) = refl
        go false (decode.got i t) = map_read_lem c i

    read_as : (x : Reading Pairs) → pairs_in b s ≡ x → payload_read_by F (head_by b) c s ≡ bind x (pairs_read F c)
    read_as x e = read-in ∙ ap (λ (y : Reading Pairs). bind y (pairs_read F c)) e

    module _ (r : Result MapHead Refusal) (e : StartSpec b s r) where
      pub read-refused : (k : Refusal) → r ≡ Err k → payload_read_by F (head_by b) c s ≡ refused k
      read-refused k g = read_as (refused k) (subst (says_start b s) g e.says)

      pub read_pairs : (m : MapHead) → r ≡ Ok m → payload_read_by F (head_by b) c s ≡ walk_at F m.count c (drop m.start s)
      read_pairs m g =
          let (ps, w, q) = subst (says_start b s) g e.says in
          read_as (read ps) w ∙ sym (walk-tree ps m.count c (drop m.start s) q)
