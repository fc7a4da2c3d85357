-- What `skip_item`, `skip_members`, `scan` and `open_map` answer, case by case of their returns.
use Rattle.std.specs.Prelude.{Result, Ok, Err}
use Prim.Native.Nat.{ℕ, zero, suc, ◌+◌, ◌-◌, ◌≤◌, ◌<◌}
use mathlib.Core.Path.{◌≡◌, refl, ap, sym, ◌∙◌, fun_ext}
use mathlib.Core.Bool.{Bool}
use mathlib.Core.List.{List, [], ◌∷◌}
use native.Mathlib.Omega.{arith}
use native.Mathlib.Nat.{suc-add, add-suc, zero-add}
use lib.ListN.{length, drop, length-drop}
use lib.Seq.{drop-drop}
use Rattle.refusal.specs.declared.Refusal.{Refusal}
use Rattle.refusal.specs.declared.Refusal.TheVariants.{Cut, Deep, Extra}
use Rattle.cbor.specs.Item.{Item, bytes, text, array, map_item, tag, more, pair}
use Rattle.cbor.specs.Decode.{Outcome, refused, got, and_then, next, Heading, members}
use Rattle.cbor.specs.Decode.{pairs, major_of, content, decode_by, payload_by, ended}
use Rattle.cbor.specs.Strict.{head_by}
use Rattle.cbor.specs.Answer.{scan_answer}
use Rattle.cbor.specs.declared.head.Head.{Head}
use Rattle.cbor.proofs.Answers.{passed-got, passed-refused}
use Rattle.cbor.proofs.Heads.{next-got, next-cut}
use Rattle.cbor.proofs.Places.{HeadAt, head_says, Rest, stop, rest, forget, Passed}

-- ---- the value forgotten, `members` and `pairs` are one step that is taken so many times
forget-map : {A B : Type 0} (f : A → B) (o : Outcome A) → forget (and_then o (λ a t. got (f a) t)) ≡ forget o
forget-map f (refused k) = refl
forget-map f (got a s) = refl

abbrev onward : Rest → (List ℕ → Rest) → Rest
onward (stop k) g = stop k
onward (rest s) g = g s

onward-onward : (r : Rest) (f g : List ℕ → Rest) → onward (onward r f) g ≡ onward r (λ t. onward (f t) g)
onward-onward (stop k) f g = refl
onward-onward (rest s) f g = refl

forget-then : {A B : Type 0} (o : Outcome A) (f : A → List ℕ → Outcome B) (g : List ℕ → Rest)
    → ((a : A) (t : List ℕ) → forget (f a t) ≡ g t) → forget (and_then o f) ≡ onward (forget o) g
forget-then (refused k) f g h = refl
forget-then (got a s) f g h = h a s

abbrev times : (List ℕ → Outcome Item) → ℕ → List ℕ → Rest
times item zero s = rest s
times item (suc n) s = onward (forget (item s)) (λ t. times item n t)

times-add : (item : List ℕ → Outcome Item) (m n : ℕ) (s : List ℕ) → times item (m + n) s ≡ onward (times item m s) (λ t. times item n t)
times-add item zero n s = rw zero-add
times-add item (suc m) n s = rw suc-add
    (ap (onward (forget (item s))) (fun_ext (λ t. times-add item m n t))
    ∙ sym (onward-onward (forget (item s)) (λ t. times item m t) (λ t. times item n t)))

members-times : (item : List ℕ → Outcome Item) (n : ℕ) (s : List ℕ) → forget (members item n s) ≡ times item n s
unfolding members
members-times item zero s = refl
members-times item (suc n) s =
    forget-then (item s) _ (λ t. times item n t) (λ i t. forget-map (more i) (members item n t) ∙ members-times item n t)

pairs-times : (item : List ℕ → Outcome Item) (n : ℕ) (s : List ℕ) → forget (pairs item n s) ≡ times item (n + n) s
unfolding pairs
pairs-times item zero s = refl
pairs-times item (suc n) s = rw (suc-add n (suc n), add-suc n n)
    (forget-then (item s) _ (λ t. times item (suc (n + n)) t) (λ k t.
    forget-then (item t) _ (λ u. times item (n + n) u) (λ v u. forget-map (pair k v) (pairs item n u) ∙ pairs-times item n u)))

-- ---- what follows a head, by its major type
module _ (item : List ℕ → Outcome Item) (i a : ℕ) (l : List ℕ) where
  head-alone : (m : ℕ) → (2 ≤ m → m ≤ 6 → ⊥) → forget (content item (major_of m) i a l) ≡ rest l
  unfolding major_of
  head-alone zero h = refl
  head-alone (suc zero) h = refl
  head-alone (suc (suc zero)) h = absurd (h (omega arith) (omega arith))
  head-alone (suc (suc (suc zero))) h = absurd (h (omega arith) (omega arith))
  head-alone (suc (suc (suc (suc zero)))) h = absurd (h (omega arith) (omega arith))
  head-alone (suc (suc (suc (suc (suc zero))))) h = absurd (h (omega arith) (omega arith))
  head-alone (suc (suc (suc (suc (suc (suc zero)))))) h = absurd (h (omega arith) (omega arith))
  head-alone (suc (suc (suc (suc (suc (suc (suc m))))))) h = refl

  string-content : (m : ℕ) → 2 ≤ m → m ≤ 3 → forget (content item (major_of m) i a l) ≡ forget (next a l)
  unfolding major_of
  string-content zero h k = absurd (omega arith)
  string-content (suc zero) h k = absurd (omega arith)
  string-content (suc (suc zero)) h k = forget-map bytes (next a l)
  string-content (suc (suc (suc zero))) h k = forget-map text (next a l)
  string-content (suc (suc (suc (suc m)))) h k = absurd (omega arith)

  array-content : (m : ℕ) → m ≡ 4 → forget (content item (major_of m) i a l) ≡ forget (members item a l)
  unfolding major_of
  array-content m e = rw e (forget-map array (members item a l))

  -- a map of a pairs: a members, and then a members
  map-content : (m : ℕ) → m ≡ 5
      → forget (content item (major_of m) i a l) ≡ onward (forget (members item a l)) (λ t. forget (members item a t))
  unfolding major_of
  map-content m e = rw e
      (forget-map map_item (pairs item a l) ∙ pairs-times item a l ∙ times-add item a a l
      ∙ sym (simp members-times))

  tag-content : (m : ℕ) → m ≡ 6 → forget (content item (major_of m) i a l) ≡ forget (item l)
  unfolding major_of
  tag-content m e = rw e (forget-map (tag a) (item l))

-- ---- an item
unsuc : (d : ℕ) → ¬ (d ≡ 0) → d ≡ suc (d - 1)
unsuc d h = omega arith

-- read strictly, or not
abbrev pub item_by : Bool → ℕ → List ℕ → Outcome Item
item_by b d l = decode_by (head_by b) d l

module _ (b : Bool) (s : List ℕ) (at d : ℕ) where
  pub item-deep : d ≡ 0 → Passed s (item_by b d (drop at s)) (Err Deep)
  unfolding decode_by
  item-deep e = rw e (record { says = refl; inside = tt })

  decode-step : (h : Outcome Heading) → ¬ (d ≡ 0) → h ≡ head_by b (drop at s)
      → item_by b d (drop at s) ≡ and_then h (λ h t. content (item_by b (d - 1)) (major_of h.major) h.info h.argument t)
  unfolding decode_by
  decode-step h n e = ap (λ (k : ℕ). item_by b k (drop at s)) (unsuc d n) ∙ rw e

  pub item_refused : (k : Refusal) → ¬ (d ≡ 0) → HeadAt b s at (Err k) → Passed s (item_by b d (drop at s)) (Err k)
  item_refused k n h = record { says = sym (ap forget (decode-step (refused k) n h.says)); inside = tt }

  module _ (h : Head) (n : ¬ (d ≡ 0)) (w : HeadAt b s at (Ok h)) where
    abbrev m : ℕ
    m = h.major

    abbrev a : ℕ
    a = h.argument

    abbrev p : ℕ
    p = h.next

    abbrev below : List ℕ → Outcome Item
    below = item_by b (d - 1)

    pub decode-got : item_by b d (drop at s) ≡ content below (major_of m) h.info a (drop p s)
    decode-got = decode-step (head_says s (Ok h)) n w.says

    pub item-alone : (2 ≤ m → m ≤ 6 → ⊥) → Passed s (item_by b d (drop at s)) (Ok p)
    item-alone o =
        record { says = sym (ap forget decode-got ∙ head-alone below h.info a (drop p s) m o); inside = w.inside }

    pub item-string : 2 ≤ m → m ≤ 3 → a ≤ length s - p → Passed s (item_by b d (drop at s)) (Ok (p + a))
    item-string l l' r =
        let i : p ≤ length s = w.inside in
        let r' : a ≤ length (drop p s) = rw (length-drop p s) r in
        record {
          says = sym (ap forget decode-got ∙ string-content below h.info a (drop p s) m l l' ∙ ap forget (next-got a (drop p s) r')
              ∙ ap rest (drop-drop a p s));
          inside = omega arith;
        }

    pub item-short : 2 ≤ m → m ≤ 3 → length s - p < a → Passed s (item_by b d (drop at s)) (Err Cut)
    item-short l l' r =
        let r' : length (drop p s) < a = rw (length-drop p s) r in
        record {
          says = sym (ap forget decode-got ∙ string-content below h.info a (drop p s) m l l' ∙ ap forget (next-cut a (drop p s) r'));
          inside = tt;
        }

    pub item-array : m ≡ 4 → (r : Result ℕ Refusal) → Passed s (members below a (drop p s)) r → Passed s (item_by b d (drop at s)) r
    item-array e r q =
        record { says = q.says ∙ sym (ap forget decode-got ∙ array-content below h.info a (drop p s) m e); inside = q.inside }

    pub item-map-refused : m ≡ 5 → (k : Refusal) → Passed s (members below a (drop p s)) (Err k)
        → Passed s (item_by b d (drop at s)) (Err k)
    item-map-refused e k q = record {
      says = sym (ap forget decode-got ∙ map-content below h.info a (drop p s) m e ∙ rw (← q.says));
      inside = tt;
    }

    pub item-map : m ≡ 5 → (q : ℕ) (r : Result ℕ Refusal) → Passed s (members below a (drop p s)) (Ok q)
        → Passed s (members below a (drop q s)) r → Passed s (item_by b d (drop at s)) r
    item-map e q r f g = record {
      says = g.says ∙ sym (ap forget decode-got ∙ map-content below h.info a (drop p s) m e ∙ rw (← f.says));
      inside = g.inside;
    }

    pub item-tag : m ≡ 6 → (r : Result ℕ Refusal) → Passed s (below (drop p s)) r → Passed s (item_by b d (drop at s)) r
    item-tag e r q =
        record { says = q.says ∙ sym (ap forget decode-got ∙ tag-content below h.info a (drop p s) m e); inside = q.inside }

-- ---- members, as the loop goes: what is left to pass over from here is what was to be passed over from the start
module _ (b : Bool) (s : List ℕ) (at d n : ℕ) where
  members_step : 0 < n → forget (members (item_by b d) n (drop at s))
      ≡ onward (forget (item_by b d (drop at s))) (λ t. forget (members (item_by b d) (n - 1) t))
  members_step h =
      ap (λ (k : ℕ). forget (members (item_by b d) k (drop at s))) (unsuc n (omega arith))
      ∙ members-times (item_by b d) (suc (n - 1)) (drop at s)
      ∙ sym (simp members-times)

  pub members-refused : 0 < n → (k : Refusal) → Passed s (item_by b d (drop at s)) (Err k)
      → forget (members (item_by b d) n (drop at s)) ≡ stop k
  members-refused h k q = members_step h ∙ rw (← q.says)

  pub members-before : 0 < n → (p : ℕ) → Passed s (item_by b d (drop at s)) (Ok p)
      → forget (members (item_by b d) (n - 1) (drop p s)) ≡ forget (members (item_by b d) n (drop at s))
  members-before h p q = sym (members_step h ∙ rw (← q.says))

  pub members-done : n ≤ 0 → forget (members (item_by b d) n (drop at s)) ≡ rest (drop at s)
  unfolding members
  members-done h = let e : n ≡ 0 = omega arith in rw e

-- ---- a whole payload
extra : (i : Item) (t : List ℕ) → 0 < length t → scan_answer (ended i t) ≡ Err Extra
extra i [] h = absurd (omega arith)
extra i (b ∷ t) h = refl

whole : (i : Item) (t : List ℕ) → length t ≡ 0 → scan_answer (ended i t) ≡ Ok tt
whole i [] h = refl
whole i (b ∷ t) h = absurd (omega arith)

module _ (b : Bool) (s : List ℕ) where
  pub scan-refused : (k : Refusal) → Passed s (item_by b 8 s) (Err k) → Err k ≡ scan_answer (payload_by (head_by b) s)
  unfolding payload_by
  scan-refused k q = rw (passed-refused s (item_by b 8 s) k q)

  pub scan-extra : (p : ℕ) → Passed s (item_by b 8 s) (Ok p) → p < length s → Err Extra ≡ scan_answer (payload_by (head_by b) s)
  unfolding payload_by
  scan-extra p q h =
      let (i, e) = passed-got s (item_by b 8 s) p q in
      rw e (sym (extra i (drop p s) (omega (arith, length-drop p s))))

  pub scan-whole : (p : ℕ) → Passed s (item_by b 8 s) (Ok p) → length s ≤ p → Ok tt ≡ scan_answer (payload_by (head_by b) s)
  unfolding payload_by
  scan-whole p q h =
      let (i, e) = passed-got s (item_by b 8 s) p q in
      rw e (sym (whole i (drop p s) (omega (arith, length-drop p s))))
