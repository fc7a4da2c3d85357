-- What the answers of `open_map` say of the payload's outermost item.
use Rattle.std.specs.Prelude.{Ok, Err, Some, None}
use Prim.Native.Nat.{ℕ, zero, suc, ◌-◌, ◌≤◌}
use mathlib.Core.Path.{◌≡◌, refl, ap, sym, subst, ◌∙◌}
use mathlib.Core.Bool.{Bool, true, false, cond}
use mathlib.Core.List.{List, [], ◌∷◌}
use mathlib.Core.Logic.{◌⊎◌, inl, inr, ⊎_elim}
use native.Mathlib.Omega.{arith}
use borrow.Author.Tests.{eqb-true, eqb-false}
use lib.Dec.{eqb}
use lib.ListN.{length, drop}
use Rattle.refusal.specs.declared.Refusal.{Refusal}
use Rattle.cbor.specs.Item.{Item, Pairs, map_item, pair}
use Rattle.cbor.specs.Decode.{Outcome, refused, got, and_then, next, heading, Heading, members}
use Rattle.cbor.specs.Decode.{pairs, major_of, content, decode_by, decode, payload, payload_by, ended}
use Rattle.cbor.specs.Answer.{Opened, map_head, map_answer, open_answer, outcome_number, opened_number}
use Rattle.cbor.specs.declared.item.MapHead.{MapHead}
use Rattle.cbor.specs.ReaderSpecs.{PairsAt, says_opened, OpenSpec}
use Rattle.cbor.specs.Strict.{head_by}
use Rattle.cbor.specs.View.{if_map}
use Rattle.refusal.specs.declared.Refusal.TheVariants.{Loose}
use Rattle.cbor.proofs.Answers.{place}
use Rattle.cbor.proofs.Outcomes.{never, then-got, same-value, same_rest}
use Rattle.cbor.proofs.Strict.{payload_same}
use Rattle.cbor.proofs.Tails.{Tail, heading-tail}
use Rattle.cbor.proofs.Views.{special-all, tree-label, tree-view}

-- read strictly, or not
record IsMap (b : Bool) (s : List ℕ) (n p : ℕ) : Type 0 where
  pub pairs-are : Pairs
  pub left : List ℕ
  pub inside : p ≤ length s
  pub read : payload_by (head_by b) s ≡ got (map_item pairs-are) []
  pub each : pairs (decode 7) n (drop p s) ≡ got pairs-are left

record IsOther (b : Bool) (s : List ℕ) : Type 1 where
  pub item : Item
  pub read : payload_by (head_by b) s ≡ got item []
  pub other : {R : Type 0} (f : Pairs → R) (x : R) → if_map f x item ≡ x

-- nothing follows an item that was got, and a payload's head is its outermost item's
ended_same : (i j : Item) (t u : List ℕ) → ended i t ≡ got j u → (i ≡ j) × (u ≡ [])
ended_same i j [] u e = (same-value e, sym (same_rest e))
ended_same i j (b ∷ t) u e = absurd (never e)

module _ (s : List ℕ) (i : Item) (t : List ℕ) (e : payload s ≡ got i t) where
  from-decode : (u : List ℕ) × (decode 8 s ≡ got i u) × (t ≡ [])
  unfolding payload_by
  from-decode =
      let (j, u, f, g) = then-got (decode 8 s) ended i t e in
      let (a, b) = ended_same j i u t g in
      (u, f ∙ ap (λ (x : Item). got x u) a, b)

  pub whole-payload : payload s ≡ got i []
  whole-payload = e ∙ ap (got i) from-decode.2

  headed : (h : Heading) × (u : List ℕ) × (heading s ≡ got h u) × (w : List ℕ)
      × (content (decode 7) (major_of h.major) h.info h.argument u ≡ got i w)
  unfolding decode_by
  headed =
      let (w, f, z) = from-decode in
      let (h, u, a, b) = then-got (heading s) _ i w f in
      (h, u, a, w, b)

module _ (x a : ℕ) (l : List ℕ) (i : Item) (t : List ℕ) where
  the-map : (m : ℕ) → m ≡ 5 → content (decode 7) (major_of m) x a l ≡ got i t
      → (ps : Pairs) × (u : List ℕ) × (i ≡ map_item ps) × (pairs (decode 7) a l ≡ got ps u)
  unfolding major_of
  the-map m n e =
      let b : and_then (pairs (decode 7) a l) (λ ps u. got (map_item ps) u) ≡ got i t = rw n at e in
      let q = then-got (pairs (decode 7) a l) _ i t b in
      (q.0, q.1, sym (same-value q.3), q.2)

  no-map : {R : Type 0} (f : Pairs → R) (r : R) (m : ℕ) → ¬ (m ≡ 5) → content (decode 7) (major_of m) x a l ≡ got i t → if_map f r i ≡ r
  unfolding major_of
  no-map f r zero n e = rw (← same-value e)
  no-map f r (suc zero) n e = rw (← same-value e)
  no-map f r (suc (suc zero)) n e = let q = then-got (next a l) _ i t e in rw (← same-value q.3)
  no-map f r (suc (suc (suc zero))) n e = let q = then-got (next a l) _ i t e in rw (← same-value q.3)
  no-map f r (suc (suc (suc (suc zero)))) n e = let q = then-got (members (decode 7) a l) _ i t e in rw (← same-value q.3)
  no-map f r (suc (suc (suc (suc (suc zero))))) n e = absurd (n refl)
  no-map f r (suc (suc (suc (suc (suc (suc zero)))))) n e = let q = then-got (decode 7 l) _ i t e in rw (← same-value q.3)
  no-map f r (suc (suc (suc (suc (suc (suc (suc m))))))) n e =
      rw (← same-value e) (special-all (if_map f r) r (λ n. refl) (λ w n. refl) x a)

-- what the test of the major type decided
by-test : (b : Bool) (n p : ℕ) (r : Opened) → r ≡ Ok (cond b (Some (map_head n p)) None)
    → ((b ≡ true) × (r ≡ Ok (Some (map_head n p)))) ⊎ ((b ≡ false) × (r ≡ Ok None))
by-test true n p r e = inl (refl, e)
by-test false n p r e = inr (refl, e)

same-refusal : {j k : Refusal} → ◌≡◌ {A = Opened} (Err j) (Err k) → j ≡ k
same-refusal e = cc

same_map : {n m p q : ℕ} → ◌≡◌ {A = Opened} (Ok (Some (map_head n p))) (Ok (Some (map_head m q))) → (n ≡ m) × (p ≡ q)
same_map {n} {m} {p} {q} e =
    let f : map_head n p ≡ map_head m q = cc in
    (ap (λ (x : MapHead). x.count) f, ap (λ (x : MapHead). x.start) f)

module _ (s : List ℕ) (r : Opened) (e : r ≡ open_answer (length s) (payload s) (heading s)) where
  plain-refused : (k : Refusal) → r ≡ Err k → payload s ≡ refused k
  plain-refused k g = go (payload s) refl (sym g ∙ e)
    where
      go : (o : Outcome Item) → payload s ≡ o → Err k ≡ open_answer (length s) o (heading s) → o ≡ refused k
      go (refused j) w f = cc
      go (got i t) w f =
          let (h, u, a, x, b) = headed s i t w in
          let f' : Err k ≡ Ok (map_answer (length s) h u) = rw a at f in
          absurd (⊎_elim (λ q. let z : ◌≡◌ {A = ℕ} 0 1 = cc in omega arith) (λ q. let z : ◌≡◌ {A = ℕ} 0 1 = cc in omega arith)
          (by-test (eqb h.major 5) h.argument (length s - length u) (Err k) f'))

  plain_map : (n p : ℕ) → r ≡ Ok (Some (map_head n p)) → IsMap false s n p
  plain_map n p g = go (payload s) refl (sym g ∙ e)
    where
      go : (o : Outcome Item) → payload s ≡ o → Ok (Some (map_head n p)) ≡ open_answer (length s) o (heading s) → IsMap false s n p
      go (refused j) w f = absurd (let z : ◌≡◌ {A = ℕ} 0 1 = cc in omega arith)
      go (got i t) w f =
          let (h, u, a, x, b) = headed s i t w in
          let f' : Ok (Some (map_head n p)) ≡ Ok (map_answer (length s) h u) = rw a at f in
          ⊎_elim
          (λ q.
          let (n≡, p≡) = same_map q.1 in
          let (ps, v, c, d) = the-map h.info h.argument u i x h.major (eqb-true h.major 5 q.0) b in
          let (k, y, z, l) : Tail s 1 (got h u) = rw a at (heading-tail s) in
          let (at, in-side) = place s u 0 k (omega arith) z l in
          record {
            pairs-are = ps;
            left = v;
            inside = rw p≡ in-side;
            read = whole-payload s i t w ∙ ap (λ (j : Item). got j []) c;
            each = rw (n≡, p≡, ← at) d;
          })
          (λ q. absurd (let z : ◌≡◌ {A = ℕ} 0 1 = cc in omega arith))
          (by-test (eqb h.major 5) h.argument (length s - length u) (Ok (Some (map_head n p))) f')

  plain_other : r ≡ Ok None → IsOther false s
  plain_other g = go (payload s) refl (sym g ∙ e)
    where
      go : (o : Outcome Item) → payload s ≡ o → Ok None ≡ open_answer (length s) o (heading s) → IsOther false s
      go (refused j) w f = absurd (let z : ◌≡◌ {A = ℕ} 0 1 = cc in omega arith)
      go (got i t) w f =
          let (h, u, a, x, b) = headed s i t w in
          let f' : Ok None ≡ Ok (map_answer (length s) h u) = rw a at f in
          ⊎_elim
          (λ q. absurd (let z : ◌≡◌ {A = ℕ} 0 1 = cc in omega arith))
          (λ q. record {
            item = i;
            read = whole-payload s i t w;
            other = λ f y. no-map h.info h.argument u i x f y h.major (eqb-false h.major 5 q.0) b;
          })
          (by-test (eqb h.major 5) h.argument (length s - length u) (Ok None) f')

-- the pairs of a map stand one behind the other
first-stands : (n : ℕ) (l : List ℕ) (k : Item) (t : List ℕ) (v : Item) (w : List ℕ) (ps : Pairs) → decode 7 l ≡ got k t
    → decode 7 t ≡ got v w
    → PairsAt n w ps → PairsAt (suc n) l (pair k v ps)
first-stands n l k t v w ps a x q = (n, refl, tree-label 6 l k t a, rw a (tree-view 5 t v w x), rw (a, x) q)

pairs-stand : (n : ℕ) (l : List ℕ) (ps : Pairs) (u : List ℕ) → pairs (decode 7) n l ≡ got ps u → PairsAt n l ps
unfolding pairs
pairs-stand zero l ps u e = rw (← same-value e) refl
pairs-stand (suc n) l ps u e =
    let (k, t, a, b) = then-got (decode 7 l) _ ps u e in
    let (v, w, x, y) = then-got (decode 7 t) _ ps u b in
    let (qs, z, i, j) = then-got (pairs (decode 7) n w) _ ps u y in
    subst (PairsAt (suc n) l) (same-value j) (first-stands n l k t v w qs a x (pairs-stand n w qs z i))

-- ---- read strictly, or not: a payload that is not LOOSE is as in the ordinary reading
module _ (b : Bool) (s : List ℕ) (r : Opened) (e : r ≡ open_answer (length s) (payload_by (head_by b) s) (heading s)) where
  as_plain : payload_by (head_by b) s ≡ payload s → r ≡ open_answer (length s) (payload s) (heading s)
  as_plain f = rw f at e

  as-loose : payload_by (head_by b) s ≡ refused Loose → r ≡ Err Loose
  as-loose f = rw f at e

  opened-refused : (k : Refusal) → r ≡ Err k → payload_by (head_by b) s ≡ refused k
  opened-refused k g =
      ⊎_elim
      (λ f. let h : ◌≡◌ {A = Opened} (Err k) (Err Loose) = sym g ∙ as-loose f in f ∙ ap refused (sym (same-refusal h)))
      (λ f. f ∙ plain-refused s r (as_plain f) k g)
      (payload_same b s)

  opened_map : (n p : ℕ) → r ≡ Ok (Some (map_head n p)) → IsMap b s n p
  opened_map n p g =
      ⊎_elim
      (λ f. let h : ◌≡◌ {A = Opened} (Ok (Some (map_head n p))) (Err Loose) = sym g ∙ as-loose f in absurd (let z : ◌≡◌ {A = ℕ} 0 1 = cc in omega arith))
      (λ f.
      let w = plain_map s r (as_plain f) n p g in
      record { pairs-are = w.pairs-are; left = w.left; inside = w.inside; read = f ∙ w.read; each = w.each })
      (payload_same b s)

  opened-other : r ≡ Ok None → IsOther b s
  opened-other g =
      ⊎_elim
      (λ f. let h : ◌≡◌ {A = Opened} (Ok None) (Err Loose) = sym g ∙ as-loose f in absurd (let z : ◌≡◌ {A = ℕ} 0 1 = cc in omega arith))
      (λ f.
      let w = plain_other s r (as_plain f) g in
      record { item = w.item; read = f ∙ w.read; other = w.other })
      (payload_same b s)

  tells : (x : Opened) → r ≡ x → (opened_number x ≡ outcome_number (payload_by (head_by b) s)) × says_opened b s x
  tells (Err k) g = let f = opened-refused k g in (rw f, f)
  tells (Ok None) g =
      let w = opened-other g in
      (rw w.read, record { item = w.item; read = w.read; other = w.other (λ ps. true) false })
  tells (Ok (Some m)) g =
      let w = opened_map m.count m.start g in (
        rw w.read,
        record {
          pairs-are = w.pairs-are;
          read = w.read;
          stand = pairs-stand m.count (drop m.start s) w.pairs-are w.left w.each;
        },
      )

  pub opened-tells : OpenSpec b s r
  opened-tells = record { is = e; number = (tells r refl).0; says = (tells r refl).1 }
