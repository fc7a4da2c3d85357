-- A walk over pairs is refused with the first number of its pairs' tests, by induction on the pairs: what relates an object to the known
-- labels before it and to the pairs after it is a parameter.
use Prim.Native.Nat.{ℕ, zero, suc}
use mathlib.Core.Path.{◌≡◌, refl, ap, sym, ◌∙◌, subst}
use mathlib.Core.Bool.{Bool, true, false, cond, not}
use mathlib.Core.List.{List, [], ◌∷◌, ◌++◌}
use lib.Dec.{ltb}
use lib.ListN.{length}
use Rattle.refusal.specs.Order.{refused_if, in_order}
use Rattle.refusal.specs.Refusal.{number_of}
use Rattle.refusal.specs.RefusalLemmas.{refused-first}
use Rattle.refusal.specs.declared.Refusal.TheVariants as refusal
use Rattle.cbor.specs.Decode.{Outcome, and_then, ended, payload_by, decode_by}
use Rattle.cbor.specs.Decode as decode
use Rattle.cbor.specs.Item.{Item, Pairs, unsigned, negative, bytes, text, array, map_item, tag, simple, float, empty, pair}
use Rattle.cbor.specs.Strict.{head_by}
use Rattle.cbor.specs.View.{label_of, view_of}
use Rattle.cbor.specs.declared.value.Label.{Label}
use Rattle.cbor.specs.declared.value.Label.TheVariants as label
use Rattle.cojp.specs.Reading.{Reading, refused, read, bind}
use Rattle.cojp.specs.Walk.{Form, known_read, pair_read, pairs_read, scanned_read, payload_read_by}
use Rattle.cojp.specs.declared.walk.LabelStatus.{LabelStatus}
use Rattle.cojp.specs.declared.walk.LabelStatus.TheVariants.{Unknown, First, Repeated}
use Rattle.cojp_laws.specs.ReadingOrder.{scanned, scan_number, is_followed, is_no_map, pairs_of, Tests, is_among}
use Rattle.cojp_laws.specs.ReadingOrder.{known_numbers, pair_numbers, known_after, pairs_numbers, payload_numbers}

pub in-order-append : (xs ys : List ℕ) → in_order (xs ++ ys) ≡ in_order (in_order xs ∷ ys)
in-order-append [] ys = refl
in-order-append (zero ∷ xs) ys = in-order-append xs ys
in-order-append (suc n ∷ xs) ys = refl

-- the number of a reading, and what holds of what was read where it is 0
abbrev pub Numbered : {S : Type 0} → ℕ → (S → Type 0) → Reading S → Type 0
Numbered n P (refused k) = n ≡ number_of k
Numbered n P (read s) = (n ≡ 0) × P s

-- the status of a known label: seen before or not
abbrev pub stood : Bool → LabelStatus
stood true = Repeated
stood false = First

abbrev pub standing : Bool → Bool → LabelStatus
standing known repeated = cond known (stood repeated) Unknown

-- a label that is passed over
abbrev pub is_passed : Tests → Label → Bool
is_passed T label.NoInteger = false
is_passed T label.Negative = true
is_passed T (label.Number n) = not (T.known n)

module _ {S : Type 0} (F : Form S) (T : Tests) (R : List ℕ → Pairs → S → Type 0)
    (stands : (seen : List ℕ) (ps : Pairs) (s : S) → R seen ps s → (n : ℕ) → F.standing s n ≡ standing (T.known n) (is_among n seen))
    (skips : (seen : List ℕ) (k v : Item) (ps : Pairs) (s : S) → R seen (pair k v ps) s → is_passed T (label_of k) ≡ true →
    R seen ps (F.passing s))
    (takes : (seen : List ℕ) (k v : Item) (ps : Pairs) (s : S) → R seen (pair k v ps) s → (n : ℕ) → label_of k ≡ label.Number n →
    T.known n ≡ true → is_among n seen ≡ false →
    Numbered (in_order (T.kind n (view_of v) ∷ T.content n (view_of v) ∷ [])) (R (n ∷ seen) ps) (F.taking s n (view_of v))) where
  -- after the last pair
  pub record Ended (s : S) : Type 0 where
    pub seen : List ℕ
    pub holds : R seen empty s

  onward : (xs ys : List ℕ) (P : S → Type 0) (r : Reading S) (f : S → Reading S) → Numbered (in_order xs) P r →
      ((t : S) → P t → Numbered (in_order ys) Ended (f t)) → Numbered (in_order (xs ++ ys)) Ended (bind r f)
  onward xs ys P (refused k) f e g = in-order-append xs ys ∙ ap (λ (n : ℕ). in_order (n ∷ ys)) e ∙ refused-first k ys
  onward xs ys P (read t) f e g =
      subst (λ (n : ℕ). Numbered n Ended (f t)) (sym (in-order-append xs ys ∙ ap (λ (n : ℕ). in_order (n ∷ ys)) e.0)) (g t e.1)

  abbrev Rest : Pairs → Type 0
  Rest ps = (seen : List ℕ) (s : S) → R seen ps s → Numbered (in_order (pairs_numbers T seen ps)) Ended (pairs_read F s ps)

  pair-numbered : (k v : Item) (ps : Pairs) → Rest ps → (seen : List ℕ) (s : S) → R seen (pair k v ps) s →
      (l : Label) → label_of k ≡ l →
      Numbered (in_order (pair_numbers T seen l (view_of v) ++ pairs_numbers T (known_after T seen l) ps)) Ended
      (bind (pair_read F s l (view_of v)) (λ t. pairs_read F t ps))
  pair-numbered k v ps rest seen s h label.NoInteger q = refl
  pair-numbered k v ps rest seen s h label.Negative q = rest seen (F.passing s) (skips seen k v ps s h (ap (is_passed T) q))
  pair-numbered k v ps rest seen s h (label.Number n) q =
      subst
      (λ (x : LabelStatus).
      Numbered (in_order (pair_numbers T seen (label.Number n) (view_of v) ++ pairs_numbers T (known_after T seen (label.Number n)) ps))
      Ended
      (bind (known_read F x s n (view_of v)) (λ t. pairs_read F t ps)))
      (sym (stands seen (pair k v ps) s h n)) (by (T.known n) (is_among n seen) refl refl)
    where
      by : (a b : Bool) → T.known n ≡ a → is_among n seen ≡ b →
          Numbered
          (in_order (cond a (known_numbers T b n (view_of v)) [] ++ pairs_numbers T (cond a (n ∷ seen) seen) ps))
          Ended (bind (known_read F (standing a b) s n (view_of v)) (λ t. pairs_read F t ps))
      by true true e f = refl
      by true false e f =
          onward (T.kind n (view_of v) ∷ T.content n (view_of v) ∷ []) (pairs_numbers T (n ∷ seen) ps) (R (n ∷ seen) ps)
          (F.taking s n (view_of v)) (λ t. pairs_read F t ps) (takes seen k v ps s h n q e f) (rest (n ∷ seen))
      by false b e f = rest seen (F.passing s) (skips seen k v ps s h (ap (is_passed T) q ∙ ap not e))

  pairs-numbered : (ps : Pairs) → Rest ps
  pairs-numbered empty seen s h = (refl, record { seen = seen; holds = h })
  pairs-numbered (pair k v ps) seen s h = pair-numbered k v ps (pairs-numbered ps) seen s h (label_of k) refl

  module _ (s : S) where
    scan-numbered : (o : Outcome Item) → R [] (pairs_of o) s →
        Numbered
        (in_order (scan_number o ∷ refused_if (is_followed o) 4 ∷ refused_if (is_no_map o) 5 ∷ pairs_numbers T [] (pairs_of o)))
        Ended (scanned_read F s (and_then o ended))
    scan-numbered (decode.refused k) h = refused-first k (0 ∷ 0 ∷ [])
    scan-numbered (decode.got i (b ∷ t)) h = refl
    scan-numbered (decode.got (map_item ps) []) h = pairs-numbered ps [] s h
    scan-numbered (decode.got (unsigned n) []) h = refl
    scan-numbered (decode.got (negative n) []) h = refl
    scan-numbered (decode.got (bytes b) []) h = refl
    scan-numbered (decode.got (text b) []) h = refl
    scan-numbered (decode.got (array is) []) h = refl
    scan-numbered (decode.got (tag n i) []) h = refl
    scan-numbered (decode.got (simple n) []) h = refl
    scan-numbered (decode.got (float w n) []) h = refl

    pub payload-numbered : (strict : Bool) (p : List ℕ) → R [] (pairs_of (scanned strict p)) s →
        Numbered (in_order (payload_numbers T strict p)) Ended (payload_read_by F (head_by strict) s p)
    unfolding payload_read_by payload_by
    payload-numbered strict p h = by (ltb 256 (length p))
      where
        by : (b : Bool) →
            Numbered
            (in_order
            (refused_if b 15
            ∷ scan_number (scanned strict p)
            ∷ refused_if (is_followed (scanned strict p)) 4
            ∷ refused_if (is_no_map (scanned strict p)) 5
            ∷ pairs_numbers T [] (pairs_of (scanned strict p))))
            Ended (cond b (refused refusal.Long) (scanned_read F s (and_then (decode_by (head_by strict) 8 p) ended)))
        by true = refl
        by false = scan-numbered (scanned strict p) h
