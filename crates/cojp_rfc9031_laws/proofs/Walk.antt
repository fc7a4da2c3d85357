-- An object that tells known labels from unknown ones, and those that came from those that did not, and never refuses a value, is refused
-- by labels alone: by induction on the pairs. What holds after each label that is taken holds of what is read.
use Rattle.std.specs.Prelude.{Ok, Err}
use Prim.Native.Nat.{ℕ}
use mathlib.Core.Path.{◌≡◌, refl, sym, subst}
use mathlib.Core.Bool.{Bool, true, false, cond}
use mathlib.Core.List.{List, [], ◌∷◌, ◌++◌, append-nil}
use lib.Dec.{ltb}
use lib.ListN.{length}
use lib.Seq.{append_snoc}
use Rattle.refusal.specs.declared.Refusal.TheVariants as refusal
use Rattle.refusal.specs.Verdict.{Verdict}
use Rattle.cbor.specs.Decode.{Outcome, payload_by}
use Rattle.cbor.specs.Decode as decode
use Rattle.cbor.specs.Item.{Item, Pairs, unsigned, negative, bytes, text, array, map_item, tag, simple, float, empty, pair}
use Rattle.cbor.specs.Strict.{head_by}
use Rattle.cbor.specs.View.{View, label_of, view_of}
use Rattle.cbor.specs.declared.value.Label.{Label}
use Rattle.cbor.specs.declared.value.Label.TheVariants as label
use Rattle.cojp.specs.Reading.{Reading, refused, read, bind}
use Rattle.cojp.specs.Walk.{Form, known_read, pair_read, pairs_read, scanned_read, payload_read_by}
use Rattle.cojp.specs.declared.walk.LabelStatus.{LabelStatus}
use Rattle.cojp.specs.declared.walk.LabelStatus.TheVariants.{Unknown}
use Rattle.cojp_rfc9031_laws.specs.Labels.{is_in, Known, known_of, labels_of, known_first, known_in, label_verdict}
use Rattle.cojp_rfc9031_laws.specs.Labels.{labels_verdict, scan_verdict, payload_verdict, map_pairs, pairs_in}
use Rattle.cojp_rfc9031_laws.proofs.Labels.{labels-snoc, stood, stands_by}

-- P holds of what was read, and it was not refused
abbrev pub Took : {S : Type 0} → (S → Type 0) → Reading S → Type 0
Took P (refused k) = ⊥
Took P (read s) = P s

-- a verdict, and what holds of what was read where it accepts
abbrev pub Agrees : {S : Type 0} → Verdict → (S → Type 0) → Reading S → Type 0
Agrees w P (refused k) = w ≡ Err k
Agrees w P (read s) = (w ≡ Ok tt) × P s

module _ {S : Type 0} (F : Form S) (known : List ℕ) (R : List Known → S → Type 0)
    (stands : (ks : List Known) (s : S) → R ks s → (n : ℕ) → F.standing s n ≡ stands_by known (labels_of ks) n)
    (passes : (ks : List Known) (s : S) → R ks s → R ks (F.passing s))
    (takes : (ks : List Known) (s : S) → R ks s → (n : ℕ) (v : View) → is_in n known ≡ true → is_in n (labels_of ks) ≡ false →
    Took (R (ks ++ (known_of n v ∷ []))) (F.taking s n v)) where
  -- the rest of the pairs, from any place on
  abbrev Rest : Pairs → Type 0
  Rest ps =
      (ks : List Known) (s : S) → R ks s →
      Agrees (labels_verdict known (labels_of ks) ps) (R (ks ++ known_in known ps)) (pairs_read F s ps)

  taken-agrees : (ps : Pairs) → Rest ps → (ks : List Known) (k : Known) (r : Reading S) → Took (R (ks ++ (k ∷ []))) r →
      Agrees (labels_verdict known (labels_of ks ++ (k.label ∷ [])) ps) (R (ks ++ (k ∷ known_in known ps)))
      (bind r (λ t. pairs_read F t ps))
  taken-agrees ps rest ks k (refused x) g = absurd g
  taken-agrees ps rest ks k (read t) g =
      subst (λ (l : List ℕ). Agrees (labels_verdict known l ps) (R (ks ++ (k ∷ known_in known ps))) (pairs_read F t ps)) (labels-snoc ks k)
      (subst (λ (l : List Known). Agrees (labels_verdict known (labels_of (ks ++ (k ∷ []))) ps) (R l) (pairs_read F t ps))
      (append_snoc ks k (known_in known ps)) (rest (ks ++ (k ∷ [])) t g))

  pair-agrees : (l : Label) (v : View) (ps : Pairs) → Rest ps → (ks : List Known) (s : S) → R ks s →
      Agrees (label_verdict known (labels_of ks) l (λ x. labels_verdict known x ps)) (R (ks ++ known_first known l v (known_in known ps)))
      (bind (pair_read F s l v) (λ t. pairs_read F t ps))
  pair-agrees label.NoInteger v ps rest ks s h = refl
  pair-agrees label.Negative v ps rest ks s h = rest ks (F.passing s) (passes ks s h)
  pair-agrees (label.Number n) v ps rest ks s h =
      subst
      (λ (x : LabelStatus).
      Agrees (label_verdict known (labels_of ks) (label.Number n) (λ l. labels_verdict known l ps))
      (R (ks ++ known_first known (label.Number n) v (known_in known ps))) (bind (known_read F x s n v) (λ t. pairs_read F t ps)))
      (sym (stands ks s h n)) (by (is_in n known) (is_in n (labels_of ks)) refl refl)
    where
      by : (a b : Bool) → is_in n known ≡ a → is_in n (labels_of ks) ≡ b →
          Agrees
          (cond a (cond b (Err refusal.Twice) (labels_verdict known (labels_of ks ++ (n ∷ [])) ps))
          (labels_verdict known (labels_of ks) ps))
          (R (ks ++ cond a (known_of n v ∷ known_in known ps) (known_in known ps)))
          (bind (known_read F (cond a (stood b) Unknown) s n v) (λ t. pairs_read F t ps))
      by true true e f = refl
      by true false e f = taken-agrees ps rest ks (known_of n v) (F.taking s n v) (takes ks s h n v e f)
      by false b e f = rest ks (F.passing s) (passes ks s h)

  pairs-agree : (ps : Pairs) → Rest ps
  pairs-agree empty ks s h = (refl, subst (λ (l : List Known). R l s) (sym (append-nil ks)) h)
  pairs-agree (pair k v ps) ks s h = pair-agrees (label_of k) (view_of v) ps (pairs-agree ps) ks s h

  module _ (s : S) (h : R [] s) where
    scan-agrees : (o : Outcome Item) → Agrees (scan_verdict (labels_verdict known []) o) (R (known_in known (map_pairs o)))
        (scanned_read F s o)
    scan-agrees (decode.refused k) = refl
    scan-agrees (decode.got (map_item ps) t) = pairs-agree ps [] s h
    scan-agrees (decode.got (unsigned n) t) = refl
    scan-agrees (decode.got (negative n) t) = refl
    scan-agrees (decode.got (bytes b) t) = refl
    scan-agrees (decode.got (text b) t) = refl
    scan-agrees (decode.got (array is) t) = refl
    scan-agrees (decode.got (tag n i) t) = refl
    scan-agrees (decode.got (simple n) t) = refl
    scan-agrees (decode.got (float w n) t) = refl

    pub payload-agrees : (strict : Bool) (p : List ℕ) →
        Agrees (payload_verdict (labels_verdict known []) strict p) (R (known_in known (pairs_in strict p)))
        (payload_read_by F (head_by strict) s p)
    unfolding payload_read_by
    payload-agrees strict p = by (ltb 256 (length p))
      where
        by : (b : Bool) →
            Agrees (cond b (Err refusal.Long) (scan_verdict (labels_verdict known []) (payload_by (head_by strict) p)))
            (R (known_in known (pairs_in strict p))) (cond b (refused refusal.Long) (scanned_read F s (payload_by (head_by strict) p)))
        by true = refl
        by false = scan-agrees (payload_by (head_by strict) p)
