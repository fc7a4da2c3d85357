-- The labels of a map of the published form (docs/RFC9031.md): which are known, in which order they came, and what they refuse alone.
use Rattle.std.specs.Prelude.{ℕ, Bool, cond, List, [], ◌∷◌, ◌++◌, eqb, ltb, length, Ok, Err}
use Rattle.refusal.specs.declared.Refusal.TheVariants as refusal
use Rattle.refusal.specs.Verdict.{Verdict}
use Rattle.cbor.specs.Decode.{Outcome, refused, got, payload_by}
use Rattle.cbor.specs.Item.{Item, Pairs, empty, pair}
use Rattle.cbor.specs.Strict.{head_by}
use Rattle.cbor.specs.View.{View, label_of, view_of, if_map}
use Rattle.cbor.specs.declared.value.Label.{Label}
use Rattle.cbor.specs.declared.value.Label.TheVariants as label
use Rattle.link_key.specs.set.Lists.{any_of}

-- key set, short address, JRC address, blacklist and join rate
abbrev pub configuration_labels : List ℕ
configuration_labels = 2 ∷ 3 ∷ 4 ∷ 6 ∷ 7 ∷ []

-- role, network identifier and reports
abbrev pub request_labels : List ℕ
request_labels = 1 ∷ 5 ∷ 8 ∷ []

-- a label is among these
abbrev pub is_in : ℕ → List ℕ → Bool
is_in n ms = any_of (λ m. eqb n m) ms

-- ---- a known label, and the value that it came with
pub record Known : Type 0 where
  pub label : ℕ
  pub value : View

abbrev pub known_of : ℕ → View → Known
known_of n v = record { label = n; value = v }

abbrev pub labels_of : List Known → List ℕ
labels_of [] = []
labels_of (k ∷ ks) = k.label ∷ labels_of ks

module _ (known : List ℕ) where
  -- those of a map, in payload order
  abbrev pub known_first : Label → View → List Known → List Known
  known_first label.NoInteger v ks = ks
  known_first label.Negative v ks = ks
  known_first (label.Number n) v ks = cond (is_in n known) (known_of n v ∷ ks) ks

  abbrev pub known_in : Pairs → List Known
  known_in empty = []
  known_in (pair k v ps) = known_first (label_of k) (view_of v) (known_in ps)

  -- ---- the labels alone: one that is no integer is TYPE, a known one that came before is TWICE, and no value is looked at
  abbrev pub label_verdict : List ℕ → Label → (List ℕ → Verdict) → Verdict
  label_verdict seen label.NoInteger rest = Err refusal.«Type»
  label_verdict seen label.Negative rest = rest seen
  label_verdict seen (label.Number n) rest =
      cond (is_in n known) (cond (is_in n seen) (Err refusal.Twice) (rest (seen ++ (n ∷ [])))) (rest seen)

  -- all labels of a map, `seen` having come before it
  abbrev pub labels_verdict : List ℕ → Pairs → Verdict
  labels_verdict seen empty = Ok tt
  labels_verdict seen (pair k v ps) = label_verdict seen (label_of k) (λ s. labels_verdict s ps)

-- ---- a payload: LONG, what the scan refuses, TYPE where its outermost item is no map, and then what its pairs say
abbrev pub scan_verdict : (Pairs → Verdict) → Outcome Item → Verdict
scan_verdict say (refused k) = Err k
scan_verdict say (got i t) = if_map say (Err refusal.«Type») i

abbrev pub payload_verdict : (Pairs → Verdict) → Bool → List ℕ → Verdict
payload_verdict say strict p = cond (ltb 256 (length p)) (Err refusal.Long) (scan_verdict say (payload_by (head_by strict) p))

-- the pairs of its outermost map
abbrev pub map_pairs : Outcome Item → Pairs
map_pairs (refused k) = empty
map_pairs (got i t) = if_map (λ ps. ps) empty i

abbrev pub pairs_in : Bool → List ℕ → Pairs
pairs_in strict p = map_pairs (payload_by (head_by strict) p)
