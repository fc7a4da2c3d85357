-- Document 01's "Order" for the readers, as one list of numbers: LONG 15; the item scan (CUT 1, FORM 2, DEEP 3, strictly LOOSE 19, left to
-- right, then EXTRA 4); no map, TYPE 5; the map's pairs in payload order, each with label kind (TYPE 5), repetition (TWICE 6), value kind
-- (TYPE 5), content (KEYS 7, ROLE 8); then OWED 9.
use Rattle.std.specs.Prelude.{ℕ, ◌≡◌, Bool, true, false, cond, not, ◌&&◌, List, [], ◌∷◌, ◌++◌, eqb, ltb, length}
use Rattle.std.proofs.Math.Option.{Option, none, some}
use Rattle.refusal.specs.Order.{refused_if, in_order}
use Rattle.refusal.specs.Refusal.{number_of}
use Rattle.refusal.specs.Verdict.{verdict_number}
use Rattle.cbor.specs.Decode.{Outcome, refused, got, decode_by}
use Rattle.cbor.specs.Item.{Item, Pairs, empty, pair}
use Rattle.cbor.specs.Strict.{head_by}
use Rattle.cbor.specs.View.{View, label_of, view_of, if_map}
use Rattle.cbor.specs.declared.value.Label.{Label}
use Rattle.cbor.specs.declared.value.Label.TheVariants as label
use Rattle.link_key.specs.set.Lists.{any_of}
use Rattle.cojp.specs.Address.{address_judged}
use Rattle.cojp.specs.Configuration.{read_configuration_by}
use Rattle.cojp.specs.KeySet.{keys_judged_as}
use Rattle.cojp.specs.Octets.{octets_judged}
use Rattle.cojp.specs.Parameter.{parameter_of}
use Rattle.cojp.specs.Reading.{Judgement, broken, unfit, good}
use Rattle.cojp.specs.Request.{role_judged, read_request_by}
use Rattle.cojp.specs.declared.parameter.Parameter.{Parameter}
use Rattle.cojp.specs.declared.parameter.Parameter.TheVariants as name
use Rattle.protocol_version.specs.Version.{by_version}
use Rattle.protocol_version.specs.declared.Version.{Version}

-- ---- the scan of the outermost item
abbrev pub scanned : Bool → List ℕ → Outcome Item
scanned strict p = decode_by (head_by strict) 8 p

abbrev pub scan_number : Outcome Item → ℕ
scan_number (refused k) = number_of k
scan_number (got i t) = 0

-- bytes follow it
abbrev pub is_followed : Outcome Item → Bool
is_followed (refused k) = false
is_followed (got i []) = false
is_followed (got i (b ∷ t)) = true

-- it is no map
abbrev pub is_no_map : Outcome Item → Bool
is_no_map (refused k) = false
is_no_map (got i t) = if_map (λ ps. false) true i

-- its pairs
abbrev pub pairs_of : Outcome Item → Pairs
pairs_of (refused k) = empty
pairs_of (got i t) = if_map (λ ps. ps) empty i

-- ---- the pairs
-- of an object: the labels that it knows; of a known label's value, the number of its kind and then of its content, 0 where it is good
pub record Tests : Type 0 where
  pub known : ℕ → Bool
  pub kind : ℕ → View → ℕ
  pub content : ℕ → View → ℕ

abbrev pub is_among : ℕ → List ℕ → Bool
is_among n ms = any_of (λ m. eqb n m) ms

module _ (T : Tests) where
  -- a known label, repeated or not, and its value
  abbrev pub known_numbers : Bool → ℕ → View → List ℕ
  known_numbers repeated n x = refused_if repeated 6 ∷ T.kind n x ∷ T.content n x ∷ []

  -- one pair, the known labels of the pairs before it being given
  abbrev pub pair_numbers : List ℕ → Label → View → List ℕ
  pair_numbers seen label.NoInteger x = 5 ∷ []
  pair_numbers seen label.Negative x = []
  pair_numbers seen (label.Number n) x = cond (T.known n) (known_numbers (is_among n seen) n x) []

  abbrev pub known_after : List ℕ → Label → List ℕ
  known_after seen label.NoInteger = seen
  known_after seen label.Negative = seen
  known_after seen (label.Number n) = cond (T.known n) (n ∷ seen) seen

  -- all of them, in payload order
  abbrev pub pairs_numbers : List ℕ → Pairs → List ℕ
  pairs_numbers seen empty = []
  pairs_numbers seen (pair k v ps) = pair_numbers seen (label_of k) (view_of v) ++ pairs_numbers (known_after seen (label_of k)) ps

  -- a payload, all but OWED
  abbrev pub payload_numbers : Bool → List ℕ → List ℕ
  payload_numbers strict p =
      refused_if (ltb 256 (length p)) 15
      ∷ scan_number (scanned strict p)
      ∷ refused_if (is_followed (scanned strict p)) 4
      ∷ refused_if (is_no_map (scanned strict p)) 5
      ∷ pairs_numbers [] (pairs_of (scanned strict p))

-- ---- values: another kind or a broken pattern is TYPE, content outside the limits has its own number or none
abbrev pub kind_number : {A : Type 0} → Judgement A → ℕ
kind_number broken = 5
kind_number unfit = 0
kind_number (good a) = 0

abbrev pub content_number : {A : Type 0} → ℕ → Judgement A → ℕ
content_number number broken = 0
content_number number unfit = number
content_number number (good a) = 0

-- join requests: in the published form no value refuses
abbrev pub request_tests : Version → Tests
request_tests v = record {
  known = λ n. by_version v (is_among n (1 ∷ 5 ∷ [])) (is_among n (1 ∷ 5 ∷ 8 ∷ []));
  kind = λ n x. by_version v (cond (eqb n 1) (kind_number (role_judged x)) (kind_number (octets_judged 0 x))) 0;
  content = λ n x. by_version v (cond (eqb n 1) (content_number 8 (role_judged x)) 0) 0;
}

-- configurations: discarded parameters do not refuse, nor does any value of the published form
abbrev pub kind_at : Parameter → View → ℕ
kind_at name.Keys x = kind_number (keys_judged_as false x)
kind_at name.Address x = kind_number (address_judged x)
kind_at name.Jrc x = kind_number (octets_judged 16 x)
kind_at name.Network x = kind_number (octets_judged 0 x)
kind_at name.Prefix x = kind_number (octets_judged 0 x)
kind_at name.Blacklist x = 0
kind_at name.Rate x = 0
kind_at name.Unknown x = 0

abbrev pub content_at : Parameter → View → ℕ
content_at name.Keys x = content_number 7 (keys_judged_as false x)
content_at name.Address x = 0
content_at name.Jrc x = 0
content_at name.Network x = 0
content_at name.Prefix x = 0
content_at name.Blacklist x = 0
content_at name.Rate x = 0
content_at name.Unknown x = 0

abbrev pub configuration_tests : Version → Tests
configuration_tests v = record {
  known = λ n. by_version v (is_among n (2 ∷ 3 ∷ 4 ∷ 5 ∷ 6 ∷ [])) (is_among n (2 ∷ 3 ∷ 4 ∷ 6 ∷ 7 ∷ []));
  kind = λ n x. by_version v (kind_at (parameter_of v n) x) 0;
  content = λ n x. by_version v (content_at (parameter_of v n) x) 0;
}

-- ---- OWED: what the pairs say of role and network identifier
abbrev pub is_label : ℕ → Label → Bool
is_label n label.NoInteger = false
is_label n label.Negative = false
is_label n (label.Number m) = eqb m n

-- the first value with a label
abbrev pub value_of : ℕ → Pairs → Option View
value_of n empty = none
value_of n (pair k v ps) = cond (is_label n (label_of k)) (some (view_of v)) (value_of n ps)

-- the role is 0 where none is good
abbrev pub good_role : Judgement ℕ → ℕ
good_role broken = 0
good_role unfit = 0
good_role (good n) = n

abbrev pub role_by : Option View → ℕ
role_by none = 0
role_by (some x) = good_role (role_judged x)

abbrev pub is_good : {A : Type 0} → Judgement A → Bool
is_good broken = false
is_good unfit = false
is_good (good a) = true

abbrev pub is_identifier : Option View → Bool
is_identifier none = false
is_identifier (some x) = is_good (octets_judged 0 x)

-- due from role 0, in the published form from every role
abbrev pub is_owed : Version → Pairs → Bool
is_owed v ps = (not (is_identifier (value_of 5 ps)) && by_version v (eqb (role_by (value_of 1 ps)) 0) true)

-- ---- the readers' numbers
abbrev pub request_number : Version → Bool → List ℕ → ℕ
request_number v strict p = verdict_number (read_request_by v (head_by strict) p).verdict

abbrev pub configuration_number : Version → Bool → List ℕ → ℕ
configuration_number v strict p = verdict_number (read_configuration_by v (head_by strict) p).verdict

pub record ReadersInOrder : Type 0 where
  pub request :
      (v : Version) (strict : Bool) (p : List ℕ) →
      request_number v strict p
      ≡ in_order (payload_numbers (request_tests v) strict p ++ (refused_if (is_owed v (pairs_of (scanned strict p))) 9 ∷ []))
  pub configuration :
      (v : Version) (strict : Bool) (p : List ℕ) →
      configuration_number v strict p ≡ in_order (payload_numbers (configuration_tests v) strict p)
