-- What the answers of readers say of the bytes, for the layer above: it reads by them and never looks into Decode.
use Rattle.refusal.specs.declared.Refusal.{Refusal}
use Rattle.std.specs.Prelude.{ℕ, suc, ◌≤◌, Bool, true, false, ◌≡◌, List, [], length, drop, Result, Ok, Err, Some, None}
use Rattle.cbor.specs.Answer.{Opened, head_answer, skip_answer, open_answer, outcome_number, head_number, skip_number, opened_number}
use Rattle.cbor.specs.Decode.{Outcome, refused, got, heading, payload_by}
use Rattle.cbor.specs.Item.{Item, Pairs, map_item, empty, pair}
use Rattle.cbor.specs.Strict.{head_by}
use Rattle.cbor.specs.View.{label_of, view_of, if_map, label_at, view_at, rest_of, after_item}
use Rattle.cbor.specs.declared.head.Head.{Head}
use Rattle.cbor.specs.declared.value.Label.TheVariants as lv

-- ---- a head, as a map's label: an integer is nothing but its head
pub record LabelSpec (s : List ℕ) (at : ℕ) (h : Head) : Type 0 where
  pub number : h.major ≡ 0 → label_at (drop at s) ≡ lv.Number h.argument
  pub negative : h.major ≡ 1 → label_at (drop at s) ≡ lv.Negative
  pub none : 2 ≤ h.major → label_at (drop at s) ≡ lv.NoInteger
  pub ends : h.major ≤ 1 → (d : ℕ) → after_item (suc d) (drop at s) ≡ drop h.next s

abbrev pub says_label : List ℕ → ℕ → Result Head Refusal → Type 0
says_label s at (Err k) = label_at (drop at s) ≡ lv.NoInteger
says_label s at (Ok h) = LabelSpec s at h

pub record HeadSpec (s : List ℕ) (at : ℕ) (r : Result Head Refusal) : Type 0 where
  pub is : r ≡ head_answer (length s) (heading (drop at s))
  pub number : head_number r ≡ outcome_number (heading (drop at s))
  pub label : says_label s at r

-- ---- what was passed over, o being what is read there: where the bytes go on
abbrev pub says_end : {A : Type 0} → List ℕ → Outcome A → Result ℕ Refusal → Type 0
says_end s o (Err k) = rest_of o ≡ []
says_end s o (Ok p) = rest_of o ≡ drop p s

pub record SkipSpec {A : Type 0} (s : List ℕ) (o : Outcome A) (r : Result ℕ Refusal) : Type 0 where
  pub is : r ≡ skip_answer (length s) o
  pub number : skip_number r ≡ outcome_number o
  pub end : says_end s o r

-- ---- an opened payload
-- the n pairs of a payload's map stand one behind the other from l on: at each place a label, behind it the value
abbrev pub PairsAt : ℕ → List ℕ → Pairs → Type 0
PairsAt n l empty = n ≡ 0
PairsAt n l (pair k v ps) =
    (m : ℕ) × (n ≡ suc m) × (label_at l ≡ label_of k) × (view_at 6 (after_item 7 l) ≡ view_of v)
    × PairsAt m (after_item 7 (after_item 7 l)) ps

pub record MapSpec (b : Bool) (s : List ℕ) (n p : ℕ) : Type 0 where
  pub pairs-are : Pairs
  pub read : payload_by (head_by b) s ≡ got (map_item pairs-are) []
  pub stand : PairsAt n (drop p s) pairs-are

pub record OtherSpec (b : Bool) (s : List ℕ) : Type 0 where
  pub item : Item
  pub read : payload_by (head_by b) s ≡ got item []
  pub other : if_map (λ ps. true) false item ≡ false

-- read strictly, or not
abbrev pub says_opened : Bool → List ℕ → Opened → Type 0
says_opened b s (Err k) = payload_by (head_by b) s ≡ refused k
says_opened b s (Ok None) = OtherSpec b s
says_opened b s (Ok (Some m)) = MapSpec b s m.count m.start

pub record OpenSpec (b : Bool) (s : List ℕ) (r : Opened) : Type 0 where
  pub is : r ≡ open_answer (length s) (payload_by (head_by b) s) (heading s)
  pub number : opened_number r ≡ outcome_number (payload_by (head_by b) s)
  pub says : says_opened b s r
