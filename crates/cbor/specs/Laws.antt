-- What this layer promises about its definitions, for the layers above.
use Rattle.std.specs.Prelude.{ℕ, suc, ◌+◌, ◌^◌, ◌<◌, ◌≤◌, ◌≡◌, Bool, cond, eqb, length}
use mathlib.Core.List.{List, [], ◌++◌, Memᴰ}
use Rattle.cbor.specs.Item.{Item, Items, depth, Fit}
use Rattle.refusal.specs.Verdict.{verdict_number}
use Rattle.refusal.specs.declared.Refusal.TheVariants.{Loose}
use Rattle.cbor.specs.Answer.{head_answer, skip_answer, scan_answer, outcome_number, head_number, skip_number}
use Rattle.cbor.specs.Decode.{Outcome, refused, got, Heading, heading, decode, members, payload, payload_by}
use Rattle.cbor.specs.Encode.{shortest, encode, info_of}
use Rattle.cbor.specs.Strict.{short, head_by, strict_payload, loose_payload}
use Rattle.cbor.specs.View.{ScalarValid, scalar_of, scalar_at}

-- s is at least n bytes and then t
pub record Suffix (n : ℕ) (t s : List ℕ) : Type 0 where
  pub front : List ℕ
  pub least : n ≤ length front
  pub whole : s ≡ front ++ t

-- every element is a byte
abbrev pub Bytes : List ℕ → Type 0
Bytes s = (b : ℕ) → Memᴰ b s → b < 256

pub record ItemLaws : Type 0 where
  -- what was encoded, with any bytes behind it, is decoded to the item and those bytes
  pub round_trip :
      (i : Item) (d : ℕ) (r : List ℕ) → depth i ≤ d → Fit i → decode d (encode i ++ r) ≡ got i r
  -- and a payload is, read strictly or not: what was encoded is never LOOSE
  pub payload-round-trip : (b : Bool) (i : Item) → depth i ≤ 8 → Fit i → payload_by (head_by b) (encode i) ≡ got i []
  -- what a place's head says of an item is what the tree says
  pub item-plain : (d : ℕ) (s : List ℕ) (i : Item) (t : List ℕ) → decode (suc d) s ≡ got i t → scalar_at s ≡ scalar_of i
  -- and what it says of bytes fits a head
  pub plain_fits : (s : List ℕ) → Bytes s → ScalarValid (scalar_at s)
  -- what is left after an item is a proper suffix of the bytes, and n members take at least n bytes
  pub item-suffix : (d : ℕ) (s : List ℕ) (i : Item) (t : List ℕ) → decode d s ≡ got i t → Suffix 1 t s
  pub members-suffix :
      (d n : ℕ) (s : List ℕ) (is : Items) (t : List ℕ) → members (decode d) n s ≡ got is t → Suffix n t s
  -- the head that is written is read as its major type and argument, and no head that is read so is shorter
  pub head_read :
      (m n : ℕ) (r : List ℕ) → n < 2 ^ 64 →
      heading (shortest m n ++ r) ≡ got (record { major = m; info = info_of n; argument = n }) r
  pub head-shortest :
      (s : List ℕ) (h : Heading) (t : List ℕ) → Bytes s → heading s ≡ got h t →
      Suffix (length (shortest h.major h.argument)) t s
  -- a head, floats and simple values apart, is told to be short exactly if it has as many bytes as the one that is written
  pub head-flag :
      (s : List ℕ) (h : Heading) (t : List ℕ) → heading s ≡ got h t → ¬ (h.major ≡ 7) →
      short h ≡ eqb (length s) (length (shortest h.major h.argument) + length t)
  -- the strict reading is LOOSE exactly where the ordinary scan meets a longer head, and else the ordinary one, which is never LOOSE
  pub strict : (s : List ℕ) → strict_payload s ≡ cond (loose_payload s) (refused Loose) (payload s)
  pub never-loose : (s : List ℕ) → payload s ≡ refused Loose → ⊥
  -- the numbers of the answers: of a head (`read_head`, `read_head_by`), of items that are passed over (`skip_item`, `skip_members`), of a
  -- payload's scan (`scan`)
  pub head-number : (n : ℕ) (o : Outcome Heading) → head_number (head_answer n o) ≡ outcome_number o
  pub item-number : (n : ℕ) (o : Outcome Item) → skip_number (skip_answer n o) ≡ outcome_number o
  pub members-number : (n : ℕ) (o : Outcome Items) → skip_number (skip_answer n o) ≡ outcome_number o
  pub scan-number : (o : Outcome Item) → verdict_number (scan_answer o) ≡ outcome_number o
