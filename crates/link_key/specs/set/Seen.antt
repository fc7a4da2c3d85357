-- Which identifiers have been seen in a key set: 256 flags, one for each byte value. Eight words of 32 bits hold them:
-- the flag of identifier i is bit i / 8 of word i % 8.
use Rattle.std.specs.Prelude.{ℕ, ◌/◌, ◌%◌, ◌^◌, ◌≡◌, Bool, true, false, not, cond, ◌&&◌, List, [], ◌∷◌, ◌++◌}
use Rattle.std.specs.Prelude.{eqb, length, get_or, set, replicate}
use Rattle.std.specs.Int.Bits.{bit_or}
use Rattle.link_key.specs.Key.{valid_key}
use Rattle.link_key.specs.declared.Key.{Key}
use Rattle.link_key.specs.set.KeySet.{has, each_once}

-- the flag of an identifier is set
abbrev pub flagged : List ℕ → ℕ → Bool
flagged seen identifier = eqb ((get_or seen (identifier % 8) 0 / 2 ^ (identifier / 8)) % 2) 1

-- the flags with that of an identifier set
abbrev pub flag : List ℕ → ℕ → List ℕ
flag seen identifier = set seen (identifier % 8) (bit_or (get_or seen (identifier % 8) 0) (2 ^ (identifier / 8)))

-- a key joins the keys so far: it is in its limits, and its flag is not set
unfoldable pub joins : List ℕ → Key → Bool
joins seen k = (valid_key k && not (flagged seen k.identifier))

-- the flags after a key: one outside its limits sets none
unfoldable pub noted : List ℕ → Key → List ℕ
noted seen k = cond (valid_key k) (flag seen k.identifier) seen

-- keys one after the other: whether each joins, with the flags of those before it
abbrev pub all_join : List ℕ → List Key → Bool
all_join seen [] = true
all_join seen (k ∷ ks) = (joins seen k && all_join (noted seen k) ks)

-- exactly the flags of these keys are set
pub record Exactly (seen : List ℕ) (ks : List Key) : Type 0 where
  pub words : length seen ≡ 8
  pub flags : (identifier : ℕ) → flagged seen identifier ≡ has identifier ks

-- one key more, the flags having been exactly those of the keys so far
pub record OneMore (ks : List Key) (k : Key) (joined : Bool) (after : List ℕ) : Type 0 where
  -- a key in its limits is one of the keys so far from now on
  pub exact : Exactly after (cond (valid_key k) (ks ++ (k ∷ [])) ks)
  -- it joins them if it is in its limits and no key so far has its identifier
  pub told : joined ≡ (valid_key k && not (has k.identifier ks))
  pub next : joined ≡ true → Exactly after (ks ++ (k ∷ []))
  -- then they are as a set's keys must be, if they were before; if not, no keys after it can make them so
  pub good : joined ≡ true → each_once ks ≡ true → each_once (ks ++ (k ∷ [])) ≡ true
  pub bad : joined ≡ false → (js : List Key) → each_once (ks ++ (k ∷ js)) ≡ false

abbrev pub WithOneMore : List ℕ → Key → Bool → List ℕ → Type 0
WithOneMore seen k joined after = (ks : List Key) → Exactly seen ks → OneMore ks k joined after

-- over a whole set, from clear flags: all keys join exactly where all are in their limits and no identifier comes twice
pub record SeenLaws : Type 0 where
  pub clear : Exactly (replicate 8 0) []
  pub told : (ks : List Key) → all_join (replicate 8 0) ks ≡ each_once ks
