-- Key sets, as the list of their keys in order; the empty list is no set.
use Rattle.std.specs.Prelude.{ℕ, ◌≡◌, Bool, true, not, ◌&&◌, ◌||◌, leb, eqb, length, take, replicate}
use mathlib.Core.List.{List, [], ◌∷◌, Memᴰ}
use Rattle.std.proofs.Math.Option.{Option}
use Rattle.link_key.specs.Same.{same_by}
use Rattle.link_key.specs.set.Lists.{any_of, all_of, first_of}
use Rattle.link_key.specs.Key.{no_key, valid_key, has_no_additional_info, same_key, covers}
use Rattle.link_key.specs.declared.Key.{Key}
use Rattle.link_key.specs.declared.set.key_set.KeySet.{KeySet}

-- the keys of a set
abbrev pub keys_of : KeySet → List Key
keys_of set = take set.count set.keys

-- no set
abbrev pub no_keys : KeySet
no_keys = record { count = 0; keys = replicate 8 no_key }

abbrev pub identifier_of : Key → ℕ
identifier_of k = k.identifier

-- a key has the identifier
abbrev pub named : ℕ → Key → Bool
named identifier k = eqb k.identifier identifier

-- one of the keys has the identifier
abbrev pub has : ℕ → List Key → Bool
has identifier ks = any_of (named identifier) ks

-- no identifier comes twice
abbrev pub none_twice : List Key → Bool
none_twice [] = true
none_twice (k ∷ ks) = (not (has k.identifier ks) && none_twice ks)

abbrev pub all_valid : List Key → Bool
all_valid ks = all_of valid_key ks

-- every key is in its limits, and no identifier comes twice
abbrev pub each_once : List Key → Bool
each_once ks = (all_valid ks && none_twice ks)

-- the limits of KEYS: 1 to 8 keys, each in its limits, no identifier twice
unfoldable pub valid_keys : List Key → Bool
valid_keys ks = (leb 1 (length ks) && leb (length ks) 8 && all_valid ks && none_twice ks)

-- the same of a set that is handed in: a count over 8, which its eight places cannot hold, is outside the limits too
unfoldable pub valid_set : KeySet → Bool
valid_set set = (leb set.count 8 && valid_keys (keys_of set))

-- no key has additional information, as draft 004 wants it; the published form does not ask for it
abbrev pub no_additional_infos : List Key → Bool
no_additional_infos ks = all_of has_no_additional_info ks

-- whether the keys are those of a form in which a key may have additional information, or may not
abbrev pub additional_info_allowed : Bool → List Key → Bool
additional_info_allowed allowed ks = (allowed || no_additional_infos ks)

-- the same keys in the same order
abbrev pub same_keys : List Key → List Key → Bool
same_keys xs ys = same_by same_key xs ys

-- some identifier is in both
abbrev pub shares : List Key → List Key → Bool
shares xs ys = any_of (λ (k : Key). has k.identifier ys) xs

-- no identifier is in both
abbrev pub Apart : List Key → List Key → Type 0
Apart xs ys = (k l : Key) → Memᴰ k xs → Memᴰ l ys → k.identifier ≡ l.identifier → ⊥

-- a set covers a frame type if one of its keys does
pub record Covers (ks : List Key) (type : ℕ) : Type 0 where
  pub key : Key
  pub member : Memᴰ key ks
  pub covering : covers key type ≡ true

-- the first key with the identifier
abbrev pub find_key : ℕ → List Key → Option Key
find_key identifier ks = first_of (named identifier) ks
