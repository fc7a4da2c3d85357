-- What the layers above may rely on of keys and key sets, whatever their definitions are.
use Rattle.std.specs.Prelude.{ℕ, ◌≤◌, ◌≡◌, true, false, not, cond, ◌&&◌, ◌||◌, length, Ok}
use mathlib.Core.List.{List, [], ◌∷◌, ◌++◌, Memᴰ}
use Rattle.std.proofs.Math.Option.{none, some}
use Rattle.link_key.specs.usage.Usage.{listed, known_type, usage_of, entry_at, entry_says}
use Rattle.link_key.specs.Key.{valid_key, has_no_additional_info, same_key, covers, coverage_of, coverage_says}
use Rattle.link_key.specs.set.KeySet.{keys_of, no_keys, has, valid_keys, valid_set, none_twice}
use Rattle.link_key.specs.set.KeySet.{all_valid, no_additional_infos, same_keys, shares, Apart}
use Rattle.link_key.specs.set.KeySet.{find_key}
use Rattle.link_key.specs.declared.Key.{Key}
use Rattle.link_key.specs.declared.additional_info.AdditionalInfo.TheVariants.{Absent}
use Rattle.link_key.specs.declared.set.key_set.KeySet.{KeySet}

pub record KeyLaws : Type 0 where
  -- the usage list and what a key covers; 13 is RANGE
  pub entry-says : (usage : ℕ) → entry_says (entry_at usage) ≡ cond (listed usage) (0, some (usage_of usage)) (13, none)
  pub coverage-says :
      (k : Key) (type : ℕ)
      → coverage_says (coverage_of k type) ≡ cond (known_type type && listed k.usage) (0, some (covers k type)) (13, none)
  pub coverage-covered : (k : Key) (type : ℕ) → type ≤ 1 → k.usage ≤ 14 → coverage_of k type ≡ Ok (covers k type)
  pub covers-known-type : (k : Key) (type : ℕ) → covers k type ≡ true → type ≤ 1
  pub covers-listed : (k : Key) (type : ℕ) → covers k type ≡ true → k.usage ≤ 14
  -- equal keys and sets
  pub same-key-self : (k : Key) → same_key k k ≡ true
  pub same-key-equal : (k l : Key) → same_key k l ≡ true → k ≡ l
  pub same-keys-self : (ks : List Key) → same_keys ks ks ≡ true
  pub same-keys-equal : (xs ys : List Key) → same_keys xs ys ≡ true → xs ≡ ys
  -- identifiers
  pub has-none :
      (identifier : ℕ) (ks : List Key) → has identifier ks ≡ false → (k : Key) → Memᴰ k ks → k.identifier ≡ identifier → ⊥
  pub none_has :
      (identifier : ℕ) (ks : List Key) → ((k : Key) → Memᴰ k ks → k.identifier ≡ identifier → ⊥) → has identifier ks ≡ false
  pub shares-apart : (xs ys : List Key) → shares xs ys ≡ false → Apart xs ys
  pub apart-shares : (xs ys : List Key) → Apart xs ys → shares xs ys ≡ false
  pub shares-turned : (xs ys : List Key) → shares xs ys ≡ shares ys xs
  -- a list of keys, and more keys after it
  pub has-append : (identifier : ℕ) (xs ys : List Key) → has identifier (xs ++ ys) ≡ (has identifier xs || has identifier ys)
  pub limits-append : (xs ys : List Key) → all_valid (xs ++ ys) ≡ (all_valid xs && all_valid ys)
  pub none-twice-append : (ks : List Key) (k : Key) → none_twice (ks ++ (k ∷ [])) ≡ (none_twice ks && not (has k.identifier ks))
  -- searches
  pub find-found :
      (identifier : ℕ) (ks : List Key) (k : Key) → find_key identifier ks ≡ some k → Memᴰ k ks × (k.identifier ≡ identifier)
  pub find-own : (ks : List Key) (k : Key) → Memᴰ k ks → none_twice ks ≡ true → find_key k.identifier ks ≡ some k
  pub one-of-a-name :
      (ks : List Key) (k l : Key) → none_twice ks ≡ true → Memᴰ k ks → Memᴰ l ks → k.identifier ≡ l.identifier → k ≡ l
  pub find_none : (identifier : ℕ) (ks : List Key) → find_key identifier ks ≡ none → has identifier ks ≡ false
  pub none-find : (identifier : ℕ) (ks : List Key) → has identifier ks ≡ false → find_key identifier ks ≡ none
  -- additional information
  pub plain-info : (k : Key) → has_no_additional_info k ≡ true → k.info ≡ Absent
  pub plain-each : (ks : List Key) → no_additional_infos ks ≡ true → (k : Key) → Memᴰ k ks → k.info ≡ Absent
  -- limits
  pub valid-none-twice : (ks : List Key) → valid_keys ks ≡ true → none_twice ks ≡ true
  pub valid-each : (ks : List Key) → valid_keys ks ≡ true → (k : Key) → Memᴰ k ks → valid_key k ≡ true
  pub valid-some : (ks : List Key) → valid_keys ks ≡ true → 1 ≤ length ks
  pub valid-few : (ks : List Key) → valid_keys ks ≡ true → length ks ≤ 8
  pub valid-set : (set : KeySet) → valid_set set ≡ true → (set.count ≤ 8) × (valid_keys (keys_of set) ≡ true)
  pub set-valid : (set : KeySet) → set.count ≤ 8 → valid_keys (keys_of set) ≡ true → valid_set set ≡ true
  pub valid-identifier : (k : Key) → valid_key k ≡ true → 1 ≤ k.identifier
  pub limits-fit : (k : Key) → valid_key k ≡ true → (k.identifier ≤ 255) × (k.usage ≤ 14) × (length k.value ≡ 16)
  pub keys-of-none : keys_of no_keys ≡ []
  pub keys-of-count-0 : (set : KeySet) → set.count ≡ 0 → keys_of set ≡ []
