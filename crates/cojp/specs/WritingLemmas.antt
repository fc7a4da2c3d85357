-- Lemmas: nothing here has to be believed.
-- Pairs and items one after the other: their bytes, and how many they are.
use Rattle.std.specs.Prelude.{suc, ◌+◌, ◌≡◌, refl, ◌++◌, length}
use Rattle.std.proofs.Common.{ap, sym, ◌∙◌, append_assoc, suc-add, zero-add, length-append}
use Rattle.cbor.specs.Encode.{encode, encodes, encode_pairs}
use Rattle.cbor.specs.Item.{Items, Pairs, no_items, more, empty, pair, count, count_pairs}
use Rattle.cojp.specs.Writing.{join, chain}

-- ---- pairs
pub join-bytes : (a b : Pairs) → encode_pairs (join a b) ≡ encode_pairs a ++ encode_pairs b
join-bytes empty b = refl
join-bytes (pair k v a) b = rw (join-bytes a b, append_assoc (encode k), append_assoc (encode v))

pub join-count : (a b : Pairs) → count_pairs (join a b) ≡ count_pairs a + count_pairs b
join-count empty b = sym (zero-add (count_pairs b))
join-count (pair k v a) b = ap suc (join-count a b) ∙ sym (suc-add (count_pairs a) (count_pairs b))

pub join-length : (a b : Pairs) → length (encode_pairs (join a b)) ≡ length (encode_pairs a) + length (encode_pairs b)
join-length a b = ap length (join-bytes a b) ∙ length-append (encode_pairs a) (encode_pairs b)

-- ---- items
pub chain-bytes : (a b : Items) → encodes (chain a b) ≡ encodes a ++ encodes b
chain-bytes no_items b = refl
chain-bytes (more i a) b = rw (chain-bytes a b, append_assoc (encode i))

pub chain-count : (a b : Items) → count (chain a b) ≡ count a + count b
chain-count no_items b = sym (zero-add (count b))
chain-count (more i a) b = ap suc (chain-count a b) ∙ sym (suc-add (count a) (count b))

pub chain_length : (a b : Items) → length (encodes (chain a b)) ≡ length (encodes a) + length (encodes b)
chain_length a b = ap length (chain-bytes a b) ∙ length-append (encodes a) (encodes b)

pub chain-assoc : (a b c : Items) → chain (chain a b) c ≡ chain a (chain b c)
chain-assoc no_items b c = refl
chain-assoc (more i a) b c = ap (more i) (chain-assoc a b c)

pub chain-none : (a : Items) → chain a no_items ≡ a
chain-none no_items = refl
chain-none (more i a) = ap (more i) (chain-none a)
