-- The inverse is one, and a block stays one: the first is a computed test over the field, the second holds of any table of sixteen.
-- Assumes nothing.
use mathlib.Core.Path.{◌≡◌, ◌∙◌}
use mathlib.Core.List.{List}
use Prim.Native.Nat.{ℕ, ◌<◌, min}
use native.Mathlib.Nat.{min-eq_left}
use lib.ListN.{length}
use Rattle.lemmas.specs.lists.Xor.{◌⊕◌}
use Rattle.lemmas.specs.lists.Every.{same-below}
use Rattle.lemmas.specs.lists.TableLemmas.{length-table}
use Rattle.aes.specs.Field.{◌•◌, xtime, times, powers, inverse}
use Rattle.aes.specs.Cipher.{cipher, add_round_key}
use Rattle.aes.specs.Laws.{AesLaws}
use Rattle.aes.proofs.Bounds.{block-bytes}
use Rattle.aes.proofs.Entries.{table-right}
use Rattle.aes.proofs.Rounds.{by-table}

inverse-is : (b : ℕ) → b < 256 → 0 < b → b • inverse b ≡ 1
unfolding ◌⊕◌ ◌•◌ xtime times powers inverse
inverse-is b h p = same-below (λ b. b • inverse b) (λ b. min 1 b) 256 tt b h ∙ min-eq_left p

block-long : (keys : List (List ℕ)) (block : List ℕ) → length (cipher keys block) ≡ 16
unfolding cipher add_round_key
block-long keys block = length-table 16 _

pub aes-laws : AesLaws
aes-laws = record {
  inverse-is = inverse-is;
  table-right = table-right;
  by-table = by-table;
  block-long = block-long;
  block-bytes = block-bytes;
}
