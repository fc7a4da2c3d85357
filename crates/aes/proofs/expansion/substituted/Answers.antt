-- The list's entry at b is the substitution of b.
use mathlib.Core.Path.{◌∙◌, ap}
use mathlib.Core.List.{List}
use Prim.Native.Nat.{ℕ}
use lib.ListN.{get_or}
use Rattle.lemmas.specs.lists.TableLemmas.{get_d-table}
use Rattle.aes.specs.Field.{sub_byte}
use borrow.Author.Rules.{rules}
use Rattle.aes.proofs.expansion.substituted.Goals as goal

pub returns : goal.returns
returns c =
    ap (λ (l : List ℕ). get_or l c.args.b 0) c.requires ∙ get_d-table 256 sub_byte 0 c.args.b (search rules)
