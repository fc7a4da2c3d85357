-- Each place of the result is the sum of the two blocks' bytes there.
use Rattle.std.proofs.Common.{rules, get_or}
use Rattle.lemmas.specs.lists.Xor.{◌⊕◌}
use Rattle.lemmas.specs.lists.FromFn.{made-table}
use Rattle.aes.specs.Cipher.{add_round_key}
use Rattle.aes.proofs.cipher.add_round_key.Goals as goal

pub returns : goal.returns
unfolding add_round_key ◌⊕◌
returns c = made-table (λ i. get_or c.args.s i 0 ⊕ get_or c.args.k i 0) (λ i y q k. search rules) c.from_fn.ensures.items
