-- `valid_as` meets its contract: each test of the code is one of the definition's.
use mathlib.Core.Path.{◌≡◌, sym, ◌∙◌, ap}
use mathlib.Core.Bool.{Bool, false, ◌&&◌}
use borrow.Author.Rules.{rules}
use mathlib.Core.Logic.{⊎_elim}
use native.Mathlib.Omega.{arith}
use lib.ListN.{length}
use Rattle.link_key.specs.set.KeySet.{keys_of, valid_set, additional_info_allowed}
use Rattle.link_key.proofs.set.KeySets.{set-none, set-over, set-limits}
use Rattle.link_key.proofs.set.key_set.KeySet.valid_as.Goals as goal

pub returns-then-self-eq0 : goal.returns-then-self-eq0
returns-then-self-eq0 c =
    let set = c.args.self in
    let out : valid_set set ≡ false =
    ⊎_elim (set-none set) (λ w. set-over set w.1) c.then-self-eq0.either in
    rw out

pub returns : goal.returns
returns c =
    let set = c.args.self in
    let places : length c.args.self.keys ≡ 8 = search rules in
    let limits = set-limits set places c.if-self-eq0.false (omega arith) in
    c.keys_valid.ensures ∙ ap (λ (b : Bool). (b && additional_info_allowed c.args.allowed (keys_of set))) (sym limits)
