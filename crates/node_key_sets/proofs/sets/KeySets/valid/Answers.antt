-- `valid` meets its contract: each test of the code is one of the definition's, and both sets are asked about additional information.
use mathlib.Core.Path.{◌≡◌, sym, ◌∙◌}
use mathlib.Core.Bool.{Bool, not, ◌&&◌, ◌||◌}
use Rattle.link_key.specs.set.KeySet.{no_additional_infos, shares, additional_info_allowed}
use Rattle.node_key_sets.specs.Sets.{active_in, pending_in, is_none, none_or_valid, valid, valid_as}
use Rattle.node_key_sets.specs.declared.sets.KeySets.{KeySets}
use Rattle.lemmas.specs.logic.Tests.{and-next, and-stops}
use Rattle.node_key_sets.proofs.Valid.{regrouped}
use Rattle.node_key_sets.proofs.sets.KeySets.valid.Goals as goal
use Rattle.node_key_sets.proofs.sets.KeySets.valid.Goals.{then-none_or_valid, else-none_or_valid}

-- what the code asks of each set
abbrev active_fits : Bool → KeySets → Bool
active_fits allowed s = (none_or_valid s.active.set && additional_info_allowed allowed (active_in s))

abbrev pending_fits : Bool → KeySets → Bool
pending_fits allowed s = (none_or_valid s.pending.set && additional_info_allowed allowed (pending_in s))

-- the three tests of the code are the definition's
three : (allowed border : Bool) (s : KeySets) →
    (active_fits allowed s && pending_fits allowed s
    && (not (shares (active_in s) (pending_in s)) && (not border || is_none s.pending.set)))
    ≡ valid_as allowed border s
unfolding valid valid_as
three allowed border s =
    regrouped (none_or_valid s.active.set) (none_or_valid s.pending.set) (not (shares (active_in s) (pending_in s)))
    (not border || is_none s.pending.set) allowed (no_additional_infos (active_in s)) (no_additional_infos (pending_in s))

pub returns-then-none_or_valid-2 : goal.returns-then-none_or_valid-2
returns-then-none_or_valid-2 c =
    let a = c.args in
    let first = c.none_or_valid.ensures in
    let met : c.if-none_or_valid.value ≡ (active_fits a.allowed a.self && pending_fits a.allowed a.self) =
    elim c.if-none_or_valid.branch [
      | then-none_or_valid w ↦ and-next first w.if-none_or_valid.true w.none_or_valid-then-none_or_valid.ensures w.value-is
      | else-none_or_valid w ↦ and-stops (pending_fits a.allowed a.self) first w.if-none_or_valid.false w.value-is
    ] in
    rw (← three a.allowed a.border a.self, sym met ∙ c.if-none_or_valid-2.true) c.apart.ensures

pub returns-else-none_or_valid-2 : goal.returns-else-none_or_valid-2
returns-else-none_or_valid-2 c =
    let a = c.args in
    let first = c.none_or_valid.ensures in
    let met : c.if-none_or_valid.value ≡ (active_fits a.allowed a.self && pending_fits a.allowed a.self) =
    elim c.if-none_or_valid.branch [
      | then-none_or_valid w ↦ and-next first w.if-none_or_valid.true w.none_or_valid-then-none_or_valid.ensures w.value-is
      | else-none_or_valid w ↦ and-stops (pending_fits a.allowed a.self) first w.if-none_or_valid.false w.value-is
    ] in
    rw (← three a.allowed a.border a.self, sym met ∙ c.if-none_or_valid-2.false) c.if-none_or_valid-2.false
