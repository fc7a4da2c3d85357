-- `valid` meets its contract: each test of the code is one of the definition's.
use mathlib.Core.Path.{◌≡◌, sym, ◌∙◌, ap}
use mathlib.Core.Bool.{Bool, ◌&&◌}
use Rattle.protocol_version.specs.Version.{allows_additional_info}
use Rattle.node_key_sets.specs.Sets as sets
use Rattle.lemmas.specs.logic.Tests.{and-next, and-stops}
use Rattle.node_attempt.specs.Attempt as attempt
use Rattle.node_parameters.specs.Lease.{valid_address}
use Rattle.node.specs.Node.{is_border, clock_of}
use Rattle.node.specs.declared.node.Node.{Node}
use Rattle.node.specs.Range.{valid}
use Rattle.node.proofs.node.Node.valid.Goals as goal
use Rattle.node.proofs.node.Node.valid.Goals.{then-valid, else-valid, then-valid-2, else-valid-2}

-- the first two tests
abbrev two : Node → Bool
two n = (sets.valid_as (allows_additional_info n.version) (is_border n) n.sets && attempt.valid n.attempt)

-- where the ways meet, after the second test and after the third, the tests so far are the definition's
pub returns-then-valid-3 : goal.returns-then-valid-3
unfolding valid
returns-then-valid-3 c =
    let n = c.args.self in
    let first : c.valid.result ≡ sets.valid_as (allows_additional_info n.version) (is_border n) n.sets =
    c.valid.ensures ∙ ap (λ (b : Bool). sets.valid_as b (is_border n) n.sets) c.allows_additional_info-allowed.ensures in
    let two_met : c.if-valid.value ≡ two n =
    elim c.if-valid.branch [
      | then-valid w ↦ and-next first w.if-valid.true w.valid-then-valid.ensures w.value-is
      | else-valid w ↦ and-stops _ first w.if-valid.false w.value-is
    ] in
    let three_met : c.if-valid-2.value ≡ (two n && valid_address (clock_of n) n.address) =
    elim c.if-valid-2.branch [
      | then-valid-2 w ↦ and-next two_met w.if-valid-2.true w.valid-then-valid-2.ensures w.value-is
      | else-valid-2 w ↦ and-stops _ two_met w.if-valid-2.false w.value-is
    ] in
    rw (sym three_met ∙ c.if-valid-3.true) c.others_valid.ensures

pub returns-else-valid-3 : goal.returns-else-valid-3
unfolding valid
returns-else-valid-3 c =
    let n = c.args.self in
    let first : c.valid.result ≡ sets.valid_as (allows_additional_info n.version) (is_border n) n.sets =
    c.valid.ensures ∙ ap (λ (b : Bool). sets.valid_as b (is_border n) n.sets) c.allows_additional_info-allowed.ensures in
    let two_met : c.if-valid.value ≡ two n =
    elim c.if-valid.branch [
      | then-valid w ↦ and-next first w.if-valid.true w.valid-then-valid.ensures w.value-is
      | else-valid w ↦ and-stops _ first w.if-valid.false w.value-is
    ] in
    let three_met : c.if-valid-2.value ≡ (two n && valid_address (clock_of n) n.address) =
    elim c.if-valid-2.branch [
      | then-valid-2 w ↦ and-next two_met w.if-valid-2.true w.valid-then-valid-2.ensures w.value-is
      | else-valid-2 w ↦ and-stops _ two_met w.if-valid-2.false w.value-is
    ] in
    rw (sym three_met ∙ c.if-valid-3.false) c.if-valid-3.false
