-- Four tests in a row; the first that fails decides.
use mathlib.Core.Path.{ap, ◌∙◌}
use borrow.Author.Tests.{le-leb, lt-leb}
use Rattle.lemmas.specs.logic.Tests.{is_true, is_false}
use Rattle.node_parameters.specs.Octets.{valid_octets, valid_jrc}
use Rattle.capi_judge.proofs.Judged.{four-1, four-2, four-3, four-4}
use Rattle.capi_judge.proofs.state.others_valid.Goals as goal

pub returns-then-s-gt1 : goal.returns-then-s-gt1
returns-then-s-gt1 c =
    four-1 _ _ _ _ (lt-leb _ _ c.if-s-gt1.true)

pub returns-then-not-valid_jrc : goal.returns-then-not-valid_jrc
returns-then-not-valid_jrc c =
    four-2 _ _ _ _ (le-leb _ _ c.if-s-gt1.false)
    (is_false (c.valid_jrc.ensures ∙ ap valid_jrc c.held_octets_at.ensures) c.if-not-valid_jrc.true)

pub returns-then-not-valid : goal.returns-then-not-valid
returns-then-not-valid c =
    four-3 _ _ _ _ (le-leb _ _ c.if-s-gt1.false)
    (is_true (c.valid_jrc.ensures ∙ ap valid_jrc c.held_octets_at.ensures) c.if-not-valid_jrc.false)
    (is_false (c.valid.ensures ∙ ap valid_octets c.held_octets_at-2.ensures) c.if-not-valid.true)

pub returns : goal.returns
returns c =
    four-4 _ _ _ _ (le-leb _ _ c.if-s-gt1.false)
    (is_true (c.valid_jrc.ensures ∙ ap valid_jrc c.held_octets_at.ensures) c.if-not-valid_jrc.false)
    (is_true (c.valid.ensures ∙ ap valid_octets c.held_octets_at-2.ensures) c.if-not-valid.false)
    c.version_valid.ensures
