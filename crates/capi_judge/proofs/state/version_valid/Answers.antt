-- The error reports are judged first, then what belongs to the version.
use mathlib.Core.Path.{ap₂, sym, ◌∙◌}
use Rattle.lemmas.specs.logic.Tests.{is_true, is_false}
use Rattle.cojp.specs.ErrorReports.{error_reports_valid}
use Rattle.node_image.specs.NodeLemmas.{node_at}
use Rattle.capi_judge.proofs.Judged.{reports-not, form-draft, form-published}
use Rattle.capi_judge.proofs.state.version_valid.Goals as goal

pub returns-then-not-error_reports_valid : goal.returns-then-not-error_reports_valid
returns-then-not-error_reports_valid c =
    reports-not (node_at c.args.s.now)
    (is_false (c.error_reports_valid.ensures
    ∙ ap₂ error_reports_valid c.version_at-version.ensures c.error_reports_at.ensures)
    c.if-not-error_reports_valid.true)

pub returns-in-Draft : goal.returns-in-Draft
returns-in-Draft c =
    form-draft (node_at c.args.s.now)
    (is_true (c.error_reports_valid.ensures
    ∙ ap₂ error_reports_valid c.version_at-version.ensures c.error_reports_at.ensures)
    c.if-not-error_reports_valid.false)
    (sym c.version_at-version.ensures ∙ c.in-Draft.is) c.draft_valid.ensures

pub returns-in-Published : goal.returns-in-Published
returns-in-Published c =
    form-published (node_at c.args.s.now)
    (is_true (c.error_reports_valid.ensures
    ∙ ap₂ error_reports_valid c.version_at-version.ensures c.error_reports_at.ensures)
    c.if-not-error_reports_valid.false)
    (sym c.version_at-version.ensures ∙ c.in-Published.is) c.published_valid.ensures
