-- The sets are judged with what the version allows.
use mathlib.Core.Path.{ap, ◌∙◌}
use Rattle.protocol_version.specs.Version.{allows_additional_info}
use Rattle.capi_judge.proofs.Judged.{sets-so}
use Rattle.capi_judge.proofs.state.sets_valid.Goals as goal

pub returns : goal.returns
returns c =
    sets-so c.args.s.now (c.allows_additional_info-allowed.ensures ∙ ap allows_additional_info c.version_at.ensures)
    c.sets_valid_in.ensures
