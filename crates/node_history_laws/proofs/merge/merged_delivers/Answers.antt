-- What is merged is written and reads back; it does to the node what the two did.
use mathlib.Core.Path.{subst}
use Rattle.cojp_laws.specs.Largest.{LargestConfiguration, DraftWritten}
use Rattle.cojp_laws.specs.RoundTrip.{ConfigurationRoundTrip}
use Rattle.cojp_merge.specs.declared.MergeResult.{MergeResult}
use Rattle.node_history_laws.proofs.merge.Delivered.{merged-delivers}
use Rattle.node_history_laws.proofs.merge.merged_delivers.Goals as goal

pub returns : goal.returns
returns c =
    merged-delivers c.merged_applies_law.ensures c.laws.ensures c.reads_in_range_law.ensures c.args.first c.args.second
    (subst (λ (m : MergeResult). LargestConfiguration m.configuration) c.merge-both.ensures c.largest_configuration.ensures)
    (subst (λ (m : MergeResult). DraftWritten m.configuration) c.merge-both.ensures c.draft_written.ensures)
    (subst (λ (m : MergeResult). ConfigurationRoundTrip m.configuration) c.merge-both.ensures c.configuration_round_trip.ensures)
