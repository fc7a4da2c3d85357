-- Two configurations joined into one, in document 01's form. Document 02, request 11: "Requests 4 and 10 stay with the old form".
use Rattle.std.specs.Prelude.{Bool, cond, ◌&&◌, eqb, Ok, Err}
use Rattle.refusal.specs.declared.Refusal.TheVariants.{Range}
use Rattle.cojp.specs.Configuration.{empty_configuration}
use Rattle.cojp.specs.ErrorReports.{no_error_reports}
use Rattle.cojp.specs.Lists.{no_list_parameter}
use Rattle.cojp.specs.Rate.{no_rate_parameter}
use Rattle.cojp.specs.Reading.{if_taken}
use Rattle.cojp.specs.Writing.{configuration_in_range}
use Rattle.cojp.specs.declared.configuration.Configuration.{Configuration}
use Rattle.cojp.specs.declared.disposition.Disposition.TheVariants.{Absent}
use Rattle.protocol_version.specs.declared.Version.TheVariants.{Draft}
use Rattle.cojp_merge.specs.declared.MergeResult.{MergeResult}

-- each parameter with its report from the second where that is taken, else from the first; a key set whole, a lease with its address. What
-- is merged is ours to write, so no label came or was passed over, and the draft has no blacklist and no join rate
abbrev pub merged : Configuration → Configuration → Configuration
merged first second = record {
  keys = if_taken second.keys.disposition second.keys first.keys;
  address = if_taken second.address.disposition second.address first.address;
  jrc = if_taken second.jrc.disposition second.jrc first.jrc;
  network = if_taken second.network.disposition second.network first.network;
  prefix = if_taken second.prefix.disposition second.prefix first.prefix;
  blacklist = no_list_parameter Absent;
  rate = no_rate_parameter Absent;
  labels = no_error_reports;
  unknown = 0;
}

-- ---- the answer
-- a configuration of the draft: what it takes is within the draft's limits, and no known label was noted, as a reading in the published
-- form does, whose lease is in hours. One that met no known label takes nothing, and merges
unfoldable pub of_draft : Configuration → Bool
of_draft c = (configuration_in_range Draft c && eqb c.labels.count 0)

-- RANGE where either is none, and the empty configuration beside it
abbrev pub outside_limits : MergeResult
outside_limits = record { verdict = Err Range; configuration = empty_configuration }

unfoldable pub merge_answer : Configuration → Configuration → MergeResult
merge_answer first second =
    cond (of_draft first && of_draft second)
    (record { verdict = Ok tt; configuration = merged first second })
    outside_limits
