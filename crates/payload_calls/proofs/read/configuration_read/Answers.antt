-- The reading is the one that the numbers ask for, and its object is handed back.
use Rattle.std.specs.Prelude.{◌≡◌}
use Rattle.std.proofs.Common.{arith}
use Rattle.cojp.specs.Configuration.{read_configuration_as, read_strict_configuration_as}
use Rattle.object_image.specs.Configuration.{configuration_image}
use Rattle.payload_calls.proofs.Answers.{hands-as}
use Rattle.payload_calls.specs.Asked.{is_reading}
use Rattle.payload_calls.specs.AskedLemmas.{read_as}
use Rattle.payload_calls.specs.Read.{configuration_asked}
use Rattle.payload_calls.proofs.read.configuration_read.Goals as goal

pub returns : goal.returns
returns c =
    let a = c.args in
    let p = a.payload.now in
    let same : c.read_configuration-read.result ≡ configuration_asked a.form a.reading p =
    read_as (λ v. read_configuration_as v p) (λ v. read_strict_configuration_as v p) a.form a.reading c.in-Some.ensures.1
    c.in-Some.ensures.2
    (λ e. rw e at c.read_configuration-read.ensures)
    (λ e. rw e at c.read_configuration-read.ensures) in
    hands-as 570 (is_reading a.form a.reading) (λ r. r.verdict) (λ r. configuration_image.put r.configuration) a.out.now
    c.read_configuration-read.result (configuration_asked a.form a.reading p) (omega arith) c.in-Some.ensures.0 same
    c.store_configuration.ensures.number c.store_configuration.ensures.out
