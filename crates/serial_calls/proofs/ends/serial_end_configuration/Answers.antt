-- The end is the one by the reading that the numbers ask for, and its object is handed back.
use Rattle.std.specs.Prelude.{◌≡◌}
use Rattle.std.proofs.Common.{arith}
use Rattle.cojp.specs.Configuration.{read_configuration_as, read_strict_configuration_as}
use Rattle.cojp_serial.specs.State.{configuration_end}
use Rattle.object_image.specs.Configuration.{configuration_image}
use Rattle.serial_calls.specs.Ends.{may_end, configuration_ended}
use Rattle.serial_calls.proofs.Ending.{end_as, ends_as}
use Rattle.serial_calls.proofs.ends.serial_end_configuration.Goals as goal

pub returns : goal.returns
returns c =
    let a = c.args in
    let told = c.end_configuration-end.ensures in
    let same : c.end_configuration-end.result ≡ configuration_ended a.serial.now a.store.now a.form a.reading =
    end_as (λ reader b. configuration_end reader b a.store.now) (λ v. read_configuration_as v) (λ v. read_strict_configuration_as v) a.form a.reading
    c.in-Some.ensures.1 c.in-Some.ensures.2 c.serial_in.ensures (λ e. rw e at told) (λ e. rw e at told) in
    ends_as 570 (may_end a.serial.now a.form a.reading) (λ x. x.read.verdict) (λ x. configuration_image.put x.read.configuration) (λ x. x.state) a.serial.now
    a.out.now (omega arith) c.in-Some.ensures.0 same c.store_configuration.ensures.number c.store_configuration.ensures.out c.put_serial.ensures
