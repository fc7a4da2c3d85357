-- The end is the one by the reading that the numbers ask for, and its object is handed back.
use Rattle.std.specs.Prelude.{◌≡◌}
use Rattle.std.proofs.Common.{arith}
use Rattle.cojp.specs.Request.{read_request_as, read_strict_request_as}
use Rattle.cojp_serial.specs.State.{request_end}
use Rattle.object_image.specs.Request.{request_image}
use Rattle.serial_calls.specs.Ends.{may_end, request_ended}
use Rattle.serial_calls.proofs.Ending.{end_as, ends_as}
use Rattle.serial_calls.proofs.ends.serial_end_request.Goals as goal

pub returns : goal.returns
returns c =
    let a = c.args in
    let told = c.end_request-end.ensures in
    let same : c.end_request-end.result ≡ request_ended a.serial.now a.store.now a.form a.reading =
    end_as (λ reader b. request_end reader b a.store.now) (λ v. read_request_as v) (λ v. read_strict_request_as v) a.form a.reading
    c.in-Some.ensures.1 c.in-Some.ensures.2 c.serial_in.ensures (λ e. rw e at told) (λ e. rw e at told) in
    ends_as 296 (may_end a.serial.now a.form a.reading) (λ x. x.read.verdict) (λ x. request_image.put x.read.request) (λ x. x.state) a.serial.now
    a.out.now (omega arith) c.in-Some.ensures.0 same c.store_request.ensures.number c.store_request.ensures.out c.put_serial.ensures
