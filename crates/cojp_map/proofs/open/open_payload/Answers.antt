-- The length, then what the scan and the map's head say.
use Rattle.std.proofs.Common.{Ok, Err, Some, None, ap, ◌∙◌, arith}
use Rattle.std.proofs.lemmas.Result.{err_from_is_err_and}
use Rattle.cojp_map.proofs.Maps.{start-long, start-opened}
use Rattle.cojp_map.proofs.open.open_payload.Goals as goal

pub returns-then-payload-gt-PAYLOAD_BYTES : goal.returns-then-payload-gt-PAYLOAD_BYTES
returns-then-payload-gt-PAYLOAD_BYTES c = start-long c.args.strict c.args.payload.now (omega arith)

pub returns-in_err-map : goal.returns-in_err-map
returns-in_err-map c =
    let p = err_from_is_err_and c.from_residual.result c.from_residual.ensures.1 in
    let a = c.args in
    let r = c.open_map in
    rw (p.1, p.2) (start-opened a.strict a.payload.now (omega arith) r.result r.ensures (Err c.in_err-map.field-0.0) c.in_err-map.was)

pub returns-in-Some : goal.returns-in-Some
returns-in-Some c =
    let a = c.args in
    let r = c.open_map in
    start-opened a.strict a.payload.now (omega arith) r.result r.ensures (Ok (Some c.in-Some.map)) (c.in_ok-map.was ∙ ap Ok c.in-Some.is)

pub returns-in-None : goal.returns-in-None
returns-in-None c =
    let a = c.args in
    let r = c.open_map in
    start-opened a.strict a.payload.now (omega arith) r.result r.ensures (Ok None) (c.in_ok-map.was ∙ ap Ok c.in-None.is)
