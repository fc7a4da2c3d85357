-- What is still to be read from here on is what was to be read from the start; at most so many labels were passed over as there were pairs.
use Prim.Native.Nat.{◌+◌, ◌-◌}
use native.Mathlib.Omega.{arith}
use mathlib.Core.Path.{◌≡◌, sym, ◌∙◌}
use Rattle.std.proofs.lemmas.Result.{err_from_is_err_and}
use Rattle.cojp.specs.Configuration.{configuration_form}
use Rattle.cojp_map.proofs.Maps.{walk-done, read-refused, read_pairs}
use Rattle.cojp_read.proofs.Pairs.{pair-stops, pair-goes}
use Rattle.cojp_read.proofs.configuration.take_pairs.Goals as goal

pub returns-in_err-map : goal.returns-in_err-map
returns-in_err-map c =
    let a = c.args in
    let p = err_from_is_err_and c.from_residual.result c.from_residual.ensures.1 in
    rw (p.1, p.2)
    (sym (read-refused (configuration_form a.version) a.strict a.c.now a.payload.now c.open_payload.result c.open_payload.ensures
    c.in_err-map.field-0.0 c.in_err-map.was))

pub returns-in_err-at : goal.returns-in_err-at
returns-in_err-at c =
    let a = c.args in
    let p = err_from_is_err_and c.from_residual-in_err-at.result c.from_residual-in_err-at.ensures.1 in
    let stops =
    pair-stops (configuration_form a.version) _ _ a.payload.now _ c.loop.invariant (omega (arith, c.loop-test.true)) c.in_err-at.field-0.0
    _ c.in_err-at.ensures.taken in
    rw (p.1, p.2)
    (stops ∙ sym (read_pairs (configuration_form a.version) a.strict a.c.now a.payload.now c.open_payload.result c.open_payload.ensures
    c.in_ok-map.map c.in_ok-map.was))

pub loop-preserved : goal.loop-preserved
loop-preserved c =
    let r = c.in_ok-at in
    let fewer : c.in_ok-map.map.count - c.loop.counter - 1 ≡ c.in_ok-map.map.count - (c.loop.counter + 1) = omega arith in
    rw (← fewer) (pair-goes (configuration_form c.args.version) _ _ c.args.payload.now _ c.loop.invariant (omega (arith, c.loop-test.true)) r.at _
    r.ensures.taken _ r.ensures.few)

pub returns : goal.returns
returns c =
    let a = c.args in
    walk-done (configuration_form a.version) _ _ c.loop.invariant (omega (arith, c.loop-test.false))
    ∙ sym (read_pairs (configuration_form a.version) a.strict a.c.now a.payload.now c.open_payload.result c.open_payload.ensures
    c.in_ok-map.map c.in_ok-map.was)
