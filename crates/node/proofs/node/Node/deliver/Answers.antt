-- `deliver` meets its contract: refused as the definition says, step by step, and else by the node with its key sets placed.
use mathlib.Core.Path.{◌≡◌, ◌∙◌}
use Rattle.node_key_sets.proofs.InstallLemmas.{decided}
use Rattle.node.specs.Node.{is_border}
use Rattle.node.specs.Delivery.{configured, apply, fitted, deliver}
use Rattle.lemmas.specs.logic.Tests.{is_false, is_true}
use Rattle.node.proofs.Applied.{Placed, apply-changed, apply-clash, apply-owed, deliver-early, deliver-invalid}
use Rattle.node.proofs.Applied.{deliver-read, deliver-unread, none-placed, set-discarded, set-placed}
use Rattle.node.proofs.node.Node.deliver.Goals as goal
use Rattle.node.proofs.node.Node.deliver.Goals.{then-is_taken+in-Err-decide_install+in-Published, then-is_taken+in-Ok, else-is_taken}

pub returns-then-not-valid : goal.returns-then-not-valid
returns-then-not-valid c =
    c.undelivered.ensures
    ∙ deliver-invalid c.args.delivery c.args.self c.args.time c.args.payload.now (is_false c.valid.ensures c.if-not-valid.true)

pub returns-in-Err : goal.returns-in-Err
returns-in-Err c =
    c.undelivered-in-Err.ensures
    ∙ deliver-early c.args.delivery c.args.self c.args.time c.args.payload.now (is_true c.valid.ensures c.if-not-valid.false)
    c.may_come.ensures
    c.in-Err.is

pub returns-in-Err-verdict : goal.returns-in-Err-verdict
returns-in-Err-verdict c =
    c.undelivered-in-Err-verdict.ensures
    ∙ deliver-unread c.args.delivery c.args.self c.args.time c.args.payload.now (is_true c.valid.ensures c.if-not-valid.false)
    c.may_come.ensures
    c.in_default.is c.read_configuration-read.ensures c.in-Err-verdict.is

pub returns-then-owes_identifier : goal.returns-then-owes_identifier
returns-then-owes_identifier c =
    let got = c.read_configuration-read.result.configuration in
    let read_so : apply c.args.delivery c.args.self c.args.time (fitted c.args.self got)
    ≡ deliver c.args.delivery c.args.self c.args.time c.args.payload.now =
    deliver-read c.args.delivery c.args.self c.args.time c.args.payload.now (is_true c.valid.ensures c.if-not-valid.false)
    c.may_come.ensures
    c.in_default.is c.read_configuration-read.ensures c.in_default-verdict.is in
    c.undelivered-then-owes_identifier.ensures
    ∙ apply-owed c.args.delivery c.args.self c.args.time got (is_true c.owes_identifier.ensures c.if-owes_identifier.true)
    ∙ read_so

pub returns-in-Draft : goal.returns-in-Draft
returns-in-Draft c =
    let got = c.read_configuration-read.result.configuration in
    let read_so : apply c.args.delivery c.args.self c.args.time (fitted c.args.self got)
    ≡ deliver c.args.delivery c.args.self c.args.time c.args.payload.now =
    deliver-read c.args.delivery c.args.self c.args.time c.args.payload.now (is_true c.valid.ensures c.if-not-valid.false)
    c.may_come.ensures
    c.in_default.is c.read_configuration-read.ensures c.in_default-verdict.is in
    c.undelivered-in-Draft.ensures
    ∙ apply-clash c.args.delivery c.args.self c.args.time got
    (is_false c.owes_identifier.ensures c.if-owes_identifier.false)
    c.is_taken.ensures c.if-is_taken.true
    (decided (is_border c.args.self) c.args.self.sets got.keys.value _ c.decide_install.ensures)
    c.in-Err-decide_install.is
    c.in-Draft.is
    ∙ read_so

-- where the ways meet, the key sets are placed
pub returns : goal.returns
unfolding configured
returns c =
    let d = c.args.delivery in
    let n = c.args.self in
    let t = c.args.time in
    let got = c.read_configuration-read.result.configuration in
    let read_so : apply c.args.delivery c.args.self c.args.time (fitted c.args.self got)
    ≡ deliver c.args.delivery c.args.self c.args.time c.args.payload.now =
    deliver-read c.args.delivery c.args.self c.args.time c.args.payload.now (is_true c.valid.ensures c.if-not-valid.false)
    c.may_come.ensures
    c.in_default.is c.read_configuration-read.ensures c.in_default-verdict.is in
    let owes = is_false c.owes_identifier.ensures c.if-owes_identifier.false in
    let taken = c.is_taken.ensures in
    let met : Placed d n t got c.if-is_taken.self c.if-is_taken.c =
    elim c.if-is_taken.branch [
      | then-is_taken+in-Err-decide_install+in-Published w ↦
          rw (w.self-is, w.c-is, w.no_key_set-c.ensures)
          (set-discarded d n t got owes taken w.if-is_taken.true
          (decided (is_border n) n.sets got.keys.value _ w.decide_install.ensures) w.in-Err-decide_install.is w.in-Published.is)
      | then-is_taken+in-Ok w ↦
          rw (w.self-is, w.c-is, w.with_set-self.ensures)
          (set-placed d n t got owes taken w.if-is_taken.true
          (decided (is_border n) n.sets got.keys.value _ w.decide_install.ensures) w.in-Ok.is)
      | else-is_taken w ↦ rw (w.self-is, w.c-is) (none-placed d n t got owes taken w.if-is_taken.false)
    ] in
    rw (
      c.attempt_after-self.ensures,
      c.after-self.ensures,
      c.after-self-2.ensures,
      c.after-self-3.ensures,
      c.after-self-4.ensures,
      c.after-self-5.ensures,
      c.after-self-6.ensures,
      c.error_reports_of-self.ensures,
      c.dispositions_of-reports.ensures,
    )
    (apply-changed d n t got c.if-is_taken.self c.if-is_taken.c met ∙ read_so)
