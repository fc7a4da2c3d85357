-- By what stands at the place: one law for each (proofs/Laws.antt), and a record that was read lies inside the trace.
use Prim.Native.Nat.{◌+◌}
use Rattle.trace.proofs.Laws.{steps-end, steps-bad, steps-new, steps-start, steps-answer, steps-update, steps-verified, steps-poll}
use Rattle.trace.proofs.Laws.{part-is}
use Rattle.trace.proofs.walk.step.Goals as goal

pub returns-in-End : goal.returns-in-End
returns-in-End c =
    steps-end c.args.trace.now c.args.at c.args.state c.entry_at.result c.entry_at.ensures _ c.in-End.is
    c.reached.ensures

pub returns-in-Bad : goal.returns-in-Bad
returns-in-Bad c =
    steps-bad c.args.trace.now c.args.at c.args.state c.entry_at.result c.entry_at.ensures _ c.in-Bad.is
    c.reached-in-Bad.ensures

pub returns-in-New : goal.returns-in-New
returns-in-New c =
    steps-new c.args.trace.now c.args.at c.args.state c.entry_at.result c.entry_at.ensures _ _ _ _ c.in-New.is
    c.network_at.ensures c.new_at.ensures

pub returns-in-Start : goal.returns-in-Start
returns-in-Start c =
    steps-start c.args.trace.now c.args.at c.args.state c.entry_at.result c.entry_at.ensures _ _ _ c.in-Start.is
    c.start_at.ensures

pub returns-in-JoinAnswer : goal.returns-in-JoinAnswer
returns-in-JoinAnswer c =
    let len = c.in-JoinAnswer.size in
    steps-answer c.args.trace.now c.args.at c.args.state c.entry_at.result c.entry_at.ensures _ _ len _ c.in-JoinAnswer.is
    (part-is c.args.trace.now (c.args.at + 11) len) c.join_answer_at.ensures

pub returns-in-Update : goal.returns-in-Update
returns-in-Update c =
    let len = c.in-Update.size in
    steps-update c.args.trace.now c.args.at c.args.state c.entry_at.result c.entry_at.ensures _ _ len _ c.in-Update.is
    (part-is c.args.trace.now (c.args.at + 11) len) c.update_at.ensures

pub returns-in-Verified : goal.returns-in-Verified
returns-in-Verified c =
    steps-verified c.args.trace.now c.args.at c.args.state c.entry_at.result c.entry_at.ensures _ _ _ c.in-Verified.is
    c.verified_at.ensures

pub returns-in-Poll : goal.returns-in-Poll
returns-in-Poll c =
    steps-poll c.args.trace.now c.args.at c.args.state c.entry_at.result c.entry_at.ensures _ _ c.in-Poll.is
    c.poll_at.ensures
