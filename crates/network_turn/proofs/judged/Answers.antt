-- The radio goes by whether the two keys are equal.
use Rattle.network_turn.proofs.Answers.{radio-failed, radio-verified}
use Rattle.network_turn.proofs.judged.Goals as goal

pub returns-then-same_key : goal.returns-then-same_key
returns-then-same_key c =
    radio-verified c.args.sender c.args.receiver c.args.frame_type c.args.key c.args.found c.same_key.result
    c.verified-reported.result c.answer_of.result c.same_key.ensures c.if-same_key.true
    c.verified-reported.ensures c.answer_of.ensures

pub returns : goal.returns
returns c =
    radio-failed c.args.sender c.args.receiver c.args.frame_type c.args.key c.args.found c.same_key.result c.same_key.ensures
    c.if-same_key.false
