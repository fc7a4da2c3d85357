-- A refusal of the sender ends the turn, and the receiver receives the key that it answered.
use Rattle.network_turn.proofs.Answers.{sender-finds, sender-refuses}
use Rattle.network_turn.proofs.turn.Goals as goal

pub returns-in-Err : goal.returns-in-Err
returns-in-Err c =
    sender-refuses c.args.sender c.args.receiver c.args.frame_type c.sending_key-sent.result c.sending_key-sent.ensures _
    c.in-Err.is

pub returns-in-Ok : goal.returns-in-Ok
returns-in-Ok c =
    sender-finds c.args.sender c.args.receiver c.args.frame_type c.sending_key-sent.result c.sending_key-sent.ensures
    c.received.result c.in-Ok.is c.received.ensures
