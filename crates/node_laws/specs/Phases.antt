-- When a node waits for its join answer: a start makes it wait, and a join answer, which is accepted only then, ends that.
use Rattle.std.specs.Prelude.{ℕ, ◌≡◌, Bool, true, false, List, Ok, Err}
use Rattle.refusal.specs.declared.Refusal.{Refusal}
use Rattle.protocol_version.specs.declared.Version.{Version}
use Rattle.node_attempt.specs.Attempt.{is_waiting}
use Rattle.node_attempt.specs.declared.delivery.Delivery.{Delivery}
use Rattle.node_attempt.specs.declared.delivery.Delivery.TheVariants.{JoinAnswer}
use Rattle.node_parameters.specs.declared.octets.HeldOctets.{HeldOctets}
use Rattle.node.specs.Node.{made}
use Rattle.node.specs.Timing.{start, poll}
use Rattle.node.specs.Delivery.{deliver}
use Rattle.node.specs.Frames.{after_send, verified}
use Rattle.node.specs.declared.node.Node.{Node}

abbrev pub waits : Node → Bool
waits n = is_waiting n.attempt.phase

pub record PhaseLaws : Type 0 where
  -- a node that was made does not wait, and no call but an accepted start makes one wait that did not
  pub made-idle : (version : Version) (role : ℕ) (network : HeldOctets) → waits (made version role network).node ≡ false
  pub start-refused :
      (n : Node) (time timeout : ℕ) (d : List ℕ) (k : Refusal) → (start n time timeout d).verdict ≡ Err k →
      waits (start n time timeout d).node ≡ waits n
  pub deliver-idle :
      (call : Delivery) (n : Node) (time : ℕ) (payload : List ℕ) → waits n ≡ false → waits (deliver call n time payload).node ≡ false
  pub verified-keeps : (n : Node) (type identifier : ℕ) → waits (verified n type identifier).node ≡ waits n
  pub send-keeps : (n : Node) (type : ℕ) → waits (after_send n type) ≡ waits n
  pub poll-idle : (n : Node) (time : ℕ) → waits n ≡ false → waits (poll n time).node ≡ false
  -- an accepted join answer comes to a node that waits, and it waits no more
  pub answer-waits :
      (n : Node) (time : ℕ) (payload : List ℕ) → (deliver JoinAnswer n time payload).verdict ≡ Ok tt → waits n ≡ true
  pub answer-ends :
      (n : Node) (time : ℕ) (payload : List ℕ) → (deliver JoinAnswer n time payload).verdict ≡ Ok tt →
      waits (deliver JoinAnswer n time payload).node ≡ false
