-- Demand 1 for the two key sets: a refusal answers the sets that were handed in, and RANGE is the first test of each call.
use Rattle.node_key_sets.specs.Sets.{install}
use Rattle.node_key_sets.specs.Frames.{sending, receiving_key, verified_in}
use Rattle.node_key_sets.proofs.Untouched.{install-untouched, send-untouched, receive-untouched, verified-untouched}
use Rattle.node_key_sets.proofs.demand1.Goals as goal

pub returns : goal.returns
unfolding install sending receiving_key verified_in
returns c = record {
  install-refused = install-untouched;
  install-invalid = λ border s set e. rw e;
  send-refused = send-untouched;
  send-unknown = λ s type e. rw e;
  receive-refused = receive-untouched;
  receive-unknown = λ s type identifier e. rw e;
  report-refused = λ s type identifier k e. (verified-untouched s type identifier k e).0;
  report-unknown = λ s type identifier e. rw e;
}
