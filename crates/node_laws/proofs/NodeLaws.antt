-- The laws for the layer above, one by one from the law files.
use Rattle.std.specs.Prelude.{Err}
use Prim.Native.Nat.{ℕ}
use mathlib.Core.Path.{◌≡◌, refl}
use mathlib.Core.Logic.{⊎_elim}
use mathlib.Core.List.{[]}
use borrow.Author.Tests.{eq-eqb}
use Rattle.refusal.specs.declared.Refusal.{Refusal}
use Rattle.link_key.specs.set.KeySet.{Apart}
use Rattle.node_key_sets.specs.Frames.{change_verdict}
use Rattle.link_key.specs.set.KeyLaws.{KeyLaws}
use Rattle.link_key_counters.specs.CounterLaws.{CounterLaws}
use Rattle.cojp.specs.InRange.{ReadsInRange, ErrorReportsValid}
use Rattle.node_key_sets.proofs.Valid.{sets-apart, border-empty}
use Rattle.node.specs.Node.{active_of, pending_of, is_border}
use Rattle.node.specs.Range.{Valid}
use Rattle.node.specs.Frames.{send, after_send, verified}
use Rattle.node_laws.specs.Calls.{NodeCall, starting, polling, delivering, asking, sending, receiving, reporting, perform}
use Rattle.node_laws.specs.Laws.{NodeLaws}
use Rattle.node.specs.declared.node.Node.{Node}
use Rattle.node_laws.proofs.Valid.{keys-valid}
use Rattle.node_laws.proofs.Timings.{start-stays, poll-stays}
use Rattle.node_laws.proofs.Parts.{call-part}
use Rattle.node_laws.proofs.Made.{made-valid, made-version, made-role, made-network}
use Rattle.node_laws.proofs.Deliveries.{deliver-leaves, deliver-valid, deliver-role, deliver-version, untaken-stays, border-takes}
use Rattle.node_laws.proofs.FrameKeys.{covers-can, can-send, send-from, send-stays, receive-pending, receive-from}
use Rattle.node_laws.proofs.FrameKeys.{verified-either, verified-switches, verified-stays, verified-says}
use Rattle.node_laws.proofs.Untouched.{node-demand1}

send-refused : (n : Node) (type : ℕ) (k : Refusal) → (send n type).verdict ≡ Err k → after_send n type ≡ n
unfolding perform
send-refused n type k e = (node-demand1.calls (sending type) n k e).node

report-refused :
    (n : Node) (type identifier : ℕ) (k : Refusal) → change_verdict (verified n type identifier).change ≡ Err k →
    (verified n type identifier).node ≡ n
unfolding perform
report-refused n type identifier k e = (node-demand1.calls (reporting type identifier) n k e).node

-- ---- role and form
role-stays : (c : NodeCall) (n : Node) → (perform c n).node.role ≡ n.role
role-stays c n =
    call-part (λ (m : Node). m.role) n (λ a. refl) (λ s. refl) (λ delivery time payload. deliver-role delivery n time payload) c

version-stays : (c : NodeCall) (n : Node) → (perform c n).node.version ≡ n.version
version-stays c n =
    call-part (λ (m : Node). m.version) n (λ a. refl) (λ s. refl) (λ delivery time payload. deliver-version delivery n time payload) c

-- ---- by the laws of keys, of counted sets, of what is read and of its reports
module _ (K : KeyLaws) (C : CounterLaws) (R : ReadsInRange) (F : ErrorReportsValid) where
  valid-apart : (n : Node) → Valid n → Apart (active_of n) (pending_of n)
  valid-apart n v = K.shares-apart (active_of n) (pending_of n) (sets-apart (is_border n) n.sets (keys-valid n v))

  border-none : (n : Node) → Valid n → n.role ≡ 1 → pending_of n ≡ []
  border-none n v b = border-empty K (is_border n) n.sets (keys-valid n v) (eq-eqb n.role 1 b)

  stays-valid : (c : NodeCall) (n : Node) → Valid n → Valid (perform c n).node
  unfolding perform
  stays-valid (starting time timeout d) n v = (start-stays n time timeout d).valid v
  stays-valid (polling time) n v = (poll-stays n time).valid v
  stays-valid (delivering delivery time payload) n v = deliver-valid K C R F delivery n time payload v
  stays-valid (asking time) n v = v
  stays-valid (sending type) n v = (send-stays C n type).valid v
  stays-valid (receiving type identifier) n v = v
  stays-valid (reporting type identifier) n v =
      ⊎_elim (λ k. k.valid v) (λ s. s.1.valid v) (verified-either K n type identifier)

  pub node_laws : NodeLaws
  node_laws =
      record {
        valid-apart = valid-apart;
        border-none = border-none;
        stays-valid = stays-valid;
        role-stays = role-stays;
        version-stays = version-stays;
        made-valid = made-valid;
        made-version = made-version;
        made-role = made-role;
        made-network = made-network;
        refused-stays = λ c n k e. (node-demand1.calls c n k e).node;
        covers-can = covers-can C;
        can-send = λ n type. can-send C n type K;
        send-from = send-from C;
        send-stays = send-stays C;
        send-refused = send-refused;
        receive-pending = receive-pending K;
        receive-from = receive-from K;
        verified-either = verified-either K;
        verified-switches = verified-switches K;
        verified-stays = verified-stays K;
        report-refused = report-refused;
        verified-says = verified-says K;
        same-key-self = K.same-key-self;
        start-stays = start-stays;
        poll-stays = poll-stays;
        deliver-refused = λ delivery n time payload k e. (deliver-leaves n delivery time payload k e).0;
        untaken-stays = untaken-stays;
        border-takes = border-takes K C R F;
      }
