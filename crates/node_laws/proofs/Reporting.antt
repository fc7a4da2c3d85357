-- Each call's definition leaves the reports but an accepted delivery's, which sets them; so after a list of calls they are the last one's.
use Rattle.std.specs.Prelude.{Ok, Err}
use Prim.Native.Nat.{ℕ}
use mathlib.Core.Path.{◌≡◌, refl, sym, ◌∙◌, ap}
use mathlib.Core.List.{List, [], ◌∷◌, ◌++◌}
use Rattle.refusal.specs.Verdict.{Verdict}
use Rattle.cojp.specs.ErrorReports.{no_error_reports}
use Rattle.cojp.specs.Reported.{error_reports_of}
use Rattle.cojp.specs.declared.error_report.ErrorReports.{ErrorReports}
use Rattle.protocol_version.specs.declared.Version.{Version}
use Rattle.cojp_list.specs.Listed.{listed_in}
use Rattle.node_attempt.specs.declared.delivery.Delivery.{Delivery}
use Rattle.node_parameters.specs.declared.octets.HeldOctets.{HeldOctets}
use Rattle.node.specs.Delivery.{configured, deliver}
use Rattle.node.specs.Node.{made}
use Rattle.node.specs.Timing.{request_of}
use Rattle.node.specs.declared.delivery.DeliveryResult.{DeliveryResult}
use Rattle.node.specs.declared.node.MakeResult.{MakeResult}
use Rattle.node.specs.declared.node.Node.{Node}
use Rattle.node_laws.specs.Addresses.{after_calls}
use Rattle.node_laws.specs.Calls.{NodeCall, starting, polling, delivering, asking, sending, receiving, reporting, perform}
use Rattle.node_laws.specs.Laws.{configuration_in}
use Rattle.node_laws.specs.Reports.{reports_where, reports_by, reports_in, last_of, ReportsFollow}
use Rattle.node_laws.proofs.Parts.{made-cases, start-part, poll-part, send-part, report-part}
use Rattle.node_laws.proofs.Deliveries.{deliver-leaves, accepted-is}

-- ---- one call
made_none : (version : Version) (role : ℕ) (network : HeldOctets) → (made version role network).node.errors ≡ no_error_reports
made_none version role network = made-cases (λ (m : MakeResult). m.node.errors ≡ no_error_reports) version role network (λ _ _. refl) refl

brings :
    (delivery : Delivery) (n : Node) (time : ℕ) (payload : List ℕ) → (deliver delivery n time payload).verdict ≡ Ok tt →
    (deliver delivery n time payload).node.errors ≡ error_reports_of (configuration_in n payload)
unfolding configured
brings delivery n time payload e = ap (λ (m : DeliveryResult). m.node.errors) (accepted-is delivery n time payload e)

by-delivery :
    (delivery : Delivery) (n : Node) (time : ℕ) (payload : List ℕ) (v : Verdict) → (deliver delivery n time payload).verdict ≡ v →
    (deliver delivery n time payload).node.errors ≡ last_of n.errors (reports_where v (error_reports_of (configuration_in n payload)))
by-delivery delivery n time payload (Ok tt) e = brings delivery n time payload e
by-delivery delivery n time payload (Err k) e = ap (λ (m : Node). m.errors) (deliver-leaves n delivery time payload k e).0

abbrev faults_in : Node → ErrorReports
faults_in n = n.errors

one : (c : NodeCall) (n : Node) → (perform c n).node.errors ≡ last_of n.errors (reports_by c n)
unfolding perform
one (starting time timeout d) n = start-part faults_in n (λ a. refl) time timeout d
one (polling time) n = poll-part faults_in n (λ a. refl) time
one (delivering delivery time payload) n = by-delivery delivery n time payload (deliver delivery n time payload).verdict refl
one (asking time) n = refl
one (sending type) n = send-part faults_in n (λ s. refl) type
one (receiving type identifier) n = refl
one (reporting type identifier) n = report-part faults_in n (λ s. refl) type identifier

-- ---- many
last-joined : (f : ErrorReports) (gs hs : List ErrorReports) → last_of f (gs ++ hs) ≡ last_of (last_of f gs) hs
last-joined f [] hs = refl
last-joined f (g ∷ gs) hs = last-joined g gs hs

last : (cs : List NodeCall) (n : Node) → (after_calls cs n).errors ≡ last_of n.errors (reports_in cs n)
last [] n = refl
last (c ∷ cs) n =
    let rest = reports_in cs (perform c n).node in
    last cs (perform c n).node ∙ ap (λ (f : ErrorReports). last_of f rest) (one c n) ∙ sym (last-joined n.errors (reports_by c n) rest)

listed : (cs : List NodeCall) (n : Node) → (request_of (after_calls cs n)).unsupported ≡ listed_in (last_of n.errors (reports_in cs n))
unfolding request_of
listed cs n = ap listed_in (last cs n)

pub reports-follow : ReportsFollow
reports-follow = record {
  made_none = made_none;
  brings = brings;
  leaves = λ c n e. one c n ∙ ap (last_of n.errors) e;
  last = last;
  listed = listed;
}
