-- What a node reports (document 02, request 11): the bad parameters of the last join answer or update that it accepted, in payload order, a
-- key set that clashes among them. Its next join request lists exactly these.
use Rattle.std.specs.Prelude.{ℕ, ◌≡◌, List, [], ◌∷◌, ◌++◌, replicate, take, Ok, Err}
use Rattle.refusal.specs.Verdict.{Verdict}
use Rattle.cojp.specs.ErrorReports.{error_report_of, no_error_reports, error_report_list}
use Rattle.cojp.specs.Reported.{error_reports_of}
use Rattle.cojp.specs.declared.error_report.ErrorReports.{ErrorReports}
use Rattle.protocol_version.specs.declared.Version.{Version}
use Rattle.protocol_version.specs.declared.Version.TheVariants.{Published}
use Rattle.cojp_list.specs.Listed.{listed_in}
use Rattle.node_attempt.specs.declared.delivery.Delivery.{Delivery}
use Rattle.node_attempt.specs.declared.delivery.Delivery.TheVariants.{JoinAnswer, Update}
use Rattle.node_parameters.specs.declared.octets.HeldOctets.{HeldOctets}
use Rattle.node.specs.Delivery.{deliver}
use Rattle.node.specs.Node.{made}
use Rattle.node.specs.Timing.{request_of, start_after}
use Rattle.node.specs.declared.node.Node.{Node}
use Rattle.node_laws.specs.Addresses.{after_calls, cafe, addressed}
use Rattle.node_laws.specs.Calls.{NodeCall, starting, polling, delivering, asking, sending, receiving, reporting, perform}
use Rattle.node_laws.specs.Laws.{configuration_in}

-- ---- the reports of a list of calls
-- of one payload: its own where it was accepted, none else
abbrev pub reports_where : Verdict → ErrorReports → List ErrorReports
reports_where (Ok tt) f = f ∷ []
reports_where (Err k) f = []

-- only join answers and updates bring any
abbrev pub reports_by : NodeCall → Node → List ErrorReports
reports_by (starting time timeout d) n = []
reports_by (polling time) n = []
reports_by (delivering delivery time payload) n =
    reports_where (deliver delivery n time payload).verdict (error_reports_of (configuration_in n payload))
reports_by (asking time) n = []
reports_by (sending type) n = []
reports_by (receiving type identifier) n = []
reports_by (reporting type identifier) n = []

-- those of every accepted join answer and update among the calls, in their order
abbrev pub reports_in : List NodeCall → Node → List ErrorReports
reports_in [] n = []
reports_in (c ∷ cs) n = reports_by c n ++ reports_in cs (perform c n).node

-- the last of them, or what there was before
abbrev pub last_of : ErrorReports → List ErrorReports → ErrorReports
last_of f [] = f
last_of f (g ∷ gs) = last_of g gs

pub record ReportsFollow : Type 0 where
  -- a fresh node reports nothing
  pub made_none : (version : Version) (role : ℕ) (network : HeldOctets) → (made version role network).node.errors ≡ no_error_reports
  -- an accepted join answer or update leaves its own reports, which may be none; every other call, and a refused one, leaves those before
  pub brings :
      (delivery : Delivery) (n : Node) (time : ℕ) (payload : List ℕ) → (deliver delivery n time payload).verdict ≡ Ok tt →
      (deliver delivery n time payload).node.errors ≡ error_reports_of (configuration_in n payload)
  pub leaves : (c : NodeCall) (n : Node) → reports_by c n ≡ [] → (perform c n).node.errors ≡ n.errors
  -- whatever calls come: the last accepted one's
  pub last : (cs : List NodeCall) (n : Node) → (after_calls cs n).errors ≡ last_of n.errors (reports_in cs n)
  -- and the request of the next start lists them
  pub listed :
      (cs : List NodeCall) (n : Node) →
      (request_of (after_calls cs n)).unsupported ≡ listed_in (last_of n.errors (reports_in cs n))

-- ---- a node of the published form joins with the key of identifier 1
abbrev pub one_key : ℕ → ℕ → List ℕ
one_key identifier byte = 0x02 ∷ 0x82 ∷ identifier ∷ 0x50 ∷ replicate 16 byte

abbrev pub member : Node
member =
    after_calls
    (starting 0 10000 (replicate 32 0) ∷ delivering JoinAnswer 1000 (0xA1 ∷ one_key 1 0x11) ∷ reporting 1 1 ∷ [])
    (made Published 0 cafe).node

-- an update with a JRC address of one byte, another key of identifier 1, and the address FFFE; one that is cut off; one that is good
abbrev pub all_bad : List ℕ
all_bad = 0xA3 ∷ 0x04 ∷ 0x41 ∷ 0x00 ∷ (one_key 1 0x22 ++ (0x03 ∷ 0x81 ∷ 0x42 ∷ 0xFF ∷ 0xFE ∷ []))

abbrev pub reporting_node : Node
reporting_node = after_calls (delivering Update 2000 all_bad ∷ delivering Update 3000 (0xA1 ∷ []) ∷ []) member

abbrev pub clear_node : Node
clear_node = after_calls (delivering Update 4000 (addressed 0xFD) ∷ []) reporting_node

-- the first bytes of what a start writes
abbrev pub request : ℕ → Node → List ℕ
request size n = take size (start_after n 5000 10000 (replicate 32 0))

pub record ReportsExample : Type 0 where
  pub accepted : (deliver Update member 2000 all_bad).verdict ≡ Ok tt
  -- JRC address, key set, short address: malformed, in payload order, and the refused update changes nothing
  pub reported : error_report_list reporting_node.errors ≡ error_report_of 1 4 ∷ error_report_of 1 2 ∷ error_report_of 1 3 ∷ []
  pub written :
      request 16 reporting_node
      ≡ 0xA2 ∷ 0x05 ∷ 0x42 ∷ 0xCA ∷ 0xFE ∷ 0x08 ∷ 0x89 ∷ 0x01 ∷ 0x04 ∷ 0xF6 ∷ 0x01 ∷ 0x02 ∷ 0xF6 ∷ 0x01 ∷ 0x03 ∷ 0xF6 ∷ []
  -- after the good one there is nothing to report
  pub cleared : error_report_list clear_node.errors ≡ []
  pub without : request 5 clear_node ≡ 0xA1 ∷ 0x05 ∷ 0x42 ∷ 0xCA ∷ 0xFE ∷ []
