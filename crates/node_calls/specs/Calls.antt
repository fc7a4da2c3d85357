-- The calls of a node from C: the node stands in its image s, and the call does what it does to that node. RANGE comes first where s is no
-- image, or a struct that is handed back has not its size.
use Rattle.std.specs.Prelude.{ℕ, true, cond, ◌&&◌, List, ◌≡◌, leb, eqb, length}
use Rattle.refusal.specs.Verdict.{verdict_number}
use Rattle.refusal.specs.Verdict.{Verdict}
use Rattle.image.specs.Effects.{on_accept, checked_first, hand_verdict, ResultSpec}
use Rattle.image.specs.Part.{is_image}
use Rattle.cojp.specs.Octets.{copied_from}
use Rattle.node.specs.Node.{made}
use Rattle.node.specs.declared.node.MakeResult.{MakeResult}
use Rattle.node_image.specs.Node.{node_image}
use Rattle.node_image.specs.Version.{version_of}
use Rattle.node_laws.specs.Calls.{NodeCall, starting, Performed, perform}
use Rattle.node_parameters.specs.Octets.{absent_octets}
use Rattle.node_parameters.specs.declared.octets.HeldOctets.{HeldOctets}
use Rattle.node_calls.specs.Results.{value_of, struct_of}

-- ---- making: form 0 is the draft, 1 the published one; a network identifier is there or not
abbrev pub network_of : ℕ → List ℕ → HeldOctets
network_of has x =
    cond (eqb has 0) absent_octets (record { held = true; value = record { len = length x; bytes = copied_from x 0 (length x) } })

abbrev pub made_of : ℕ → ℕ → ℕ → List ℕ → MakeResult
made_of form role has x = made (version_of form) role (network_of has x)

-- the number r was answered, and the struct s holds s' afterwards
abbrev pub Makes : ℕ → ℕ → ℕ → List ℕ → List ℕ → ℕ → List ℕ → Type 0
Makes form role has x s r s' =
    ResultSpec 878 (leb form 1 && leb has 1) (made_of form role has x).verdict (node_image.put (made_of form role has x).node) s r s'

-- ---- the other calls go by the node in the image
abbrev pub performed_in : NodeCall → List ℕ → Performed
performed_in c s = perform c (node_image.get s)

abbrev pub call_verdict : NodeCall → List ℕ → Verdict
call_verdict c s = checked_first (is_image node_image s) (performed_in c s).verdict

-- a question: the number r was answered, and the value v; the image is only read
pub record Tells (c : NodeCall) (s : List ℕ) (r v : ℕ) : Type 0 where
  pub number : r ≡ verdict_number (call_verdict c s)
  pub value : v ≡ on_accept (call_verdict c s) 0 (value_of (performed_in c s).object)

-- a call that may change the node: the image holds s' afterwards
pub record Does (c : NodeCall) (s : List ℕ) (r : ℕ) (s' : List ℕ) (v : ℕ) : Type 0 where
  pub tells : Tells c s r v
  pub node : s' ≡ on_accept (call_verdict c s) s (node_image.put (performed_in c s).node)

-- a start writes the join request to d, which holds d' afterwards
pub record Starts (time timeout : ℕ) (s d : List ℕ) (r : ℕ) (s' d' : List ℕ) (v : ℕ) : Type 0 where
  pub does : Does (starting time timeout d) s r s' v
  pub dst : d' ≡ on_accept (call_verdict (starting time timeout d) s) d (performed_in (starting time timeout d) s).lent

-- ---- calls that hand back a struct w of n bytes, which holds w' afterwards
abbrev pub Gives : ℕ → NodeCall → List ℕ → List ℕ → ℕ → List ℕ → Type 0
Gives n c s w r w' = ResultSpec n (is_image node_image s) (performed_in c s).verdict (struct_of (performed_in c s).object) w r w'

abbrev pub give_verdict : ℕ → NodeCall → List ℕ → List ℕ → Verdict
give_verdict n c s w = hand_verdict n (is_image node_image s) (performed_in c s).verdict w

-- and that may change the node
pub record Changes (n : ℕ) (c : NodeCall) (s w : List ℕ) (r : ℕ) (s' w' : List ℕ) : Type 0 where
  pub gives : Gives n c s w r w'
  pub node : s' ≡ on_accept (give_verdict n c s w) s (node_image.put (performed_in c s).node)
