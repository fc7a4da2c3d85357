-- The calls of a node from C: makes and the node's own calls, in any order. From a make on, and from any image on, they answer what the
-- node's own calls answer, and the struct holds the node after them. A refused make leaves no node: then every call is RANGE until one is
-- made.
use Rattle.std.specs.Prelude.{ℕ, zero, suc, true, List, [], ◌∷◌, ◌≡◌, length, replicate, Err}
use Rattle.refusal.specs.Verdict.{verdict_number}
use Rattle.refusal.specs.declared.Refusal.TheVariants.{Range}
use Rattle.image.specs.Effects.{on_accept}
use Rattle.image.specs.Part.{AllBytes, is_image}
use Rattle.cojp.specs.Octets.{copied_from}
use Rattle.protocol_version.specs.declared.Version.TheVariants.{Draft, Published}
use Rattle.node.specs.Node.{made, unmade}
use Rattle.node.specs.declared.node.MakeResult.{MakeResult}
use Rattle.node.specs.declared.node.Node.{Node}
use Rattle.node_parameters.specs.Octets.{absent_octets}
use Rattle.node_parameters.specs.declared.octets.HeldOctets.{HeldOctets}
use Rattle.node_image.specs.Node.{node_image}
use Rattle.node_laws.specs.Calls.{NodeCall, starting, polling, delivering, asking, sending}
use Rattle.node_laws.specs.Calls.{receiving, reporting, lent_to, Performed, perform}
use Rattle.node_calls.specs.Calls.{Makes, Tells, Does, Starts, Gives, Changes}
use Rattle.node_calls.specs.Results.{value_of, struct_of}
use Rattle.node_call_laws.specs.Fits.{Callable}
use Rattle.pothatch_laws.specs.Runs.{Runs, As}

pub data Call : Type 0 where
  -- the numbers for the form, the role, and whether there is a network identifier; and its bytes
  making : ℕ → ℕ → ℕ → List ℕ → Call
  calling : NodeCall → Call

-- what a call answered: the number; the value, 0 where it has none; what stands in the struct for its result, nothing where it has none;
-- and what the bytes that it was lent hold afterwards (a start's destination, a payload, a network identifier)
pub record NodeOutput : Type 0 where
  pub number : ℕ
  pub value : ℕ
  pub struct : List ℕ
  pub lent : List ℕ

abbrev pub node_output : ℕ → ℕ → List ℕ → List ℕ → NodeOutput
node_output n v w d = record { number = n; value = v; struct = w; lent = d }

-- ---- a call from C on the struct s, by the contract of its function; s' is the struct afterwards. What is only read stays
pub record NodeMade (form role has : ℕ) (x s : List ℕ) (t : NodeOutput) (s' : List ℕ) : Type 0 where
  pub bytes : AllBytes x
  pub makes : Makes form role has x s t.number s'
  pub value : t.value ≡ 0
  pub struct : t.struct ≡ []
  pub lent : t.lent ≡ x

pub record Started (time timeout : ℕ) (d s : List ℕ) (t : NodeOutput) (s' : List ℕ) : Type 0 where
  pub starts : Starts time timeout s d t.number s' t.lent t.value
  pub struct : t.struct ≡ []

pub record Done (c : NodeCall) (s : List ℕ) (t : NodeOutput) (s' : List ℕ) : Type 0 where
  pub does : Does c s t.number s' t.value
  pub struct : t.struct ≡ []
  pub lent : t.lent ≡ lent_to c

pub record Asked (c : NodeCall) (s : List ℕ) (t : NodeOutput) (s' : List ℕ) : Type 0 where
  pub tells : Tells c s t.number t.value
  pub image : s' ≡ s
  pub struct : t.struct ≡ []
  pub lent : t.lent ≡ lent_to c

-- a call that hands back a struct of n bytes is lent one, whatever stood there
pub record Changed (n : ℕ) (c : NodeCall) (s : List ℕ) (t : NodeOutput) (s' : List ℕ) : Type 0 where
  pub before : List ℕ
  pub fits : length before ≡ n
  pub changes : Changes n c s before t.number s' t.struct
  pub value : t.value ≡ 0
  pub lent : t.lent ≡ lent_to c

pub record Given (n : ℕ) (c : NodeCall) (s : List ℕ) (t : NodeOutput) (s' : List ℕ) : Type 0 where
  pub before : List ℕ
  pub fits : length before ≡ n
  pub gives : Gives n c s before t.number t.struct
  pub image : s' ≡ s
  pub value : t.value ≡ 0
  pub lent : t.lent ≡ lent_to c

-- reports have 17 bytes, a frame's key 33
abbrev pub CallDid : NodeCall → List ℕ → NodeOutput → List ℕ → Type 0
CallDid (starting time timeout d) = Started time timeout d
CallDid (polling time) = Done (polling time)
CallDid (delivering delivery time payload) = Changed 17 (delivering delivery time payload)
CallDid (asking time) = Asked (asking time)
CallDid (sending type) = Changed 33 (sending type)
CallDid (receiving type identifier) = Given 33 (receiving type identifier)
CallDid (reporting type identifier) = Done (reporting type identifier)

-- a program can make it: times of eight bytes, payloads of bytes
pub record Called (c : NodeCall) (s : List ℕ) (t : NodeOutput) (s' : List ℕ) : Type 0 where
  pub callable : Callable c
  pub did : CallDid c s t s'

abbrev pub Did : Call → List ℕ → NodeOutput → List ℕ → Type 0
Did (making form role has x) = NodeMade form role has x
Did (calling c) = Called c

-- ---- the node's own calls
pub data Held : Type 0 where
  no_node : Held
  node : Node → Held

abbrev pub identifier : List ℕ → HeldOctets
identifier x = record { held = true; value = record { len = length x; bytes = copied_from x 0 (length x) } }

-- what a make asks for: form 0 is the draft and 1 the published one, 0 says that there is no network identifier and 1 that there is one
abbrev pub asked : ℕ → ℕ → ℕ → List ℕ → MakeResult
asked zero role zero x = made Draft role absent_octets
asked zero role (suc zero) x = made Draft role (identifier x)
asked zero role (suc (suc n)) x = unmade
asked (suc zero) role zero x = made Published role absent_octets
asked (suc zero) role (suc zero) x = made Published role (identifier x)
asked (suc zero) role (suc (suc n)) x = unmade
asked (suc (suc f)) role has x = unmade

-- how long the struct is that a call hands back
abbrev pub struct_size : NodeCall → ℕ
struct_size (starting time timeout d) = 0
struct_size (polling time) = 0
struct_size (delivering delivery time payload) = 17
struct_size (asking time) = 0
struct_size (sending type) = 33
struct_size (receiving type identifier) = 33
struct_size (reporting type identifier) = 0

-- the number of the verdict, the value or struct of the object (refused, all zero), and the lent bytes
abbrev pub told_of : NodeCall → Performed → NodeOutput
told_of c p =
    node_output (verdict_number p.verdict) (value_of p.object)
    (on_accept p.verdict (replicate (struct_size c) 0) (struct_of p.object))
    p.lent

abbrev pub tells : Call → Held → NodeOutput
tells (making form role has x) h = node_output (verdict_number (asked form role has x).verdict) 0 [] x
tells (calling c) no_node = node_output (verdict_number (Err Range)) 0 (replicate (struct_size c) 0) (lent_to c)
tells (calling c) (node n) = told_of c (perform c n)

abbrev pub after : Call → Held → Held
after (making form role has x) h = on_accept (asked form role has x).verdict no_node (node (asked form role has x).node)
after (calling c) no_node = no_node
after (calling c) (node n) = node (perform c n).node

-- the image of a node; all zero, which no call takes for one, where there is none
abbrev pub shown : Held → List ℕ
shown no_node = replicate 878 0
shown (node n) = node_image.put n

pub record NodeRuns : Type 0 where
  -- from a make on, which goes by no earlier node, so any may stand in h
  pub from-make : (form role has : ℕ) (x : List ℕ) (cs : List Call) (h : Held) (s : List ℕ) (ts : List NodeOutput) (z : List ℕ)
      → length s ≡ 878
      → Runs Did (making form role has x ∷ cs) s ts z → As tells after shown (making form role has x ∷ cs) h ts z
  -- from any image on, whoever stored it
  pub from-image : (cs : List Call) (s : List ℕ) (ts : List NodeOutput) (z : List ℕ) → AllBytes s → is_image node_image s ≡ true
      → Runs Did cs s ts z → As tells after shown cs (node (node_image.get s)) ts z
