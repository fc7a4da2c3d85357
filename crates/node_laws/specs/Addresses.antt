-- FFFE and FFFF at a node: whatever calls a valid node is handed, in any order, it comes to hold neither.
use Rattle.std.specs.Prelude.{ℕ, ◌≡◌, true, List, [], ◌∷◌, replicate, Ok}
use Rattle.refusal.specs.Verdict.{verdict_number}
use Rattle.short_address.specs.Address.{Reserved}
use Rattle.cojp.specs.Octets.{octets_of}
use Rattle.cojp.specs.declared.disposition.Disposition.TheVariants.{Discarded}
use Rattle.protocol_version.specs.declared.Version.{Version}
use Rattle.protocol_version.specs.declared.Version.TheVariants.{Draft}
use Rattle.node_attempt.specs.declared.delivery.Delivery.TheVariants.{JoinAnswer, Update}
use Rattle.node_parameters.specs.declared.octets.HeldOctets.{HeldOctets}
use Rattle.node.specs.Delivery.{deliver}
use Rattle.node.specs.Node.{made}
use Rattle.node.specs.Range.{Valid}
use Rattle.node.specs.declared.node.Node.{Node}
use Rattle.node_laws.specs.Calls.{NodeCall, starting, delivering, perform}

-- the node after these calls, refused ones among them
abbrev pub after_calls : List NodeCall → Node → Node
after_calls [] n = n
after_calls (c ∷ cs) n = after_calls cs (perform c n).node

pub record HoldsReserved (n : Node) : Type 0 where
  pub held : n.address.held ≡ true
  pub reserved : Reserved n.address.value.bytes

pub record NodeAddresses : Type 0 where
  pub none-held : (cs : List NodeCall) (n : Node) → Valid n → HoldsReserved (after_calls cs n) → ⊥
  -- a node that is made, or the empty one beside a refusal, is valid (made-valid of `NodeLaws`)
  pub none_made :
      (cs : List NodeCall) (version : Version) (role : ℕ) (network : HeldOctets) →
      HoldsReserved (after_calls cs (made version role network).node) → ⊥
  -- handed in with one of the two, a node answers RANGE (13)
  pub range : (c : NodeCall) (n : Node) → HoldsReserved n → verdict_number (perform c n).verdict ≡ 13

-- ---- a node that is made, starts, and joins with the address FFFD, the last one; then updates bring FFFE with a lease, and FFFF
abbrev pub cafe : HeldOctets
cafe = record { held = true; value = octets_of (0xCA ∷ 0xFE ∷ []) }

abbrev pub addressed : ℕ → List ℕ
addressed low = 0xA1 ∷ 0x03 ∷ 0x81 ∷ 0x42 ∷ 0xFF ∷ low ∷ []

abbrev pub leased : List ℕ
leased = 0xA1 ∷ 0x03 ∷ 0x82 ∷ 0x42 ∷ 0xFF ∷ 0xFE ∷ 0x0A ∷ []

abbrev pub joined : Node
joined = after_calls (starting 0 10000 (replicate 16 0) ∷ delivering JoinAnswer 1000 (addressed 0xFD) ∷ []) (made Draft 0 cafe).node

abbrev pub updates : List NodeCall
updates = delivering Update 2000 leased ∷ delivering Update 3000 (addressed 0xFF) ∷ []

pub record AddressesExample : Type 0 where
  pub valid : Valid joined
  pub taken : joined.address.held ≡ true
  pub bytes : joined.address.value.bytes ≡ 0xFF ∷ 0xFD ∷ []
  -- accepted and reported as discarded; the address stays, with its time of receipt
  pub accepted : (deliver Update joined 2000 leased).verdict ≡ Ok tt
  pub discarded : (deliver Update joined 2000 leased).dispositions.address ≡ Discarded
  pub kept : (after_calls updates joined).address ≡ joined.address
  pub received : (after_calls updates joined).address.received ≡ 1000
