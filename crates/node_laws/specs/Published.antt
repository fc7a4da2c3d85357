-- An update to a node of the published form (document 02, request 11): a key set that clashes is bad, and all else in the payload is
-- applied; and how long the address in it holds, by a lease in hours.
use Rattle.std.specs.Prelude.{ℕ, ◌+◌, ◌≡◌, List, [], ◌∷◌, ◌++◌, replicate, Ok}
use Rattle.std.proofs.Math.Option.{some}
use Rattle.link_key.specs.Key.{key_of}
use Rattle.cojp.specs.ErrorReports.{error_report_of, error_report_list}
use Rattle.cojp.specs.declared.disposition.Disposition.TheVariants.{Discarded}
use Rattle.node_attempt.specs.declared.delivery.Delivery.TheVariants.{Update}
use Rattle.node.specs.Delivery.{deliver}
use Rattle.node.specs.Lease.{holds}
use Rattle.node.specs.Node.{active_of, pending_of}
use Rattle.node.specs.declared.delivery.DeliveryResult.{DeliveryResult}
use Rattle.node.specs.declared.lease.LeaseStatus.TheVariants.{Valid, Expired}
use Rattle.node.specs.declared.node.Node.{Node}
use Rattle.node_laws.specs.Addresses.{after_calls}
use Rattle.node_laws.specs.Calls.{delivering}
use Rattle.node_laws.specs.Reports.{one_key, member}
use Rattle.node_laws.specs.Same.{address_held, list_held, rate_held}

-- an ordinary node with the key of identifier 1 active gets one of identifier 2, which is pending
abbrev pub rekeyed : Node
rekeyed = after_calls (delivering Update 2000 (0xA1 ∷ one_key 2 0x22) ∷ []) member

-- an EUI-64 as an entry of a blacklist
abbrev pub eui : List ℕ
eui = 0x48 ∷ replicate 8 0x0B

-- another key of identifier 1, the address 0007 with this lease, a blacklist of one entry, and the join rate 500
abbrev pub mixed : List ℕ → List ℕ
mixed lease =
    0xA4 ∷ (one_key 1 0x33 ++ (0x03 ∷ 0x82 ∷ 0x42 ∷ 0x00 ∷ 0x07 ∷ (lease ++ (0x06 ∷ 0x81 ∷ (eui ++ (0x07 ∷ 0x19 ∷ 0x01 ∷ 0xF4 ∷ []))))))

-- what the node answers to it, and the node afterwards
abbrev pub updated_with : List ℕ → DeliveryResult
updated_with lease = deliver Update rekeyed 3000 (mixed lease)

-- leases of 1 and of 2^64 − 1 hours
abbrev pub an_hour : List ℕ
an_hour = 0x01 ∷ []

abbrev pub longest : List ℕ
longest = 0x1B ∷ replicate 8 0xFF

-- the node's two keys in their places
pub record TwoKeys (n : Node) : Type 0 where
  pub active : active_of n ≡ key_of 1 0 (replicate 16 0x11) ∷ []
  pub pending : pending_of n ≡ key_of 2 0 (replicate 16 0x22) ∷ []

pub record PublishedExample : Type 0 where
  pub before : TwoKeys rekeyed
  -- accepted; the key set is not taken, both sets stay, and this alone is reported, as malformed
  pub accepted : (updated_with an_hour).verdict ≡ Ok tt
  pub keys : (updated_with an_hour).dispositions.keys ≡ Discarded
  pub after : TwoKeys (updated_with an_hour).node
  pub reported : error_report_list (updated_with an_hour).node.errors ≡ error_report_of 1 2 ∷ []
  -- all else is taken
  pub address : address_held (updated_with an_hour).node.address ≡ some (0x00 ∷ 0x07 ∷ [], some 1, 3000)
  pub blacklist : list_held (updated_with an_hour).node.blacklist ≡ some (1, eui)
  pub rate : rate_held (updated_with an_hour).node.rate ≡ some 500
  -- an hour is 3,600,000 ms, from the receipt; the longest lease holds at the last time there is
  pub lasts : holds (updated_with an_hour).node (3000 + 3599999) ≡ Ok Valid
  pub ends : holds (updated_with an_hour).node (3000 + 3600000) ≡ Ok Expired
  pub always : holds (updated_with longest).node 18446744073709551615 ≡ Ok Valid
