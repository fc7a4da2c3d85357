-- Whether a node's short address holds.
use Rattle.refusal.specs.declared.Refusal.{Refusal}
use Rattle.std.specs.Prelude.{ℕ, Bool, true, false, cond, leb, Result, Ok, Err}
use Rattle.refusal.specs.Refusal.{number_of}
use Rattle.refusal.specs.declared.Refusal.TheVariants as refusal
use Rattle.refusal.specs.Verdict.{Verdict}
use Rattle.node_parameters.specs.Lease.{holds_at}
use Rattle.node.specs.Node.{clock_of}
use Rattle.node.specs.Range.{valid}
use Rattle.node.specs.declared.lease.LeaseStatus.{LeaseStatus}
use Rattle.node.specs.declared.lease.LeaseStatus.TheVariants.{Valid, Expired}
use Rattle.node.specs.declared.node.Node.{Node}

-- RANGE: the node; CLOCK; the question changes nothing
unfoldable pub holds : Node → ℕ → Result LeaseStatus Refusal
holds n time =
    cond (valid n) (cond (leb (clock_of n) time) (cond (holds_at n.version n.address time) (Ok Valid) (Ok Expired)) (Err refusal.Clock))
    (Err refusal.Range)

-- the answer in document 01's terms
abbrev pub holding_verdict : Result LeaseStatus Refusal → Verdict
holding_verdict (Err k) = Err k
holding_verdict (Ok Valid) = Ok tt
holding_verdict (Ok Expired) = Ok tt

abbrev pub holding_number : Result LeaseStatus Refusal → ℕ
holding_number (Err k) = number_of k
holding_number (Ok Valid) = 0
holding_number (Ok Expired) = 0

-- yes, and no
abbrev pub holds_now : Result LeaseStatus Refusal → Bool
holds_now (Err k) = false
holds_now (Ok Valid) = true
holds_now (Ok Expired) = false
