-- What the reader of join requests takes is in range of its form, and it owes nothing. Of configurations cojp's ReadsInRange speaks, of the
-- ordinary reading alone; WrittenBack says of both readings that what they take can be written.
use Rattle.std.specs.Prelude.{ℕ, ◌≡◌, Bool, true, false, List, Ok}
use Rattle.cbor.specs.Laws.{Bytes}
use Rattle.cbor.specs.Strict.{head_by}
use Rattle.cojp.specs.Request.{owing, read_request_by}
use Rattle.cojp.specs.Writing.{request_in_range}
use Rattle.cojp.specs.declared.request.JoinRequest.{JoinRequest}
use Rattle.protocol_version.specs.declared.Version.{Version}

pub record RequestInRange (v : Version) (q : JoinRequest) : Type 0 where
  pub in-range : request_in_range v q ≡ true
  pub owes_nothing : owing v q.role q.network.disposition ≡ false

-- either form, read strictly or not; a payload is bytes
abbrev pub RequestReadsInRange : Type 0
RequestReadsInRange =
    (v : Version) (strict : Bool) (p : List ℕ) → Bytes p → (read_request_by v (head_by strict) p).verdict ≡ Ok tt →
    RequestInRange v (read_request_by v (head_by strict) p).request
