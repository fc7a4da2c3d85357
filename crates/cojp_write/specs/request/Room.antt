-- For the contracts of private functions alone: a join request's pairs as its parameters are written, and the room that they take.
use Rattle.std.specs.Prelude.{ℕ, ◌+◌, List, ◌++◌, length}
use Rattle.cbor.specs.Encode.{shortest, encode_pairs}
use Rattle.cbor.specs.Item.{count_pairs}
use Rattle.cojp.specs.Writing.{join, role_pairs, octets_pairs}
use Rattle.cojp.specs.declared.request.JoinRequest.{JoinRequest}
use Rattle.cojp_write.specs.octets.Plan.{list_bytes, list_count}

abbrev pub request_count : JoinRequest → ℕ
request_count q = count_pairs (join (role_pairs q.role) (octets_pairs 5 q.network)) + list_count q.unsupported

abbrev pub request_bytes : JoinRequest → List ℕ
request_bytes q = encode_pairs (join (role_pairs q.role) (octets_pairs 5 q.network)) ++ list_bytes 8 q.unsupported

abbrev pub request_length : JoinRequest → ℕ → ℕ
request_length q members =
    length (shortest 5 members)
    + (length (encode_pairs (role_pairs q.role))
    + (length (encode_pairs (octets_pairs 5 q.network)) + length (list_bytes 8 q.unsupported)))
