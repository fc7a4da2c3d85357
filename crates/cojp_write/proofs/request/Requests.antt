-- A join request's pairs are the role, the network identifier, and the list of reports as it is kept.
use Prim.Native.Nat.{ℕ, ◌+◌, ◌≤◌}
use mathlib.Core.Path.{◌≡◌, ap, ◌∙◌}
use mathlib.Core.List.{List, ◌++◌, append_assoc}
use native.Mathlib.Omega.{arith}
use lib.ListN.{length, length-append}
use Rattle.byte_io.specs.Write.{Wrote}
use Rattle.cbor.specs.Encode.{shortest, encode, encode_pairs}
use Rattle.cbor.specs.HeadLaws.{HeadLaws}
use Rattle.cbor.specs.Item.{Pairs, map_item, count_pairs}
use Rattle.cojp.specs.Lists.{error_reports_in, at_least_one}
use Rattle.cojp.specs.Writing.{join, role_pairs, octets_pairs, list_pairs, request_pairs}
use Rattle.cojp.specs.declared.request.JoinRequest.{JoinRequest}
use Rattle.cojp_list.specs.Laws.{ListWritten}
use Rattle.cojp_write.specs.octets.Fits.{RequestFits}
use Rattle.cojp_write.specs.octets.Plan.{list_bytes}
use Rattle.cojp_write.specs.octets.Size.{Sizes, PairsSize}
use Rattle.cojp_write.specs.declared.octets.size.Size.{Size}
use Rattle.cojp.specs.WritingLemmas.{join-bytes, join-count, join-length}
use Rattle.cojp_write.proofs.octets.Lists.{list-bytes, list_count_lem}
use Rattle.cojp_write.proofs.octets.Maps.{map-wrote}
use Rattle.cojp_write.proofs.octets.Sizes.{pairs-size}
use Rattle.cojp_write.specs.request.Room.{request_count, request_bytes, request_length}

module _ (q : JoinRequest) where
  abbrev front : Pairs
  front = join (role_pairs q.role) (octets_pairs 5 q.network)

  request-count : count_pairs (request_pairs q) ≡ request_count q
  request-count =
      join-count front (list_pairs 8 (at_least_one error_reports_in) q.unsupported)
      ∙ ap (λ (n : ℕ). count_pairs front + n) (list_count_lem (at_least_one error_reports_in) 8 q.unsupported)

  request-bytes : ListWritten (at_least_one error_reports_in) → RequestFits q → encode_pairs (request_pairs q) ≡ request_bytes q
  request-bytes law f =
      join-bytes front (list_pairs 8 (at_least_one error_reports_in) q.unsupported)
      ∙ ap (λ (s : List ℕ). encode_pairs front ++ s) (list-bytes (at_least_one error_reports_in) law 8 q.unsupported f.unsupported)

  pub request-length : (m : ℕ) → length (shortest 5 m) + length (request_bytes q) ≡ request_length q m
  request-length m =
      omega (
        arith,
        length-append (encode_pairs front) (list_bytes 8 q.unsupported),
        join-length (role_pairs q.role) (octets_pairs 5 q.network),
      )

  parts : (m : ℕ)
      → shortest 5 m ++ request_bytes q
      ≡ ((shortest 5 m ++ encode_pairs (role_pairs q.role)) ++ encode_pairs (octets_pairs 5 q.network)) ++ list_bytes 8 q.unsupported
  parts m = simp (join-bytes, append_assoc)

  pub request-wrote : (m : ℕ) {d d' : List ℕ} {n : ℕ}
      → Wrote (((shortest 5 m ++ encode_pairs (role_pairs q.role)) ++ encode_pairs (octets_pairs 5 q.network))
      ++ list_bytes 8 q.unsupported) d n d'
      → Wrote (shortest 5 m ++ request_bytes q) d n d'
  request-wrote m w = rw (parts m) w

  -- ---- the size, as that of the pairs
  module _ (law : ListWritten (at_least_one error_reports_in)) (f : RequestFits q) {s : Size}
      (z : Sizes (request_count q) (request_bytes q) 3 299 s) where
    pub request-sized : PairsSize (request_pairs q) 3 299 s
    request-sized = pairs-size (request_pairs q) request-count (request-bytes law f) z

    pub request-room : HeadLaws → (d : List ℕ) → 1 + s.bytes ≤ length d → request_length q s.members ≤ length d
    request-room heads d h = omega (arith, z.bytes, request-length s.members, heads.short-head 5 s.members (omega (arith, z.few)))

    pub request-map : {d d' : List ℕ} {n : ℕ} → Wrote (shortest 5 s.members ++ request_bytes q) d n d'
        → Wrote (encode (map_item (request_pairs q))) d n d'
    request-map w = map-wrote (request_pairs q) request-sized.members (request-bytes law f) w
