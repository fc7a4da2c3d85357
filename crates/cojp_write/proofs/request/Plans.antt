-- The plan of a join request: RANGE, also over 256 bytes, OWED, or the bytes of the map.
use Rattle.std.specs.Prelude.{Result, Err}
use Rattle.refusal.specs.declared.Refusal.{Refusal}
use mathlib.Core.Path.{◌≡◌}
use mathlib.Core.Bool.{Bool, true, false}
use mathlib.Core.List.{List}
use Prim.Native.Nat.{ℕ}
use Rattle.refusal.specs.declared.Refusal.TheVariants.{Range, Owed}
use Rattle.byte_io.specs.Write.{Plan, Did, refuse, emit}
use Rattle.cbor.specs.Encode.{encode}
use Rattle.cbor.specs.Item.{map_item}
use Rattle.byte_io.specs.WriteLemmas.{did-refuse}
use Rattle.cojp.specs.Request.{owing}
use Rattle.cojp.specs.Writing.{fits, owing_plan, request_pairs, request_in_range, request_plan}
use Rattle.cojp.specs.declared.request.JoinRequest.{JoinRequest}
use Rattle.protocol_version.specs.declared.Version.{Version}

-- what is in range
module _ (owed : Bool) {p : Plan} where
  pub owing-over : (d : List ℕ) → p ≡ refuse Range → Did (owing_plan owed p) d (Err Range) d
  owing-over d e = rw e (did-refuse Range d)

  module _ {s : List ℕ} (e : p ≡ emit s) where
    pub owing-owed : (d : List ℕ) → owed ≡ true → Did (owing_plan owed p) d (Err Owed) d
    owing-owed d h = rw (e, h) (did-refuse Owed d)

    pub owing-emit : {d d' : List ℕ} {r : Result ℕ Refusal} → owed ≡ false → Did (emit s) d r d' → Did (owing_plan owed p) d r d'
    owing-emit h w = rw (e, h) w

module _ (v : Version) (q : JoinRequest) where
  pub request-range : (d : List ℕ) → request_in_range v q ≡ false → Did (request_plan v q) d (Err Range) d
  unfolding request_plan
  request-range d h = simp h (did-refuse Range d)

  pub request-emit : {owed : Bool} {d d' : List ℕ} {r : Result ℕ Refusal} → request_in_range v q ≡ true
      → owed ≡ owing v q.role q.network.disposition
      → Did (owing_plan owed (fits (encode (map_item (request_pairs q))))) d r d' → Did (request_plan v q) d r d'
  unfolding request_plan
  request-emit h e w = simp h (rw e at w)
