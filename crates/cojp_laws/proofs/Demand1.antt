-- A plan that is answered by a refusal is that refusal, or bytes that have no room;
-- each test that refuses gives its number before the next is asked.
use Rattle.std.specs.Prelude.{Ok, Err}
use Prim.Native.Nat.{ℕ}
use mathlib.Core.Path.{◌≡◌, refl, ap}
use mathlib.Core.Bool.{Bool, true, false, cond, not}
use mathlib.Core.List.{List, [], ◌∷◌, ◌++◌}
use native.Mathlib.Omega.{arith}
use borrow.Author.Tests.{le-leb, lt-leb, ltb-true, ltb-false}
use lib.Dec.{leb, ltb}
use lib.ListN.{length, drop}
use Rattle.refusal.specs.Order.{refused_if, in_order}
use Rattle.refusal.specs.declared.Refusal.{Refusal}
use Rattle.refusal.specs.declared.Refusal.TheVariants.{Room, Range}
use Rattle.byte_io.specs.Write.{Plan, refuse, emit, answer, written_says}
use Rattle.cbor.specs.Encode.{shortest, encode, encode_pairs}
use Rattle.cbor.specs.Item.{map_item}
use Rattle.cojp.specs.Reading.{if_taken}
use Rattle.cojp.specs.Request.{owing}
use Rattle.cojp.specs.Writing.{octets_pairs, owing_plan, fits, request_pairs, request_in_range, request_plan}
use Rattle.cojp.specs.Writing.{configuration_pairs, configuration_in_range, configuration_plan}
use Rattle.cojp.specs.declared.list.ListParameter.{ListParameter}
use Rattle.cojp.specs.declared.disposition.Disposition.{Disposition}
use Rattle.cojp.specs.declared.disposition.Disposition.TheVariants.{Absent, Taken, Discarded}
use Rattle.cojp_write.specs.octets.Plan.{string_in_range, octets_plan, array_bytes, list_bytes, list_fits, array_plan, list_parameter_plan}
use Rattle.cojp_laws.specs.Demand1.{number_said, no_room, too_long, Refusing, WritersDemand1}

kept : (b : Bool) (n : ℕ) (k : Refusal) (d e : List ℕ) → cond b (Ok n) (Err Room) ≡ Err k → cond b e d ≡ d
kept true n k d e h = absurd (let z : ◌≡◌ {A = ℕ} 0 1 = cc in omega arith)
kept false n k d e h = refl

unchanged : (plan : Plan) (d : List ℕ) (k : Refusal) → answer plan d ≡ Err k → Refusing plan d k
unchanged (refuse j) d k e = record { says = ap written_says e; holds = refl }
unchanged (emit p) d k e =
    record { says = ap written_says e; holds = kept (leb (length p) (length d)) (length p) k d (p ++ drop (length p) d) e }

-- ---- the numbers
-- the number where the bytes have room, and where they have none
abbrev said : List ℕ → Bool → ℕ
said p b = (written_says (cond b (Ok (length p)) (Err Room))).0

room_by : (p d : List ℕ) (b : Bool) → no_room p d ≡ b → number_said (emit p) d ≡ in_order (refused_if b 12 ∷ [])
room_by p d true e = ap (said p) (lt-leb (length p) (length d) (ltb-true (length d) (length p) e))
room_by p d false e = ap (said p) (le-leb (length p) (length d) (ltb-false (length d) (length p) e))

-- what has room in a payload is not too long
long-by : (p : List ℕ) (b : Bool) → too_long p ≡ b → leb (length p) 256 ≡ not b
long-by p true e = lt-leb (length p) 256 (ltb-true 256 (length p) e)
long-by p false e = le-leb (length p) 256 (ltb-false 256 (length p) e)

-- RANGE before ROOM, r being the test that refuses
module _ (p d : List ℕ) where
  range-room : (r : Bool) → number_said (cond r (refuse Range) (emit p)) d ≡ in_order (refused_if r 13 ∷ refused_if (no_room p d) 12 ∷ [])
  range-room true = refl
  range-room false = room_by p d (no_room p d) refl

  in-range-room : (r : Bool)
      → number_said (cond r (emit p) (refuse Range)) d ≡ in_order (refused_if (not r) 13 ∷ refused_if (no_room p d) 12 ∷ [])
  in-range-room true = room_by p d (no_room p d) refl
  in-range-room false = refl

  -- and of an object that would be too long
  long-room : (r l : Bool) → too_long p ≡ l
      → number_said (cond r (refuse Range) (fits p)) d ≡ in_order (refused_if r 13 ∷ refused_if l 13 ∷ refused_if (no_room p d) 12 ∷ [])
  long-room true l e = refl
  long-room false true e = rw (long-by p true e)
  long-room false false e = rw (long-by p false e) (room_by p d (no_room p d) refl)

  -- with OWED before ROOM
  owed-room : (r l o : Bool) → too_long p ≡ l
      → number_said (cond r (refuse Range) (owing_plan o (fits p))) d
      ≡ in_order (refused_if r 13 ∷ refused_if l 13 ∷ refused_if o 9 ∷ refused_if (no_room p d) 12 ∷ [])
  owed-room true l o e = refl
  owed-room false true o e = rw (long-by p true e)
  owed-room false false true e = rw (long-by p false e)
  owed-room false false false e = rw (long-by p false e) (room_by p d (no_room p d) refl)

-- a list that is not taken is no byte
list-said : (label : ℕ) (p : ListParameter) (d : List ℕ)
    → number_said (list_parameter_plan label p) d
    ≡ in_order (refused_if (not (list_fits p)) 13 ∷ refused_if (no_room (list_bytes label p) d) 12 ∷ [])
unfolding array_plan
list-said label p d = go p.disposition
  where
    go : (r : Disposition)
        → number_said (if_taken r (array_plan label p.value) (emit [])) d
        ≡ in_order (refused_if (not (if_taken r (leb p.value.len 253) true)) 13
        ∷ refused_if (no_room (if_taken r (array_bytes label p.value) []) d) 12 ∷ [])
    go Absent = in-range-room [] d true
    go Taken = in-range-room (array_bytes label p.value) d (leb p.value.len 253)
    go Discarded = in-range-room [] d true

pub writers-demand1 : WritersDemand1
unfolding request_plan configuration_plan octets_plan
writers-demand1 = record {
  refusing = unchanged;
  head-number = λ major n d. range-room (shortest major n) d (ltb 7 major);
  string-number = λ label p d. in-range-room (encode_pairs (octets_pairs label p)) d (string_in_range label p);
  list-number = list-said;
  request-number = λ v q d. let p = encode (map_item (request_pairs q)) in
      owed-room p d (not (request_in_range v q)) (too_long p) (owing v q.role q.network.disposition) refl;
  configuration-number = λ v c d. let p = encode (map_item (configuration_pairs c)) in
      long-room p d (not (configuration_in_range v c)) (too_long p) refl;
}
