-- A taken join rate is one pair of numbers.
use Prim.Native.Nat.{ℕ, ◌+◌, ◌≤◌}
use mathlib.Core.Path.{◌≡◌, refl}
use mathlib.Core.Bool.{Bool, true, false}
use mathlib.Core.List.{List, ◌++◌}
use native.Mathlib.Omega.{arith}
use lib.ListN.{length}
use Rattle.byte_io.specs.Write.{Wrote}
use Rattle.cbor.specs.Encode.{shortest, encode_pairs, extra_of}
use Rattle.cbor.specs.HeadLaws.{HeadLaws}
use Rattle.cbor.specs.Item.{unsigned, empty}
use Rattle.cojp.specs.Reading.{if_taken}
use Rattle.cojp.specs.Writing.{labelled, rate_pairs}
use Rattle.cojp.specs.declared.rate.RateParameter.{RateParameter}
use Rattle.cojp_write.specs.octets.Size.{PairsSize}
use Rattle.cojp_write.proofs.octets.Joined.{labelled-bytes, labelled-length, same-room}
use Rattle.cojp_write.proofs.range.Taken.{taken_is}

module _ (p : RateParameter) (t : Bool) (e : t ≡ if_taken p.disposition true false) (h : t ≡ true) where
  rate-taken : rate_pairs p ≡ labelled 7 (unsigned p.value)
  rate-taken = taken_is p.disposition (labelled 7 (unsigned p.value)) empty t e h

  pub rate-size : HeadLaws → {n : ℕ} → n ≡ extra_of p.value + 1 → PairsSize (rate_pairs p) 1 10 (record { members = 1; bytes = 1 + n })
  rate-size heads f = rw rate-taken (record {
    members = refl;
    bytes = omega (arith, labelled-length 7 (unsigned p.value), heads.short-head 0 7 (omega arith), heads.length-head 0 p.value);
    few = omega arith;
    small = omega (arith, heads.extra-most p.value);
  })

  pub rate-room : (n : ℕ) → length (encode_pairs (rate_pairs p)) ≤ n → length (shortest 0 7) + length (shortest 0 p.value) ≤ n
  rate-room n l = omega (arith, same-room n rate-taken l, labelled-length 7 (unsigned p.value))

  pub rate-wrote : {d d' : List ℕ} {n : ℕ} → Wrote (shortest 0 7 ++ shortest 0 p.value) d n d' → Wrote (encode_pairs (rate_pairs p)) d n d'
  rate-wrote w = rw (rate-taken, labelled-bytes 7 (unsigned p.value)) w
