-- A taken short address is one pair: its label and an array of its bytes and perhaps a lease.
use Prim.Native.Nat.{ℕ, ◌+◌, ◌-◌, ◌≤◌}
use mathlib.Core.Path.{◌≡◌, refl, ap, sym, ◌∙◌}
use mathlib.Core.Bool.{Bool, true, false}
use mathlib.Core.List.{List, ◌++◌, append_assoc}
use native.Mathlib.Omega.{arith}
use lib.ListN.{length, take, drop, length-append}
use Rattle.byte_io.specs.Write.{Wrote}
use Rattle.byte_io.specs.WriteLemmas.{seam}
use Rattle.cbor.specs.Encode.{shortest, encode, encodes, encode_pairs}
use Rattle.cbor.specs.HeadLaws.{HeadLaws}
use Rattle.cbor.specs.Item.{bytes, array, empty, count}
use Rattle.cojp.specs.Reading.{if_taken}
use Rattle.cojp.specs.Writing.{labelled, lease_items, address_pairs}
use Rattle.cojp.specs.declared.address.AddressParameter.{AddressParameter}
use Rattle.cojp.specs.declared.address.ShortAddress.{ShortAddress}
use Rattle.cojp_write.specs.configuration.Room.{address_items, address_length}
use Rattle.cojp_write.specs.octets.Size.{ItemsSize, PairsSize}
use Rattle.cojp_write.specs.declared.octets.size.Size.{Size}
use Rattle.cojp_write.proofs.octets.Joined.{array-bytes}
use Rattle.cojp_write.proofs.octets.Strings.{string-length}
use Rattle.cojp_write.proofs.range.Taken.{taken_is}

-- ---- its members: the bytes, and perhaps a lease
module _ (a : ShortAddress) (m : ℕ) (e : m ≡ count (address_items a)) where
  place-bytes : encode_pairs (labelled 3 (array (address_items a)))
      ≡ ((shortest 0 3 ++ shortest 4 m) ++ encode (bytes a.bytes)) ++ encodes (lease_items a.leased a.lease)
  place-bytes =
      array-bytes 3 (address_items a)
      ∙ rw (← e)
      (sym (append_assoc (shortest 0 3 ++ shortest 4 m) (encode (bytes a.bytes)) (encodes (lease_items a.leased a.lease))))

  pub place-length : length (encode_pairs (labelled 3 (array (address_items a)))) ≡ address_length a m
  place-length = ap length place-bytes ∙ simp length-append (omega arith)

  pub place-seam : {d d' f : List ℕ} {n k : ℕ} → address_length a m ≤ length d
      → Wrote ((shortest 0 3 ++ shortest 4 m) ++ encode (bytes a.bytes)) d n d'
      → Wrote (encodes (lease_items a.leased a.lease)) (take (length d' - n) (drop n d')) k f
      → Wrote (encode_pairs (labelled 3 (array (address_items a)))) d (n + k) (take n d' ++ (f ++ drop (length d' - n) (drop n d')))
  place-seam h w v = rw place-bytes (seam (omega (arith, length-append (shortest 0 3 ++ shortest 4 m) (encode (bytes a.bytes)))) w v)

-- ---- the parameter
module _ (p : AddressParameter) (t : Bool) (e : t ≡ if_taken p.disposition true false) (h : t ≡ true) where
  pub address-taken : address_pairs p ≡ labelled 3 (array (address_items p.value))
  address-taken = taken_is p.disposition (labelled 3 (array (address_items p.value))) empty t e h

  pub address-size : HeadLaws → {r : Size} → length p.value.bytes ≡ 2
      → ItemsSize (lease_items p.value.leased p.value.lease) 1 9 r
      → PairsSize (address_pairs p) 1 14 (record { members = 1; bytes = 5 + r.bytes })
  address-size heads two z =
      let m = count (address_items p.value) in
      rw address-taken (record {
        members = refl;
        bytes = omega (
          arith,
          place-length p.value m refl,
          length-append (shortest 0 3) (shortest 4 m),
          heads.short-head 0 3 (omega arith),
          heads.short-head 4 m (omega (arith, z.members, z.few)),
          string-length heads p.value.bytes (omega arith),
          z.bytes,
        );
        few = omega arith;
        small = omega (arith, z.small);
      })
