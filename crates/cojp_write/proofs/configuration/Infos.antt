-- Additional information is no item, or one byte string of 4 or 8 bytes.
use Prim.Native.Nat.{ℕ, ◌+◌, ◌≤◌}
use mathlib.Core.Path.{◌≡◌, refl, ap, sym, ◌∙◌}
use mathlib.Core.List.{List, [], append-nil}
use native.Mathlib.Omega.{arith}
use lib.ListN.{length, take}
use Rattle.byte_io.specs.Write.{Wrote}
use Rattle.cbor.specs.Encode.{encode, encodes}
use Rattle.cbor.specs.HeadLaws.{HeadLaws}
use Rattle.cbor.specs.Item.{bytes, no_items, more}
use Rattle.link_key.specs.AdditionalInfo.{additional_info_bytes, padded_bytes}
use Rattle.link_key.specs.declared.additional_info.AdditionalInfo.{AdditionalInfo}
use Rattle.link_key.specs.declared.additional_info.AdditionalInfo.TheVariants.{Absent, Four, Eight}
use Rattle.link_key.specs.declared.additional_info.PaddedBytes.{PaddedBytes}
use Rattle.cojp.specs.Writing.{additional_info_items}
use Rattle.cojp_write.specs.octets.Size.{Sizes, ItemsSize}
use Rattle.cojp_write.specs.declared.octets.size.Size.{Size}
use Rattle.cojp_write.proofs.octets.Sizes.{sizes-most}
use Rattle.cojp_write.proofs.octets.Strings.{string-length}

pub info-most : (i : AdditionalInfo) → length (additional_info_bytes i) ≤ 8
info-most Absent = omega arith
info-most (Four a b c d) = omega arith
info-most (Eight a b c d e f g h) = omega arith

none_is : (i : AdditionalInfo) → length (additional_info_bytes i) ≡ 0 → additional_info_items i ≡ no_items
none_is Absent e = refl
none_is (Four a b c d) e = absurd (omega arith)
none_is (Eight a b c d e f g h) z = absurd (omega arith)

string-is : (i : AdditionalInfo) → (length (additional_info_bytes i) ≡ 0 → ⊥)
    → additional_info_items i ≡ more (bytes (additional_info_bytes i)) no_items
string-is Absent f = absurd (f refl)
string-is (Four a b c d) f = refl
string-is (Eight a b c d e f g h) z = refl

-- the bytes as code has them
first-bytes : (i : AdditionalInfo) → take (length (additional_info_bytes i)) (padded_bytes i).bytes ≡ additional_info_bytes i
first-bytes Absent = refl
first-bytes (Four a b c d) = refl
first-bytes (Eight a b c d e f g h) = refl

module _ (i : AdditionalInfo) {s : PaddedBytes} (e : s ≡ padded_bytes i) where
  same_len : s.len ≡ length (additional_info_bytes i)
  same_len = ap (λ (x : PaddedBytes). x.len) e

  pub info-few : s.len ≤ 8
  info-few = omega (arith, same_len, info-most i)

  module _ (h : s.len ≡ 0) where
    pub info-missing : {r : Size} → Sizes 0 [] 0 0 r → ItemsSize (additional_info_items i) 1 9 r
    info-missing z = rw (none_is i (sym same_len ∙ h)) (sizes-most 1 9 (omega arith) (omega arith) z)

    pub info-nothing : {d : List ℕ} → Wrote [] d 0 d → Wrote (encodes (additional_info_items i)) d 0 d
    info-nothing w = rw (none_is i (sym same_len ∙ h)) w

  module _ (h : s.len ≡ 0 → ⊥) where
    given : additional_info_items i ≡ more (bytes (additional_info_bytes i)) no_items
    given = string-is i (λ z. h (same_len ∙ z))

    given-bytes : encodes (additional_info_items i) ≡ encode (bytes (take s.len s.bytes))
    given-bytes = rw (given, e, first-bytes i) (append-nil (encode (bytes (additional_info_bytes i))))

    pub info-given : HeadLaws → ItemsSize (additional_info_items i) 1 9 (record { members = 1; bytes = 1 + s.len })
    info-given heads = rw given (record {
      members = refl;
      bytes = omega (
        arith,
        ap length (append-nil (encode (bytes (additional_info_bytes i)))),
        string-length heads (additional_info_bytes i) (omega (arith, info-most i)),
        same_len,
      );
      few = omega arith;
      small = omega (arith, info-few);
    })

    pub info-room : (n : ℕ) → length (encodes (additional_info_items i)) ≤ n → length (encode (bytes (take s.len s.bytes))) ≤ n
    info-room n l = rw given-bytes at l

    pub info-wrote : {d d' : List ℕ} {n : ℕ} → Wrote (encode (bytes (take s.len s.bytes))) d n d'
        → Wrote (encodes (additional_info_items i)) d n d'
    info-wrote w = rw given-bytes w
