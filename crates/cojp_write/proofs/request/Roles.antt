-- Role 0 is omitted, role 1 takes two bytes.
use Prim.Native.Nat.{ℕ, ◌+◌, ◌-◌, ◌≤◌}
use mathlib.Core.Path.{◌≡◌, refl, ap}
use native.Mathlib.Omega.{arith}
use borrow.Author.Tests.{eq-eqb, ne_eqb}
use mathlib.Core.List.{List, ◌++◌}
use lib.ListN.{length, take, drop}
use Rattle.byte_io.specs.Write.{Wrote}
use Rattle.cbor.specs.Encode.{shortest, encode_pairs}
use Rattle.cbor.specs.HeadLaws.{HeadLaws}
use Rattle.cbor.specs.Item.{Pairs, unsigned, empty}
use Rattle.cojp.specs.Writing.{labelled, role_pairs}
use Rattle.cojp_write.specs.octets.Size.{PairsSize}
use Rattle.cojp_write.proofs.octets.Joined.{labelled-length, labelled-seam}

pub role-none : (n : ℕ) → n ≡ 0 → role_pairs n ≡ empty
role-none n e = simp (eq-eqb n 0 e)

pub role-pair : (n : ℕ) → (n ≡ 0 → ⊥) → role_pairs n ≡ labelled 1 (unsigned n)
role-pair n e = simp (ne_eqb n 0 e)

module _ (heads : HeadLaws) where
  pub role-size : (n : ℕ) → (n ≡ 0 → ⊥) → n ≤ 1 → PairsSize (role_pairs n) 1 2 (record { members = 1; bytes = 2 })
  role-size n e h = rw (role-pair n e) (record {
    members = refl;
    bytes = omega (arith, labelled-length 1 (unsigned n), heads.short-head 0 1 (omega arith), heads.short-head 0 n (omega arith));
    few = omega arith;
    small = omega arith;
  })

  -- the label was written to d, which then was d', and the role to the part after it, which then was e
  pub role-wrote : (n : ℕ) {d d' e : List ℕ} {m k : ℕ} → (n ≡ 0 → ⊥) → length (encode_pairs (role_pairs n)) ≤ length d
      → Wrote (shortest 0 1) d m d' → Wrote (shortest 0 n) (take (length d' - m) (drop m d')) k e
      → Wrote (encode_pairs (role_pairs n)) d (m + k) (take m d' ++ (e ++ drop (length d' - m) (drop m d')))
  role-wrote n f h w v =
      let pair = role-pair n f in
      rw pair
      (labelled-seam 1 (unsigned n) (omega (arith, labelled-length 1 (unsigned n), ap (λ (ps : Pairs). length (encode_pairs ps)) pair)) w v)
