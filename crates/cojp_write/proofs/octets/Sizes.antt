-- Sizes add up as what they are the sizes of is joined.
use Prim.Native.Nat.{ℕ, ◌+◌, ◌≤◌}
use mathlib.Core.Path.{◌≡◌, refl, ap}
use mathlib.Core.Bool.{Bool, true, false}
use mathlib.Core.List.{List, [], ◌++◌, append-nil}
use native.Mathlib.Omega.{arith}
use lib.ListN.{length, length-append}
use Rattle.cbor.specs.Encode.{encodes, encode_pairs, extra_of, shortest}
use Rattle.cbor.specs.HeadLaws.{HeadLaws}
use Rattle.cbor.specs.Item.{Items, Pairs, empty, count_pairs}
use Rattle.cojp.specs.Writing.{join, chain, lease_items}
use Rattle.cojp_write.specs.octets.Size.{Sizes, ItemsSize, PairsSize, Sum}
use Rattle.cojp_write.specs.declared.octets.size.Size.{Size}
use Rattle.cojp.specs.WritingLemmas.{join-bytes, join-count, chain-bytes, chain-count}

pub sizes-append : {a b k l m n : ℕ} {p q : List ℕ} {r s t : Size} → Sizes a p k m r → Sizes b q l n s → Sum r s t
    → Sizes (a + b) (p ++ q) (k + l) (m + n) t
sizes-append {p = p} {q = q} x y z = record {
  members = omega (arith, x.members, y.members, z.members);
  bytes = omega (arith, x.bytes, y.bytes, z.bytes, length-append p q);
  few = omega (arith, x.few, y.few, z.members);
  small = omega (arith, x.small, y.small, z.bytes);
}

pub sizes-join : (a b : Pairs) {k l m n : ℕ} {r s t : Size} → PairsSize a k m r → PairsSize b l n s → Sum r s t
    → PairsSize (join a b) (k + l) (m + n) t
sizes-join a b x y z = rw (join-count a b, join-bytes a b) (sizes-append x y z)

pub sizes-chain : (a b : Items) {k l m n : ℕ} {r s t : Size} → ItemsSize a k m r → ItemsSize b l n s → Sum r s t
    → ItemsSize (chain a b) (k + l) (m + n) t
sizes-chain a b x y z = rw (chain-count a b, chain-bytes a b) (sizes-append x y z)

-- the size of pairs by other names of their number and bytes
pub pairs-size : (ps : Pairs) {n k m : ℕ} {b : List ℕ} {r : Size} → count_pairs ps ≡ n → encode_pairs ps ≡ b → Sizes n b k m r
    → PairsSize ps k m r
pairs-size ps e f z = rw (e, f) z

-- a looser bound
pub sizes-most : {a k m : ℕ} {p : List ℕ} {r : Size} (l n : ℕ) → k ≤ l → m ≤ n → Sizes a p k m r → Sizes a p l n r
sizes-most l n h f z = record { members = z.members; bytes = z.bytes; few = omega (arith, z.few); small = omega (arith, z.small) }

-- what is not there
pub size_none : (k m : ℕ) {ps : Pairs} {r : Size} → ps ≡ empty → Sizes 0 [] 0 0 r → PairsSize ps k m r
size_none k m e z = rw e (sizes-most k m (omega arith) (omega arith) z)

-- ---- a number that may be left out
pub optional-bytes : (t : Bool) (n : ℕ) → t ≡ true → encodes (lease_items t n) ≡ shortest 0 n
optional-bytes t n e = rw e (append-nil (shortest 0 n))

pub optional-given : HeadLaws → (t : Bool) (n h : ℕ) → t ≡ true → h ≡ extra_of n + 1
    → ItemsSize (lease_items t n) 1 9 (record { members = 1; bytes = h })
optional-given heads t n h e f = rw e (record {
  members = refl;
  bytes = omega (arith, ap length (append-nil (shortest 0 n)), heads.length-head 0 n);
  few = omega arith;
  small = omega (arith, heads.extra-most n);
})

pub optional-missing : (t : Bool) (n : ℕ) {r : Size} → t ≡ false → Sizes 0 [] 0 0 r → ItemsSize (lease_items t n) 1 9 r
optional-missing t n e z = rw e (sizes-most 1 9 (omega arith) (omega arith) z)
