-- A list is kept if reading it again gives it.
use Prim.Native.Nat.{◌≤◌, ◌<◌}
use mathlib.Core.Path.{◌≡◌, refl}
use mathlib.Core.Bool.{Bool, true, false, cond}
use mathlib.Core.List.{List}
use native.Mathlib.Omega.{arith}
use lib.Dec.{leb}
use lib.ListN.{length, drop}
use borrow.Author.Tests.{le-leb, lt-leb, eq-eqb, ne_eqb, leb-true}
use Rattle.cbor.specs.View.{Scalar}
use Rattle.lemmas.specs.lists.Same.{same}
use Rattle.cojp.specs.Bytes.{members_at}
use Rattle.cojp.specs.Lists.{Picked, nothing, picked, fitting, written, list_answer, bytes_in, same_as, kept}
use Rattle.cojp.specs.declared.list.ItemList.{ItemList}
use Rattle.cojp.specs.declared.list.ListRead.{ListRead}

-- ---- the returns of `same_as`
module _ (r : ListRead) (l : ItemList) where
  pub same-bad : r.good ≡ false → false ≡ same_as r l
  unfolding same_as
  same-bad e = rw e

  module _ (e : r.good ≡ true) where
    pub same-counts : ¬ (r.value.count ≡ l.count) → false ≡ same_as r l
    unfolding same_as
    same-counts h = rw (e, ne_eqb r.value.count l.count h)

    pub same_parts : r.value.count ≡ l.count → (b : Bool) → b ≡ same (bytes_in r.value) (bytes_in l) → b ≡ same_as r l
    unfolding same_as
    same_parts h b f = rw (e, eq-eqb r.value.count l.count h) f

-- ---- the returns of the range tests
-- what is read is no longer than its array
pub list-small : (q : Picked) (r : ListRead) → r ≡ list_answer (fitting 253 q) → r.value.len ≤ 253
list-small nothing r e = rw e (omega arith)
list-small (picked ps) r e = rw e (go (leb (length (written ps)) 253) refl)
  where
    go : (b : Bool) → leb (length (written ps)) 253 ≡ b → (list_answer (cond b (picked ps) nothing)).value.len ≤ 253
    go true f = leb-true (length (written ps)) 253 f
    go false f = omega arith

module _ (f : List Scalar → Picked) (l : ItemList) where
  pub kept-long : 253 < l.len → false ≡ kept f l
  unfolding kept
  kept-long h = rw (lt-leb l.len 253 h)

  pub kept_again : l.len ≤ 253 → (r : ListRead) → r ≡ list_answer (fitting 253 (f (members_at l.count (drop 0 (bytes_in l))))) → (b : Bool)
      → b ≡ same_as r l → b ≡ kept f l
  unfolding kept
  kept_again h r e b g = rw (le-leb l.len 253 h, ← e) g
