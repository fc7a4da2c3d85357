-- A list judged on its bytes.
use Rattle.std.specs.Prelude.{ℕ, ◌+◌, Bool, false, cond, ◌&&◌, List, eqb, ltb, length, get_or}
use Rattle.lemmas.specs.lists.Same.{same}
use Rattle.cojp.specs.Lists.{Picked, nothing, picked, written}
use Rattle.cojp.specs.declared.list.ItemList.{ItemList}

-- so many members in these bytes
abbrev pub list_in : ℕ → List ℕ → ItemList
list_in count s = record { count = count; len = length s; bytes = s }

-- the head at a place is the shortest of a byte string of n bytes
abbrev pub short_at : List ℕ → ℕ → ℕ → Bool
short_at s at n = cond (ltb n 24) (eqb (get_or s at 0) (64 + n)) (eqb (get_or s at 0) 88 && eqb (get_or s (at + 1) 0) n)

-- n members were picked, and they are written as these bytes
abbrev pub made_of : Picked → ℕ → List ℕ → Bool
made_of nothing n t = false
made_of (picked ps) n t = (eqb (length ps) n && same (written ps) t)
