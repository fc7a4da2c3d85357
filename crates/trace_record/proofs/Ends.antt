-- What the code answers of a record at each of its ends is what the definition says: one law for each end.
-- s is the trace, and the body begins at `at`.
use Prim.Native.Nat.{ℕ, ◌+◌, ◌-◌, ◌≤◌, ◌<◌}
use mathlib.Core.Path.{◌≡◌, refl, sym, ◌∙◌, ap}
use mathlib.Core.Bool.{Bool, true, false}
use mathlib.Core.List.{List, [], ◌∷◌}
use native.Mathlib.Omega.{arith}
use native.Mathlib.Numerals.{add-one}
use lib.Dec.{eqb}
use lib.ListN.{length, drop, get_or, length-drop}
use lib.Seq.{drop-cons, drop-drop, get_or-drop}
use borrow.Author.Tests.{le-leb, lt-leb, leb-true}
use Rattle.trace_record.specs.Layout.{number, blank, body_size, is_network_length, network_used}
use Rattle.trace_record.specs.Layout.{new_node, delivery, verified, fields, entry}
use Rattle.trace_record.specs.declared.entries.Entry.{Entry}
use Rattle.trace_record.specs.declared.entries.Entry.TheVariants.{End, Bad, New, Verified}

-- a network length that is good leaves room for the identifier
pub used-fits : (len : ℕ) → is_network_length len ≡ true → network_used len ≤ 16
used-fits len e = go (eqb len 255) refl
  where
    go : (b : Bool) → eqb len 255 ≡ b → network_used len ≤ 16
    go true f = rw f (omega arith)
    go false f = rw f (leb-true _ _ (rw f at e))

module _ (s : List ℕ) (at : ℕ) where
  first : get_or (drop at s) 0 0 ≡ get_or s at 0
  first = let e : at + 0 ≡ at = omega arith in get_or-drop at s 0 0 ∙ ap (λ (k : ℕ). get_or s k 0) e

  second : get_or (drop at s) 1 0 ≡ get_or s (at + 1) 0
  second = get_or-drop at s 1 0

  -- the place further on
  further : (n m : ℕ) → at + n ≡ m → drop n (drop at s) ≡ drop m s
  further n m e = drop-drop n at s ∙ ap (λ (k : ℕ). drop k s) e

  -- ---- a verified frame
  pub verified-bad : 1 < get_or s at 0 → Bad ≡ verified (drop at s)
  unfolding verified
  verified-bad h = rw (first, lt-leb (get_or s at 0) 1 h)

  pub verified-good : get_or s at 0 ≤ 1 → Verified (get_or s at 0) (get_or s (at + 1) 0) ≡ verified (drop at s)
  unfolding verified
  verified-good h = rw (first, le-leb (get_or s at 0) 1 h, second)

  -- ---- a join answer or an update
  module _ (kind : ℕ → ℕ → Entry) (len : ℕ) (e : len ≡ number 2 (drop (at + 8) s)) where
    length-is : number 2 (drop 8 (drop at s)) ≡ len
    length-is = ap (number 2) (further 8 (at + 8) refl) ∙ sym e

    pub delivery-long : 256 < len → Bad ≡ delivery kind (drop at s)
    unfolding delivery
    delivery-long h = rw (length-is, lt-leb len 256 h)

    module _ (l : len ≤ 256) (b : Bool) (f : b ≡ blank (256 - len) (drop (at + 10 + len) s)) where
      rest-is : blank (256 - len) (drop (10 + len) (drop at s)) ≡ b
      rest-is = ap (blank (256 - len)) (further (10 + len) (at + 10 + len) (omega arith)) ∙ sym f

      pub delivery-used : b ≡ false → Bad ≡ delivery kind (drop at s)
      unfolding delivery
      delivery-used h = rw (length-is, le-leb len 256 l, rest-is, h)

      pub delivery-good : (time : ℕ) → time ≡ number 8 (drop at s) → b ≡ true → (r : Entry) → r ≡ kind time len
          → r ≡ delivery kind (drop at s)
      unfolding delivery
      delivery-good time t h r g = rw (length-is, le-leb len 256 l, rest-is, h, ← t) g

  -- ---- a new node
  pub new-role : 1 < get_or s at 0 → Bad ≡ new_node (drop at s)
  unfolding new_node
  new-role h = rw (first, lt-leb (get_or s at 0) 1 h)

  module _ (r : get_or s at 0 ≤ 1) where
    pub new-length : is_network_length (get_or s (at + 1) 0) ≡ false → Bad ≡ new_node (drop at s)
    unfolding new_node
    new-length h = rw (first, le-leb (get_or s at 0) 1 r, second, h)

    module _ (l : is_network_length (get_or s (at + 1) 0) ≡ true) (used : ℕ) (u : used ≡ network_used (get_or s (at + 1) 0)) (b : Bool)
        (f : b ≡ blank (16 - used) (drop (at + 2 + used) s)) where
      network-is : blank (16 - used) (drop (2 + used) (drop at s)) ≡ b
      network-is = ap (blank (16 - used)) (further (2 + used) (at + 2 + used) (omega arith)) ∙ sym f

      pub new-used : b ≡ false → Bad ≡ new_node (drop at s)
      unfolding new_node
      new-used h = rw (first, le-leb (get_or s at 0) 1 r, second, l, ← u, network-is, h)

      pub new-good : b ≡ true → New (get_or s at 0) (get_or s (at + 1) 0) ≡ new_node (drop at s)
      unfolding new_node
      new-good h = rw (first, le-leb (get_or s at 0) 1 r, second, l, ← u, network-is, h)

  -- ---- what stands at a place
  pub at-end : length s ≤ at → End ≡ entry (drop at s)
  unfolding entry
  at-end h = rw (past (drop at s) (omega (arith, length-drop at s)))
    where
      past : (l : List ℕ) → length l ≡ 0 → l ≡ []
      past [] e = refl
      past (x ∷ l) e = absurd (omega arith)

  module _ (h : at < length s) where
    here : drop at s ≡ get_or s at 0 ∷ drop (at + 1) s
    here = rw add-one (drop-cons s at 0 h)

    pub at_cut : length s - (at + 1) < body_size (get_or s at 0) → Bad ≡ entry (drop at s)
    unfolding entry
    at_cut l = rw (here, length-drop (at + 1) s, lt-leb (body_size (get_or s at 0)) (length s - (at + 1)) l)

    pub at-record :
        (r : Entry) → body_size (get_or s at 0) ≤ length s - (at + 1) → r ≡ fields (get_or s at 0) (drop (at + 1) s) → r ≡ entry (drop at s)
    unfolding entry
    at-record r l e = rw (here, length-drop (at + 1) s, le-leb (body_size (get_or s at 0)) (length s - (at + 1)) l) e
