-- Each record takes the bytes from its place on, so the next begins behind it, and the walk ends before the count of bytes does.
use Prim.Native.Nat.{ℕ, zero, suc, ◌+◌, ◌≤◌, ◌<◌}
use mathlib.Core.Path.{◌≡◌, refl, sym, ◌∙◌}
use mathlib.Core.Bool.{Bool, true, false, cond}
use mathlib.Core.List.{List, [], ◌∷◌}
use native.Mathlib.Omega.{arith}
use lib.ListN.{length, take, drop, get_or, length-drop}
use lib.Seq.{drop-drop}
use Rattle.trace_record.specs.Layout.{entry, kind_number, says_record, EntriesSay}
use Rattle.trace_record.specs.declared.entries.Entry.{Entry}
use Rattle.trace_record.specs.declared.entries.Entry.TheVariants as entries
use Rattle.trace.specs.Trace.{Record, new_node, start, join_answer, update, verified, poll, kind_of, size_of, network_in}
use Rattle.trace.specs.Trace.{Reading, end, bad, got, reading_of, reading, is_admissible, stop, then, parse_by, parse_from, parse}
use Rattle.trace.specs.Contiguous.{ContiguousFrom, RecordsContiguous}
use Rattle.trace.proofs.Turns.{Taken, taken}

-- ---- the first byte of a record that is read is the number of its kind
kind-of : (s : List ℕ) (e : Entry) (r : Record) → reading_of s e ≡ got r → kind_number e ≡ kind_of r
kind-of s entries.End r h = let z : ◌≡◌ {A = ℕ} 0 1 = cc in absurd (omega arith)
kind-of s entries.Bad r h = let z : ◌≡◌ {A = ℕ} 0 1 = cc in absurd (omega arith)
kind-of s (entries.New role len) r h = let q : new_node role (network_in len (drop 3 s)) ≡ r = cc in rw (← q)
kind-of s (entries.Start time timeout) r h = let q : start time timeout ≡ r = cc in rw (← q)
kind-of s (entries.JoinAnswer time len) r h = let q : join_answer time (take len (drop 11 s)) ≡ r = cc in rw (← q)
kind-of s (entries.Update time len) r h = let q : update time (take len (drop 11 s)) ≡ r = cc in rw (← q)
kind-of s (entries.Verified type identifier) r h = let q : verified type identifier ≡ r = cc in rw (← q)
kind-of s (entries.Poll time) r h = let q : poll time ≡ r = cc in rw (← q)

some-kind : (r : Record) → kind_of r ≡ 0 → ⊥
some-kind (new_node role network) e = omega arith
some-kind (start time timeout) e = omega arith
some-kind (join_answer time payload) e = omega arith
some-kind (update time payload) e = omega arith
some-kind (verified type identifier) e = omega arith
some-kind (poll time) e = omega arith

first_of : (s : List ℕ) (e : Entry) (k : ℕ) → says_record s e → kind_number e ≡ k → (k ≡ 0 → ⊥) → get_or s 0 0 ≡ k
first_of [] e k h q n = absurd (n (sym q ∙ h))
first_of (x ∷ s) e k h q n = sym (h (λ (z : kind_number e ≡ 0). n (sym q ∙ z))).kind-is ∙ q

pub first_byte : EntriesSay → (s : List ℕ) (r : Record) → reading s ≡ got r → get_or s 0 0 ≡ kind_of r
unfolding reading
first_byte law s r h = first_of s (entry s) (kind_of r) (law s) (kind-of s (entry s) r h) (some-kind r)

module _ (law : EntriesSay) (trace : List ℕ) where
  -- the trace behind a record at a place
  abbrev Behind : ℕ → ℕ → Record → Type 0
  Behind f at r = ContiguousFrom trace true (at + size_of r) (parse_from f true (at + size_of r) (drop (size_of r) (drop at trace)))

  by-record :
      (f : ℕ) (made : Bool) (at : ℕ) (r : Record) (b : Bool) → reading (drop at trace) ≡ got r → is_admissible made r ≡ b → Behind f at r →
      ContiguousFrom trace made at (cond b (then at r (parse_from f true (at + size_of r) (drop (size_of r) (drop at trace)))) (stop at))
  by-record f made at r true e m h = (refl, e, first_byte law (drop at trace) r e, m, h)
  by-record f made at r false e m h = (refl, rw e m)

  by-reading :
      (f : ℕ) (made : Bool) (at : ℕ) (g : Reading) → reading (drop at trace) ≡ g → Taken g (length (drop at trace)) → at ≤ length trace →
      ((r : Record) → (3 ≤ size_of r) × (size_of r ≤ length (drop at trace)) → Behind f at r) →
      ContiguousFrom trace made at (parse_by (parse_from f true) made g at (drop at trace))
  by-reading f made at end e t i next = (refl, omega (arith, t, length-drop at trace))
  by-reading f made at bad e t i next = (refl, rw e tt)
  by-reading f made at (got r) e t i next = by-record f made at r (is_admissible made r) e refl (next r t)

  stands :
      (most : ℕ) (made : Bool) (at : ℕ) → at ≤ length trace → length trace < at + most →
      ContiguousFrom trace made at (parse_from most made at (drop at trace))
  unfolding parse_from
  stands zero made at i l = absurd (omega arith)
  stands (suc f) made at i l =
      by-reading f made at (reading (drop at trace)) refl (taken (drop at trace)) i
      (λ r t. rw (drop-drop (size_of r) at trace)
      (stands f true (at + size_of r) (omega (arith, t.0, t.1, length-drop at trace)) (omega (arith, t.0))))

pub standing : EntriesSay → RecordsContiguous
unfolding parse
standing law trace = stands law trace (suc (length trace)) false 0 (omega arith) (omega arith)
