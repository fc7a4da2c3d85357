-- A record that is read lies inside the trace, and its lengths are within its fields:
-- its kind's body was found whole, and the lengths were tested.
use Prim.Native.Nat.{ℕ, suc, ◌+◌, ◌-◌, ◌≤◌}
use mathlib.Core.Path.{◌≡◌, sym, subst}
use mathlib.Core.Bool.{Bool, true, false, cond}
use mathlib.Core.List.{List, [], ◌∷◌}
use native.Mathlib.Omega.{arith}
use lib.Dec.{leb, eqb}
use lib.ListN.{length, drop, get_or, length-drop}
use borrow.Author.Tests.{leb-true}
use Rattle.trace_record.specs.Layout.{number, blank, body_size, is_network_length, network_used, new_node, start}
use Rattle.trace_record.specs.Layout.{delivery, delivery_of, verified, poll, fields, entry, Inside, says_record, EntryAt}
use Rattle.trace_record.specs.declared.entries.Entry.{Entry}
use Rattle.trace_record.specs.declared.entries.Entry.TheVariants.{End, Bad, New, Start, JoinAnswer, Update, Verified, Poll}
use Rattle.trace_record.proofs.Ends.{used-fits}
use Rattle.trace_record.proofs.Saying.{either, entries-say}

module _ (b : List ℕ) where
  abbrev In : Entry → Type 0
  In e = Inside 0 (suc (length b)) e

  new-room : 18 ≤ length b → In (new_node b)
  unfolding new_node
  new-room h =
      let used = network_used (get_or b 1 0) in
      let rest = cond (blank (16 - used) (drop (2 + used) b)) (New (get_or b 0 0) (get_or b 1 0)) Bad in
      either In (leb (get_or b 0 0) 1) (cond (is_network_length (get_or b 1 0)) rest Bad) Bad
      (λ _. either In (is_network_length (get_or b 1 0)) rest Bad
      (λ l. either In (blank (16 - used) (drop (2 + used) b)) (New (get_or b 0 0) (get_or b 1 0)) Bad
      (λ _. (omega arith, used-fits (get_or b 1 0) l)) (λ _. tt))
      (λ _. tt))
      (λ _. tt)

  delivered-room : (update : Bool) (time len : ℕ) → 266 ≤ length b → len ≤ 256 → In (delivery_of update time len)
  delivered-room true time len h l = (omega arith, l)
  delivered-room false time len h l = (omega arith, l)

  delivery-room : (update : Bool) → 266 ≤ length b → In (delivery (delivery_of update) b)
  unfolding delivery
  delivery-room update h =
      let len = number 2 (drop 8 b) in
      let unused = blank (256 - len) (drop (10 + len) b) in
      let it = delivery_of update (number 8 b) len in
      either In (leb len 256) (cond unused it Bad) Bad
      (λ l. either In unused it Bad (λ _. delivered-room update (number 8 b) len h (leb-true _ _ l)) (λ _. tt))
      (λ _. tt)

  verified-room : 2 ≤ length b → In (verified b)
  unfolding verified
  verified-room h = either In (leb (get_or b 0 0) 1) (Verified (get_or b 0 0) (get_or b 1 0)) Bad (λ _. omega arith) (λ _. tt)

  fields-room : (k : ℕ) → body_size k ≤ length b → In (fields k b)
  unfolding fields
  fields-room k h =
      let from6 = cond (eqb k 6) (poll b) Bad in
      let from5 = cond (eqb k 5) (verified b) from6 in
      let from4 = cond (eqb k 4) (delivery (delivery_of true) b) from5 in
      let from3 = cond (eqb k 3) (delivery (delivery_of false) b) from4 in
      let from2 = cond (eqb k 2) (start b) from3 in
      either In (eqb k 1) (new_node b) from2 (λ e. new-room (rw e at h)) (λ e₁.
      either In (eqb k 2) (start b) from3 (λ e. let g = rw (e₁, e) at h in omega arith) (λ e₂.
      either In (eqb k 3) (delivery (delivery_of false) b) from4 (λ e. delivery-room false (rw (e₁, e₂, e) at h)) (λ e₃.
      either In (eqb k 4) (delivery (delivery_of true) b) from5 (λ e. delivery-room true (rw (e₁, e₂, e₃, e) at h)) (λ e₄.
      either In (eqb k 5) (verified b) from6 (λ e. verified-room (rw (e₁, e₂, e₃, e₄, e) at h)) (λ e₅.
      either In (eqb k 6) (poll b) Bad (λ e. let g = rw (e₁, e₂, e₃, e₄, e₅, e) at h in omega arith) (λ _. tt))))))

pub roomy : (s : List ℕ) → Inside 0 (length s) (entry s)
unfolding entry
roomy [] = omega arith
roomy (k ∷ b) =
    either (λ (e : Entry). Inside 0 (suc (length b)) e) (leb (body_size k) (length b)) (fields k b) Bad
    (λ l. fields-room b k (leb-true _ _ l))
    (λ _. tt)

-- the same at a place
moved : (n at : ℕ) (e : Entry) → Inside 0 (n - at) e → Inside at n e
moved n at End h = omega arith
moved n at Bad h = tt
moved n at (New role len) h = (omega (arith, h.0), h.1)
moved n at (Start time timeout) h = omega arith
moved n at (JoinAnswer time len) h = (omega (arith, h.0), h.1)
moved n at (Update time len) h = (omega (arith, h.0), h.1)
moved n at (Verified type identifier) h = omega arith
moved n at (Poll time) h = omega arith

pub read_at : (s : List ℕ) (at : ℕ) (e : Entry) → e ≡ entry (drop at s) → EntryAt s at e
read_at s at e f = record {
  says = f;
  table = subst (says_record (drop at s)) (sym f) (entries-say (drop at s));
  inside = moved (length s) at e (rw (f, ← length-drop at s) (roomy (drop at s)));
}
