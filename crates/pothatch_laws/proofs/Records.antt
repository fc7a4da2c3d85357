-- The records of a trace of bytes hold what C could have handed in, and lie inside the trace: a record's kind fixes its fields' sizes, and
-- it is read only where it is there whole.
use Prim.Native.Nat.{ℕ, zero, suc, ◌+◌, ◌*◌, ◌-◌, ◌^◌, ◌<◌, ◌≤◌}
use mathlib.Core.Bool.{Bool, true, false, cond}
use mathlib.Core.List.{List, [], ◌∷◌}
use mathlib.Core.Path.{◌≡◌, refl, sym, subst}
use native.Mathlib.Omega.{arith}
use borrow.Author.Tests.{leb-true, le-leb}
use lib.Dec.{leb, eqb}
use lib.ListN.{length, take, drop, get_or, length-drop, length-take}
use lib.Seq.{get_or-drop, take-length}
use Rattle.image.specs.Numbers.{below}
use Rattle.image.specs.Part.{AllBytes}
use Rattle.byte_io.specs.BigEndian.{digits}
use Rattle.cojp.specs.Octets.{octets_of}
use Rattle.node_calls.specs.Calls.{network_of}
use Rattle.node_parameters.specs.Octets.{absent_octets}
use Rattle.node_parameters.specs.declared.octets.HeldOctets.{HeldOctets}
use Rattle.trace.specs.Trace.{Record, new_node, start, join_answer, update, verified, poll}
use Rattle.trace.specs.Trace.{size_of, Reading, end, bad, got, network_in, reading_of, reading}
use Rattle.trace.specs.Trace.{Trace, over, stop, then, records_in, end_of}
use Rattle.trace.specs.Contiguous.{ContiguousFrom}
use Rattle.trace_record.specs.Layout as layout
use Rattle.trace_record.specs.Layout.{big_endian_on, number, blank, body_size, is_network_length}
use Rattle.trace_record.specs.Layout.{network_used, delivery, delivery_of, fields, entry}
use Rattle.trace_record.specs.declared.entries.Entry.{Entry}
use Rattle.pothatch_laws.proofs.Cases.{either}

-- ---- what a record holds
-- a network identifier as C hands it to a node that is made
pub record Named (h : HeldOctets) : Type 0 where
  pub has : ℕ
  pub bytes : List ℕ
  pub are : AllBytes bytes
  pub same : h ≡ network_of has bytes

abbrev pub RecordFits : Record → Type 0
RecordFits (new_node role network) = Named network
RecordFits (start time timeout) = (time < 256 ^ 8) × (timeout < 256 ^ 8)
RecordFits (join_answer time payload) = (time < 256 ^ 8) × AllBytes payload
RecordFits (update time payload) = (time < 256 ^ 8) × AllBytes payload
RecordFits (verified type identifier) = type < 256
RecordFits (poll time) = time < 256 ^ 8

-- and that it is there whole, n bytes being left
abbrev ReadingFits : ℕ → Reading → Type 0
ReadingFits n end = Unit {0}
ReadingFits n bad = Unit {0}
ReadingFits n (got r) = RecordFits r × ((1 ≤ size_of r) × (size_of r ≤ n))

-- ---- bytes
pub dropped : (n : ℕ) (s : List ℕ) → AllBytes s → AllBytes (drop n s)
dropped n s b i = subst (λ (x : ℕ). x < 256) (sym (get_or-drop n s i 0)) (b (n + i))

pub taken : (n : ℕ) (s : List ℕ) → AllBytes s → AllBytes (take n s)
taken zero s b i = omega arith
taken (suc n) [] b i = omega arith
taken (suc n) (x ∷ s) b zero = b 0
taken (suc n) (x ∷ s) b (suc i) = taken n s (λ j. b (suc j)) i

as-digits : (v : ℕ) (s : List ℕ) → big_endian_on v s ≡ digits v s
unfolding digits
as-digits v [] = refl
as-digits v (x ∷ s) = as-digits (v * 256 + x) s

number-below : (k : ℕ) (s : List ℕ) → AllBytes s → k ≤ length s → number k s < 256 ^ k
unfolding number
number-below k s b h = subst (λ (x : ℕ). x < 256 ^ k) (sym (as-digits 0 (take k s))) (below s k b h)

-- ---- a network identifier of at most 16 bytes
named-bytes : (x : List ℕ) → AllBytes x → length x ≤ 16 → Named (record { held = true; value = octets_of x })
named-bytes x b h = record {
  has = 1;
  bytes = x;
  are = b;
  same = rw (le-leb (length x) 16 h, le-leb (0 + length x) (length x) (omega arith), take-length x);
}

named : (len : ℕ) (s : List ℕ) → AllBytes s → is_network_length len ≡ true → Named (network_in len s)
named len s b h = by (eqb len 255) refl
  where
    by : (none : Bool) → eqb len 255 ≡ none → Named (cond none absent_octets (record { held = true; value = octets_of (take len s) }))
    by true e = record { has = 0; bytes = []; are = λ i. omega arith; same = refl }
    by false e =
        let short : leb len 16 ≡ true = rw e at h in
        named-bytes (take len s) (taken len s b) (omega (arith, leb-true len 16 short, length-take len s))

-- ---- what stands behind a byte of kind
module _ (k : ℕ) (b : List ℕ) (all : AllBytes (k ∷ b)) where
  abbrev In : Entry → Type 0
  In e = ReadingFits (suc (length b)) (reading_of (k ∷ b) e)

  body : AllBytes b
  body i = all (suc i)

  new_in : 18 ≤ length b → In (layout.new_node b)
  unfolding layout.new_node
  new_in h =
      let len = get_or b 1 0 in
      let used = network_used len in
      either In (leb (get_or b 0 0) 1)
      (λ _. either In (is_network_length len)
      (λ l. either In (blank (16 - used) (drop (2 + used) b))
      (λ _. (named len (drop 2 b) (dropped 2 b body) l, (omega arith, omega arith)))
      (λ _. tt))
      (λ _. tt))
      (λ _. tt)

  start-in : 12 ≤ length b → In (layout.start b)
  start-in h =
      let low : number 4 (drop 8 b) < 256 ^ 4 = number-below 4 (drop 8 b) (dropped 8 b body) (omega (arith, length-drop 8 b)) in
      ((number-below 8 b body (omega arith), omega arith), (omega arith, omega arith))

  delivered-in : (later : Bool) (time len : ℕ) → 266 ≤ length b → time < 256 ^ 8 → In (delivery_of later time len)
  delivered-in true time len h t = ((t, taken len (drop 10 b) (dropped 10 b body)), (omega arith, omega arith))
  delivered-in false time len h t = ((t, taken len (drop 10 b) (dropped 10 b body)), (omega arith, omega arith))

  delivery-in : (later : Bool) → 266 ≤ length b → In (delivery (delivery_of later) b)
  unfolding delivery
  delivery-in later h =
      let len = number 2 (drop 8 b) in
      either In (leb len 256)
      (λ _. either In (blank (256 - len) (drop (10 + len) b))
      (λ _. delivered-in later (number 8 b) len h (number-below 8 b body (omega arith)))
      (λ _. tt))
      (λ _. tt)

  verified-in : 2 ≤ length b → In (layout.verified b)
  unfolding layout.verified
  verified-in h = either In (leb (get_or b 0 0) 1) (λ _. (body 0, (omega arith, omega arith))) (λ _. tt)

  fields_in : body_size k ≤ length b → In (fields k b)
  unfolding fields
  fields_in h =
      either In (eqb k 1) (λ e. new_in (rw e at h))
      (λ e₁. either In (eqb k 2) (λ e. start-in (rw (e₁, e) at h))
      (λ e₂. either In (eqb k 3) (λ e. delivery-in false (rw (e₁, e₂, e) at h))
      (λ e₃. either In (eqb k 4) (λ e. delivery-in true (rw (e₁, e₂, e₃, e) at h))
      (λ e₄. either In (eqb k 5) (λ e. verified-in (rw (e₁, e₂, e₃, e₄, e) at h))
      (λ e₅. either In (eqb k 6)
      (λ e. let whole : 8 ≤ length b = rw (e₁, e₂, e₃, e₄, e₅, e) at h in (number-below 8 b body whole, (omega arith, omega arith)))
      (λ _. tt))))))

reading-fits : (s : List ℕ) → AllBytes s → ReadingFits (length s) (reading s)
unfolding reading entry
reading-fits [] all = tt
reading-fits (k ∷ b) all =
    either (λ (e : Entry). ReadingFits (suc (length b)) (reading_of (k ∷ b) e)) (leb (body_size k) (length b))
    (λ l. fields_in k b all (leb-true (body_size k) (length b) l))
    (λ _. tt)

-- ---- the night: its records fit, and it ends inside the trace
pub data AllFit : List Record → Type 0 where
  none_read : AllFit []
  next-read : {r : Record} {rs : List Record} → RecordFits r → AllFit rs → AllFit (r ∷ rs)

pub record TraceValid (t : List ℕ) (at : ℕ) (n : Trace) : Type 0 where
  pub records : AllFit (records_in n)
  pub few : at + length (records_in n) ≤ length t
  pub inside : end_of n ≤ length t

module _ (t : List ℕ) (b : AllBytes t) where
  pub trace-fits : (n : Trace) (made : Bool) (at : ℕ) → at ≤ length t → ContiguousFrom t made at n → TraceValid t at n
  trace-fits (over place) made at h s = record { records = none_read; few = omega arith; inside = omega (arith, s.0) }
  trace-fits (stop place) made at h s = record { records = none_read; few = omega arith; inside = omega (arith, s.0) }
  trace-fits (then place r rest) made at h s =
      let here : ReadingFits (length (drop at t)) (got r) =
      subst (ReadingFits (length (drop at t))) s.1 (reading-fits (drop at t) (dropped at t b)) in
      let size = here.1.1 in
      let after = trace-fits rest true (at + size_of r) (omega (arith, size, length-drop at t)) s.4 in
      record { records = next-read here.0 after.records; few = omega (arith, after.few, here.1.0); inside = after.inside }
