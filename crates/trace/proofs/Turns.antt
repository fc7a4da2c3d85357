-- A turn of the walk: what is left to play, at the place and in the state that the last record left, is the whole. A record that is read
-- takes at least 3 bytes and no more than there are, so the walk ends, and the records are few.
use Prim.Native.Nat.{ℕ, zero, suc, ◌+◌, ◌*◌, ◌-◌, ◌≤◌, ◌<◌}
use mathlib.Core.Path.{◌≡◌, refl, sym, subst}
use mathlib.Core.Bool.{Bool, true, false, cond}
use mathlib.Core.List.{List}
use native.Mathlib.Omega.{arith}
use lib.ListN.{length, drop, length-drop}
use lib.Seq.{drop-drop}
use Rattle.trace_record.specs.Layout.{entry, Inside}
use Rattle.trace_record.specs.declared.entries.Entry.{Entry}
use Rattle.trace_record.specs.declared.entries.Entry.TheVariants as entries
use Rattle.trace_record.proofs.Rooms.{roomy}
use Rattle.trace.specs.Trace.{Record, size_of, Reading, end, bad, got, reading_of}
use Rattle.trace.specs.Trace.{reading, is_admissible, Trace, stop, then, parse_by, parse_from, parse, records_in}
use Rattle.trace.specs.Step.{afterwards, walked, nothing_yet, stepped, advance, step, play, played}
use Rattle.trace.specs.declared.state.Progress.{Progress}
use Rattle.trace.specs.declared.state.Progress.TheVariants.{Complete, Stopped, Walked}
use Rattle.trace.specs.declared.state.StepResult.{StepResult}

-- ---- a record takes bytes, and no more than there are
abbrev pub Taken : Reading → ℕ → Type 0
Taken end n = n ≤ 0
Taken bad n = Unit {0}
Taken (got r) n = (3 ≤ size_of r) × (size_of r ≤ n)

taken-by : (s : List ℕ) (e : Entry) → Inside 0 (length s) e → Taken (reading_of s e) (length s)
taken-by s entries.End h = h
taken-by s entries.Bad h = tt
taken-by s (entries.New role len) h = (omega arith, h.0)
taken-by s (entries.Start time timeout) h = (omega arith, h)
taken-by s (entries.JoinAnswer time len) h = (omega arith, h.0)
taken-by s (entries.Update time len) h = (omega arith, h.0)
taken-by s (entries.Verified type identifier) h = (omega arith, h)
taken-by s (entries.Poll time) h = (omega arith, h)

pub taken : (s : List ℕ) → Taken (reading s) (length s)
unfolding reading
taken s = taken-by s (entry s) (roomy s)

-- ---- the records are few
few-then :
    (b : Bool) (at : ℕ) (r : Record) (rest : Trace) (n : ℕ) → 3 ≤ n → 3 * length (records_in rest) + 3 ≤ n →
    3 * length (records_in (cond b (then at r rest) (stop at))) ≤ n
few-then true at r rest n l h = omega arith
few-then false at r rest n l h = omega arith

few-by :
    (rest : ℕ → List ℕ → Trace) → ((at : ℕ) (s : List ℕ) → 3 * length (records_in (rest at s)) ≤ length s) →
    (made : Bool) (g : Reading) (at : ℕ) (s : List ℕ) →
    Taken g (length s) → 3 * length (records_in (parse_by rest made g at s)) ≤ length s
few-by rest h made end at s t = omega arith
few-by rest h made bad at s t = omega arith
few-by rest h made (got r) at s t =
    let l = h (at + size_of r) (drop (size_of r) s) in
    few-then (is_admissible made r) at r (rest (at + size_of r) (drop (size_of r) s)) (length s) (omega (arith, t.0, t.1))
    (omega (arith, t.0, t.1, l, length-drop (size_of r) s))

few : (most : ℕ) (made : Bool) (at : ℕ) (s : List ℕ) → 3 * length (records_in (parse_from most made at s)) ≤ length s
unfolding parse_from
few zero made at s = omega arith
few (suc most) made at s = few-by (parse_from most true) (few most true) made (reading s) at s (taken s)

pub few-records : (trace : List ℕ) → 3 * length (records_in (parse trace)) ≤ length trace
unfolding parse
few-records trace = few (suc (length trace)) false 0 trace

-- ---- the invariant while the walk goes on
pub record Going (s : List ℕ) (x : StepResult) : Type 0 where
  pub most : ℕ
  pub inside : x.next ≤ length s
  pub enough : length s < x.next + most
  pub same : play (parse_from most x.state.made x.next (drop x.next s)) x.state ≡ played s

pub begins : (s : List ℕ) → Going s (stepped Walked 0 nothing_yet)
unfolding played parse
begins s = record { most = suc (length s); inside = omega arith; enough = omega arith; same = refl }

-- ---- and after a turn
abbrev pub Turned : Progress → List ℕ → StepResult → StepResult → Type 0
Turned Complete s x y = y ≡ played s
Turned Stopped s x y = y ≡ played s
Turned Walked s x y = Going s y × (x.next < y.next)

module _ (s : List ℕ) (x : StepResult) where
  abbrev Turns : StepResult → Type 0
  Turns y = Turned y.progress s x y

  by-record :
      (f : ℕ) (r : Record) (b : Bool) → (3 ≤ size_of r) × (size_of r ≤ length (drop x.next s)) → x.next ≤ length s →
      length s < x.next + suc f →
      play (cond b (then x.next r (parse_from f true (x.next + size_of r) (drop (size_of r) (drop x.next s)))) (stop x.next))
      x.state ≡ played s →
      Turns (cond b (stepped Walked (x.next + size_of r) (walked r x.state)) (stepped Stopped x.next x.state))
  unfolding play afterwards
  by-record f r true t i l e = (
    record {
      most = f;
      inside = omega (arith, t.1, length-drop x.next s);
      enough = omega (arith, t.0);
      same = rw (drop-drop (size_of r) x.next s) at e;
    },
    omega (arith, t.0),
  )
  by-record f r false t i l e = e

  by-reading :
      (f : ℕ) (g : Reading) → Taken g (length (drop x.next s)) → x.next ≤ length s → length s < x.next + suc f →
      play (parse_by (parse_from f true) x.state.made g x.next (drop x.next s)) x.state ≡ played s
      → Turns (advance g x.next x.state)
  unfolding advance play
  by-reading f end t i l e = e
  by-reading f bad t i l e = e
  by-reading f (got r) t i l e = by-record f r (is_admissible x.state.made r) t i l e

  by_most :
      (n : ℕ) → x.next ≤ length s → length s < x.next + n →
      play (parse_from n x.state.made x.next (drop x.next s)) x.state ≡ played s → Turns (step s x.next x.state)
  unfolding parse_from step
  by_most zero i l e = absurd (omega arith)
  by_most (suc f) i l e = by-reading f (reading (drop x.next s)) (taken (drop x.next s)) i l e

  turn : Going s x → (y : StepResult) → y ≡ step s x.next x.state → Turned y.progress s x y
  turn g y e = rw e (by_most g.most g.inside g.enough g.same)

-- ---- the loop's invariant, and its measure: what is left of the trace while the walk goes on
abbrev pub Held : Progress → List ℕ → StepResult → Type 0
Held Walked s x = Going s x
Held Complete s x = x ≡ played s
Held Stopped s x = x ≡ played s

abbrev pub left : Progress → List ℕ → StepResult → ℕ
left Walked s x = suc (length s - x.next)
left Complete s x = 0
left Stopped s x = 0

module _ (s : List ℕ) (x y : StepResult) where
  held_by : (p : Progress) → Turned p s x y → Held p s y
  held_by Complete t = t
  held_by Stopped t = t
  held_by Walked t = t.0

  less_by : (p : Progress) → Turned p s x y → left p s y < suc (length s - x.next)
  less_by Complete t = omega arith
  less_by Stopped t = omega arith
  less_by Walked t = omega (arith, t.1, t.0.inside)

  module _ (w : x.progress ≡ Walked) (h : Held x.progress s x) (e : y ≡ step s x.next x.state) where
    going : Going s x
    going = subst (λ (q : Progress). Held q s x) w h

    pub again : Held y.progress s y
    again = held_by y.progress (turn s x going y e)

    pub less : left y.progress s y < left x.progress s x
    less = subst (λ (q : Progress). left y.progress s y < left q s x) (sym w) (less_by y.progress (turn s x going y e))
