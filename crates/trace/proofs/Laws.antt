-- What the code of a step answers at each of its ends is what the definition says: one law for each end.
use Prim.Native.Nat.{ℕ, ◌+◌, ◌-◌}
use mathlib.Core.Path.{◌≡◌}
use mathlib.Core.Bool.{true, false}
use mathlib.Core.List.{List}
use native.Mathlib.Omega.{arith}
use lib.ListN.{take, drop}
use lib.Seq.{drop-drop}
use Rattle.node_parameters.specs.declared.octets.HeldOctets.{HeldOctets}
use Rattle.trace_record.specs.Layout.{EntryAt}
use Rattle.trace_record.specs.declared.entries.Entry.{Entry}
use Rattle.trace_record.specs.declared.entries.Entry.TheVariants.{End, Bad, New, Start, JoinAnswer, Update, Verified, Poll}
use Rattle.trace.specs.Trace.{Record, new_node, start, join_answer, update, verified, poll}
use Rattle.trace.specs.Trace.{size_of, got, network_in, reading_of, reading, is_admissible}
use Rattle.trace.specs.Calls.{call_of}
use Rattle.trace.specs.Step.{after_call, stepped, advance, step}
use Rattle.trace.specs.declared.done.CallResult.{CallResult}
use Rattle.trace.specs.declared.state.Progress.TheVariants.{Complete, Stopped, Walked}
use Rattle.trace.specs.declared.state.State.{State}
use Rattle.trace.specs.declared.state.StepResult.{StepResult}

-- ---- a record
module _ (r : Record) (at : ℕ) (s : State) where
  pub stops : (x : StepResult) → is_admissible s.made r ≡ false → x ≡ stepped Stopped at s → x ≡ advance (got r) at s
  unfolding advance
  stops x e f = rw e f

  pub walks :
      (x : StepResult) → is_admissible s.made r ≡ true → (d : CallResult) → d ≡ call_of r s.node → (t : State) → t ≡ after_call r d s →
      (n : ℕ) → n ≡ at + size_of r → x ≡ stepped Walked n t → x ≡ advance (got r) at s
  unfolding advance
  walks x e d f t g n h k = rw (e, ← f, ← g, ← h) k

-- ---- what stands at a place
module _ (s : List ℕ) (at : ℕ) (st : State) (e : Entry) (f : EntryAt s at e) (x : StepResult) where
  by-entry : x ≡ advance (reading_of (drop at s) e) at st → x ≡ step s at st
  unfolding step reading
  by-entry g = rw (← f.says) g

  pub steps-end : e ≡ End → x ≡ stepped Complete at st → x ≡ step s at st
  unfolding advance
  steps-end g h = by-entry (rw g h)

  pub steps-bad : e ≡ Bad → x ≡ stepped Stopped at st → x ≡ step s at st
  unfolding advance
  steps-bad g h = by-entry (rw g h)

  pub steps-new :
      (role len : ℕ) (network : HeldOctets) → e ≡ New role len → network ≡ network_in len (drop (at + 3) s) →
      x ≡ advance (got (new_node role network)) at st → x ≡ step s at st
  steps-new role len network g n h = by-entry (rw (g, drop-drop 3 at s, ← n) h)

  pub steps-start : (time timeout : ℕ) → e ≡ Start time timeout → x ≡ advance (got (start time timeout)) at st → x ≡ step s at st
  steps-start time timeout g h = by-entry (rw g h)

  pub steps-answer :
      (time len : ℕ) (payload : List ℕ) → e ≡ JoinAnswer time len → payload ≡ take len (drop (at + 11) s) →
      x ≡ advance (got (join_answer time payload)) at st → x ≡ step s at st
  steps-answer time len payload g p h = by-entry (rw (g, drop-drop 11 at s, ← p) h)

  pub steps-update :
      (time len : ℕ) (payload : List ℕ) → e ≡ Update time len → payload ≡ take len (drop (at + 11) s) →
      x ≡ advance (got (update time payload)) at st → x ≡ step s at st
  steps-update time len payload g p h = by-entry (rw (g, drop-drop 11 at s, ← p) h)

  pub steps-verified : (type identifier : ℕ) → e ≡ Verified type identifier → x ≡ advance (got (verified type identifier)) at st
      → x ≡ step s at st
  steps-verified type identifier g h = by-entry (rw g h)

  pub steps-poll : (time : ℕ) → e ≡ Poll time → x ≡ advance (got (poll time)) at st → x ≡ step s at st
  steps-poll time g h = by-entry (rw g h)

-- the part of the trace that is lent as a payload
pub part-is : (s : List ℕ) (from len : ℕ) → take (from + len - from) (drop from s) ≡ take len (drop from s)
part-is s from len = let e : from + len - from ≡ len = omega arith in rw e
