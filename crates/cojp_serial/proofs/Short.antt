-- A short store is the first thing that a part or an end looks at: its course is outside, and it leaves what the caller has as it was.
use Rattle.std.specs.Prelude.{Err}
use Prim.Native.Nat.{ℕ, ◌<◌}
use mathlib.Core.Path.{◌≡◌, refl, ap, sym, ◌∙◌}
use mathlib.Core.List.{List, [], ◌∷◌}
use lib.ListN.{length}
use Rattle.refusal.specs.declared.Refusal.TheVariants.{Range}
use Rattle.cojp_serial.specs.Calls.{Reader, request, configuration, SerialCall, resetting, sending, ending, Held, decision_on}
use Rattle.cojp_serial.specs.Calls.{told, left, left_by, answers, verdict_in, verdicts}
use Rattle.cojp_serial.specs.Laws.{NoReset, no-calls, part-next, end-next, short_verdicts, ShortStoreIsRange}
use Rattle.cojp_serial.specs.declared.state.PartDecision.TheVariants.{Outside}
use Rattle.cojp_serial.proofs.Courses.{store-short}
use Rattle.cojp_serial.proofs.Unread.{both}

-- ---- one call
outside : (h : Held) (n : ℕ) → length h.store < 256 → decision_on h n ≡ Outside
outside h n s = sym (store-short h.state (length h.store) n s)

pub part-range : (h : Held) (p : List ℕ) → length h.store < 256 → verdict_in (told (sending p) h) ≡ Err Range
part-range h p s = rw (outside h (length p) s)

pub end-range : (h : Held) (r : Reader) → length h.store < 256 → verdict_in (told (ending r) h) ≡ Err Range
end-range h (request v strict) s = rw (outside h 0 s)
end-range h (configuration v strict) s = rw (outside h 0 s)

pub part-leaves : (h : Held) (p : List ℕ) → length h.store < 256 → left (sending p) h ≡ h
part-leaves h p s = rw (outside h (length p) s)

pub end_leaves : (h : Held) (r : Reader) → length h.store < 256 → left (ending r) h ≡ h
end_leaves h r s = rw (outside h 0 s)

-- ---- many calls
all-range : (cs : List SerialCall) (h : Held) → length h.store < 256 → verdicts (answers cs h) ≡ short_verdicts cs
all-range [] h s = refl
all-range (resetting ∷ cs) h s = both refl (all-range cs (left resetting h) s)
all-range (sending p ∷ cs) h s = both (part-range h p s) (ap (λ (g : Held). verdicts (answers cs g)) (part-leaves h p s) ∙ all-range cs h s)
all-range (ending r ∷ cs) h s = both (end-range h r s) (ap (λ (g : Held). verdicts (answers cs g)) (end_leaves h r s) ∙ all-range cs h s)

store_kept : (cs : List SerialCall) (h : Held) → length h.store < 256 → (left_by cs h).store ≡ h.store
store_kept [] h s = refl
store_kept (resetting ∷ cs) h s = store_kept cs (left resetting h) s
store_kept (sending p ∷ cs) h s = ap (λ (g : Held). (left_by cs g).store) (part-leaves h p s) ∙ store_kept cs h s
store_kept (ending r ∷ cs) h s = ap (λ (g : Held). (left_by cs g).store) (end_leaves h r s) ∙ store_kept cs h s

arrival-kept : (cs : List SerialCall) (h : Held) → length h.store < 256 → NoReset cs → (left_by cs h).state ≡ h.state
arrival-kept [] h s no-calls = refl
arrival-kept (resetting ∷ cs) h s q = elim q [ ]
arrival-kept (sending p ∷ cs) h s (part-next q) = ap (λ (g : Held). (left_by cs g).state) (part-leaves h p s) ∙ arrival-kept cs h s q
arrival-kept (ending r ∷ cs) h s (end-next q) = ap (λ (g : Held). (left_by cs g).state) (end_leaves h r s) ∙ arrival-kept cs h s q

pub short-store-is-range : ShortStoreIsRange
short-store-is-range h cs s = record { says = all-range cs h s; store = store_kept cs h s; state = arrival-kept cs h s }
