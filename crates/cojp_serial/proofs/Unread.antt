-- Two stores that agree in what arrived give a call the same course and the same bytes to read, and agree again afterwards.
use Prim.Native.Nat.{ℕ, ◌+◌, ◌≤◌}
use mathlib.Core.Path.{◌≡◌, refl, ap, sym, ◌∙◌}
use mathlib.Core.List.{List, [], ◌∷◌, ◌++◌}
use native.Mathlib.Omega.{arith}
use lib.Dec.{leb}
use lib.ListN.{length, take}
use Rattle.refusal.specs.declared.Refusal.{Refusal}
use Rattle.cbor.specs.Strict.{head_by}
use Rattle.cojp.specs.Configuration.{refuse_configuration, read_configuration_by}
use Rattle.cojp.specs.Request.{refuse_request, read_request_by}
use Rattle.cojp_serial.specs.State.{empty_state, decision_of, part_answer, part_store, end_state, end_read}
use Rattle.cojp_serial.specs.Calls.{request, configuration, SerialCall, resetting, sending, ending}
use Rattle.cojp_serial.specs.Calls.{SerialResult, join_request, update, Held, told, answers}
use Rattle.cojp_serial.specs.Laws.{BeyondIsUnread, ResetForgets}
use Rattle.cojp_serial.specs.declared.state.SerialState.{SerialState}
use Rattle.cojp_serial.specs.declared.state.PartDecision.{PartDecision}
use Rattle.cojp_serial.specs.declared.state.PartDecision.TheVariants.{Outside, Overrun, Ended, Open}
use Rattle.cojp_serial.proofs.Courses.{open-fits}
use Rattle.cojp_serial.proofs.Stores.{placed-length, placed-take}

abbrev pub hold : SerialState → List ℕ → Held
hold a s = record { state = a; store = s }

record Alike (a : SerialState) (s t : List ℕ) : Type 0 where
  lent : leb 256 (length s) ≡ leb 256 (length t)
  arrived : take a.arrived s ≡ take a.arrived t

pub course-alike : (a : SerialState) (n x y : ℕ) → leb 256 x ≡ leb 256 y → decision_of a x n ≡ decision_of a y n
unfolding decision_of
course-alike a n x y e = rw e

-- ---- a part
room : (a : SerialState) (n lent : ℕ) → decision_of a lent n ≡ Open → a.arrived + n ≤ lent
room a n lent e = let f = open-fits a lent n e in omega (arith, f.room, f.store)

after-part : (a : SerialState) (s t p : List ℕ) (x : PartDecision) → decision_of a (length s) (length p) ≡ x
    → decision_of a (length t) (length p) ≡ x
    → Alike a s t → Alike (part_answer x a (length p)).state (part_store x a.arrived p s) (part_store x a.arrived p t)
after-part a s t p Outside e f w = w
after-part a s t p Overrun e f w = record { lent = w.lent; arrived = w.arrived }
after-part a s t p Ended e f w = w
after-part a s t p Open e f w =
    let i = room a (length p) (length s) e in
    let j = room a (length p) (length t) f in
    record {
      lent = rw (placed-length a.arrived p s i, placed-length a.arrived p t j) w.lent;
      arrived =
          placed-take a.arrived p s i ∙ ap (λ (y : List ℕ). y ++ p) w.arrived ∙ sym (placed-take a.arrived p t j);
    }

-- ---- an end
after-end : (a : SerialState) (s t : List ℕ) (x : PartDecision) → Alike a s t → Alike (end_state x a) s t
after-end a s t Outside w = w
after-end a s t Overrun w = w
after-end a s t Ended w = w
after-end a s t Open w = record { lent = w.lent; arrived = w.arrived }

end-alike : {A : Type 0} (f : A → SerialResult) (refuse : Refusal → A) (reader : List ℕ → A) (a : SerialState) (s t : List ℕ) → Alike a s t
    → f (end_read refuse reader (decision_of a (length s) 0) (take a.arrived s))
    ≡ f (end_read refuse reader (decision_of a (length t) 0) (take a.arrived t))
end-alike f refuse reader a s t w = rw (course-alike a 0 (length s) (length t) w.lent, w.arrived)

told-alike : (c : SerialCall) (a : SerialState) (s t : List ℕ) → Alike a s t → told c (hold a s) ≡ told c (hold a t)
told-alike resetting a s t w = refl
told-alike (sending p) a s t w = rw (course-alike a (length p) (length s) (length t) w.lent)
told-alike (ending (request v strict)) a s t w = end-alike join_request refuse_request (read_request_by v (head_by strict)) a s t w
told-alike (ending (configuration v strict)) a s t w = end-alike update refuse_configuration (read_configuration_by v (head_by strict)) a s
    t w

pub both : {A : Type 0} {x y : A} {xs ys : List A} → x ≡ y → xs ≡ ys → x ∷ xs ≡ y ∷ ys
both p q = cc

answers-alike : (cs : List SerialCall) (a : SerialState) (s t : List ℕ) → Alike a s t → answers cs (hold a s) ≡ answers cs (hold a t)
answers-alike [] a s t w = refl
answers-alike (resetting ∷ cs) a s t w = both refl (answers-alike cs empty_state s t (record { lent = w.lent; arrived = refl }))
answers-alike (sending p ∷ cs) a s t w =
    let e = course-alike a (length p) (length s) (length t) w.lent in
    both (told-alike (sending p) a s t w) (rw e (answers-alike cs _ _ _ (after-part a s t p (decision_of a (length t) (length p)) e refl
    w)))
answers-alike (ending r ∷ cs) a s t w =
    let e = course-alike a 0 (length s) (length t) w.lent in
    both (told-alike (ending r) a s t w) (rw e (answers-alike cs _ _ _ (after-end a s t (decision_of a (length t) 0) w)))

pub beyond-is-unread : BeyondIsUnread
beyond-is-unread a s t cs l e = answers-alike cs a s t (record { lent = l; arrived = e })

pub nothing-of-the-former-board : ResetForgets
nothing-of-the-former-board g h cs l =
    both refl (answers-alike cs empty_state g.store h.store (record { lent = l; arrived = refl }))
