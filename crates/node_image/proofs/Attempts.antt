-- A join attempt stands field by field at its places; each code says one case.
use Prim.Native.Nat.{ℕ, zero, suc, ◌+◌}
use mathlib.Core.Path.{◌≡◌, refl}
use mathlib.Core.Bool.{true}
use mathlib.Core.List.{List, [], ◌∷◌, ◌++◌}
use native.Mathlib.Omega.{arith}
use borrow.Author.Tests.{leb-true}
use lib.Dec.{leb}
use lib.ListN.{take, drop, get_or}
use lib.Seq.{drop-drop, get_or-drop}
use Rattle.byte_io.specs.Write.{Wrote}
use Rattle.byte_io.specs.BigEndian.{big_endian, bytes_of}
use Rattle.image.specs.Fields.{four-fields}
use Rattle.image.specs.CodecLaws.{byte-lawful, number-lawful, both-lawful, viewed-lawful, code-lawful}
use Rattle.image.specs.Part.{RoundTrips}
use Rattle.node_attempt.specs.Attempt.{attempt}
use Rattle.node_attempt.specs.declared.attempt.Attempt.{Attempt}
use Rattle.node_attempt.specs.declared.attempt.Phase.{Phase}
use Rattle.node_attempt.specs.declared.attempt.Phase.TheVariants.{Idle, Waiting, Joined, GaveUp}
use Rattle.node_image.specs.PlaceLemmas.{first-at}
use Rattle.node_image.specs.Attempt.{phase_number, phase_of, phase_part, attempt_fields, attempt_to, attempt_from, attempt_part}

-- ---- the phase

phase-again : (p : Phase) → phase_of (phase_number p) ≡ p
phase-again Idle = refl
phase-again Waiting = refl
phase-again Joined = refl
phase-again GaveUp = refl

phase-undone : (n : ℕ) → leb n 3 ≡ true → phase_number (phase_of n) ≡ n
phase-undone zero h = refl
phase-undone (suc zero) h = refl
phase-undone (suc (suc zero)) h = refl
phase-undone (suc (suc (suc n))) h = omega (arith, leb-true (suc (suc (suc n))) 3 h)

phase-lawful : RoundTrips phase_part
phase-lawful = code-lawful phase_number phase_of 3 phase-again phase-undone

-- ---- the attempt

pub attempt-got : (s : List ℕ) (at : ℕ) {p : Phase} {a b c : ℕ} → p ≡ phase_of (get_or s at 0) → a ≡ big_endian (take 8 (drop (at + 1) s))
    → b ≡ big_endian (take 8 (drop (at + 9) s)) → c ≡ big_endian (take 8 (drop (at + 17) s))
    → attempt p a b c (get_or s (at + 25) 0) ≡ attempt_part.get (drop at s)
attempt-got s at e f g h =
    let t = drop at s in
    rw (
      e,
      f,
      g,
      h,
      drop-drop 8 1 t,
      drop-drop 8 9 t,
      drop-drop 8 17 t,
      first-at s at,
      drop-drop 1 at s,
      drop-drop 9 at s,
      drop-drop 17 at s,
      get_or-drop 25 t 0 0,
      get_or-drop at s 25 0,
    )

pub attempt-stored : (a : Attempt) {n : ℕ} {d d' : List ℕ} → n ≡ phase_number a.phase
    → Wrote (((((n ∷ []) ++ bytes_of 8 a.clock) ++ bytes_of 8 a.sent) ++ bytes_of 8 a.timeout) ++ (a.count ∷ [])) d 26 d'
    → Wrote (attempt_part.put a) d 26 d'
attempt-stored a {n} e w =
    rw (four-fields (n ∷ []) (bytes_of 8 a.clock) (bytes_of 8 a.sent) (bytes_of 8 a.timeout) (a.count ∷ []), e) at w

pub attempt-lawful : RoundTrips attempt_part
attempt-lawful =
    viewed-lawful attempt_fields attempt_to attempt_from (λ a. refl) (λ x h. refl)
    (both-lawful _ _ phase-lawful
    (both-lawful _ _ (number-lawful 8) (both-lawful _ _ (number-lawful 8) (both-lawful _ _ (number-lawful 8) byte-lawful))))
