-- Counts are written one after the other, each behind those before it; the image is lawful by its table.
use Prim.Native.Nat.{ℕ, ◌+◌, ◌-◌, ◌*◌, ◌<◌, ◌≤◌}
use mathlib.Core.Path.{◌≡◌, refl, ap, sym, ◌∙◌}
use mathlib.Core.Bool.{Bool}
use mathlib.Core.List.{List, [], ◌∷◌, ◌++◌, append_assoc, append-nil}
use native.Mathlib.Omega.{arith}
use native.Mathlib.Numerals.{add-one}
use lib.ListN.{length, take, drop, get_or}
use lib.Seq.{take-suc}
use Rattle.byte_io.specs.Write.{Wrote}
use Rattle.byte_io.specs.BigEndian.{bytes_of}
use Rattle.image.specs.Fields.{next_field, whole-struct, two_fields}
use Rattle.image.specs.CodecLaws.{number-lawful, both-lawful, times-lawful, viewed-lawful, headed-lawful}
use Rattle.image.specs.Part.{Part, RoundTrips, number, puts, viewed}
use Rattle.trace.specs.declared.state.ReplayStatistics.{ReplayStatistics}
use Rattle.object_image.specs.Codes.{bool_part}
use Rattle.replay_calls.specs.Laws.{ReplayedImages}
use Rattle.replay_calls.specs.Replayed.{statistics_fields, statistics_to, statistics_from, statistics_part}
use Rattle.replay_calls.specs.Replayed.{walk, walk_fields, walk_to, walk_from, replayed_image}

-- ---- counts
puts_one : {A : Type 0} (p : Part A) (xs : List A) (a : A) → puts p (xs ++ (a ∷ [])) ≡ puts p xs ++ p.put a
puts_one p [] a = append-nil (p.put a)
puts_one p (x ∷ xs) a = ap (λ (t : List ℕ). p.put x ++ t) (puts_one p xs a) ∙ sym (append_assoc (p.put x) (puts p xs) (p.put a))

pub next-count : (xs : List ℕ) (i : ℕ) {d d' e : List ℕ} → i < length xs → 8 * i + 8 ≤ length d
    → Wrote (puts (number 8) (take i xs)) d (8 * i) d'
    → Wrote (bytes_of 8 (get_or xs i 0)) (take (length d' - 8 * i) (drop (8 * i) d')) 8 e
    → Wrote (puts (number 8) (take (i + 1) xs)) d (8 * (i + 1)) (take (8 * i) d' ++ (e ++ drop (length d' - 8 * i) (drop (8 * i) d')))
next-count xs i h l w v =
    let n : 8 * (i + 1) ≡ 8 * i + 8 = omega arith in
    rw (n, add-one i, take-suc xs i 0 h, puts_one (number 8) (take i xs) (get_or xs i 0)) (next_field l w v)

-- ---- the report
-- counts of an array of so many
pub so-many : {p d d' : List ℕ} (k : ℕ) {n : ℕ} → n ≡ k → Wrote p d (8 * n) d' → Wrote p d (8 * k) d'
so-many k e w = rw e at w

pub trace-written : (p : ReplayStatistics) {d d' : List ℕ}
    → Wrote (((puts (number 8) p.kinds ++ puts (number 8) p.refusals) ++ bytes_of 8 p.switches) ++ bytes_of 8 p.longest) d 240 d'
    → Wrote (statistics_part.put p) d 240 d'
trace-written p w =
    let kinds = puts (number 8) p.kinds in
    let refusals = puts (number 8) p.refusals in
    let e : ((kinds ++ refusals) ++ bytes_of 8 p.switches) ++ bytes_of 8 p.longest ≡ statistics_part.put p =
    two_fields (kinds ++ refusals) (bytes_of 8 p.switches) (bytes_of 8 p.longest)
    ∙ append_assoc kinds refusals (bytes_of 8 p.switches ++ bytes_of 8 p.longest) in
    rw e at w

-- ---- the image
pub replayed-stored : (p : ReplayStatistics) (stopped : Bool) (place : ℕ) {d d' : List ℕ} → length d ≡ 251
    → Wrote ((((0x54 ∷ 1 ∷ []) ++ statistics_part.put p) ++ bool_part.put stopped) ++ bytes_of 8 place) d 251 d'
    → d' ≡ replayed_image.put (walk p stopped place)
replayed-stored p stopped place e w =
    whole-struct e w ∙ two_fields ((0x54 ∷ 1 ∷ []) ++ statistics_part.put p) (bool_part.put stopped) (bytes_of 8 place)

trace-lawful : RoundTrips statistics_part
trace-lawful =
    viewed-lawful statistics_fields statistics_to statistics_from (λ p. refl) (λ x h. refl)
    (both-lawful _ _ (times-lawful (number 8) (number-lawful 8) 6)
    (both-lawful _ _ (times-lawful (number 8) (number-lawful 8) 22) (both-lawful _ _ (number-lawful 8) (number-lawful 8))))

pub replayed-images : RoundTrips bool_part → ReplayedImages
replayed-images bool =
    record {
      replayed-size = refl;
      replayed =
          headed-lawful 0x54 (viewed walk_fields walk_to walk_from)
          (viewed-lawful walk_fields walk_to walk_from (λ w. refl) (λ x h. refl)
          (both-lawful _ _ trace-lawful (both-lawful _ _ bool (number-lawful 8))));
    }
