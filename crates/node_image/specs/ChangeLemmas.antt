-- Lemmas: nothing here has to be believed.
-- What stands in an image is what its node is put as; so where a part is written anew, the bytes before and behind it are already right.
use Rattle.std.specs.Prelude.{ℕ, suc, ◌+◌, ◌*◌, ◌-◌, ◌<◌, true, List, [], ◌∷◌, ◌++◌, ◌≡◌, eqb, length, get_or, set, replicate}
use Rattle.std.proofs.Common.{append_assoc, ◌∙◌, arith, length-append, length-take, take_all, drop-drop}
use Rattle.std.proofs.Math.Path.{refl, ap, sym}
use Rattle.std.proofs.Math.ListN.{take, drop}
use Rattle.std.proofs.Math.Seq.{take_at, drop_at}
use Rattle.byte_io.specs.BigEndian.{bytes_of}
use Rattle.byte_io.specs.BigEndianLemmas.{length-bytes_of}
use Rattle.byte_io.specs.Write.{Wrote}
use Rattle.image.proofs.Lent.{long}
use Rattle.image.specs.Part.{AllBytes, RoundTrips, number, puts, times, is_image}
use Rattle.image.specs.PartLemmas.{puts-set, puts-split, over}
use Rattle.key_image.specs.Key.{key_set_part, counted_set_part}
use Rattle.key_image.specs.Laws.{KeyImages}
use Rattle.lemmas.specs.logic.Tests.{both_right}
use Rattle.link_key_counters.specs.Counters.{no_counted}
use Rattle.node.specs.Node.{attempting, keyed}
use Rattle.node.specs.declared.node.Node.{Node}
use Rattle.node_attempt.specs.declared.attempt.Attempt.{Attempt}
use Rattle.node_key_sets.specs.Frames.{switched}
use Rattle.node_image.specs.Attempt.{attempt_part}
use Rattle.node_image.specs.Change.{recounted}
use Rattle.node_image.specs.Node.{held_fields, held_of, sets_part, node_image}

attempt-size : (a : Attempt) → length (attempt_part.put a) ≡ 26
attempt-size a =
    let c = bytes_of 8 a.clock in
    let s = bytes_of 8 a.sent in
    let t = bytes_of 8 a.timeout in
    omega (
      arith,
      length-append c (s ++ (t ++ (a.count ∷ []))),
      length-append s (t ++ (a.count ∷ [])),
      length-append t (a.count ∷ []),
      length-bytes_of 8 a.clock,
      length-bytes_of 8 a.sent,
      length-bytes_of 8 a.timeout,
    )

-- role, attempt, keys, counters, pending set and what is held: put as they are grouped, and with the counters alone in the middle
around : (h a k c p q : List ℕ) → h ++ (a ++ (((k ++ c) ++ p) ++ q)) ≡ ((h ++ a) ++ k) ++ (c ++ (p ++ q))
around h a k c p q = simp append_assoc

-- the same with one of the counters alone in the middle
around-one : (b x c y q : List ℕ) → b ++ ((x ++ (c ++ y)) ++ q) ≡ (b ++ x) ++ (c ++ (y ++ q))
around-one b x c y q = simp append_assoc

-- and with the active set alone, the pending set behind it
around-set : (h a k p q : List ℕ) → h ++ (a ++ ((k ++ p) ++ q)) ≡ (h ++ a) ++ (k ++ (p ++ q))
around-set h a k p q = simp append_assoc

puts-four : (cs : List ℕ) → length (puts (number 4) cs) ≡ 4 * length cs
puts-four [] = refl
puts-four (c ∷ cs) = omega (arith, length-append (bytes_of 4 c) (puts (number 4) cs), length-bytes_of 4 c, puts-four cs)

module _ (l : RoundTrips node_image) (s : List ℕ) (b : AllBytes s) (image : is_image node_image s ≡ true) where
  abbrev n : Node
  n = node_image.get s

  many : length s ≡ 878
  many = long node_image s image

  good : node_image.good s ≡ true
  good = both_right (eqb (length s) 878) (node_image.good s) image

  pub stands : s ≡ node_image.put n
  stands = sym (l.back s b (omega (arith, many)) good ∙ take_all 878 s (omega (arith, many)))

  pub attempt-over : (a : Attempt) {e : List ℕ} → Wrote (attempt_part.put a) (take (length s - 3) (drop 3 s)) 26 e
      → take 3 s ++ (e ++ drop (length s - 3) (drop 3 s)) ≡ node_image.put (attempting n a)
  attempt-over a w =
      over (0x4e ∷ 1 ∷ n.role ∷ []) (attempt_part.put n.attempt) (sets_part.put n.sets ++ held_fields.put (held_of n))
      (attempt_part.put a) stands refl
      (attempt-size n.attempt) w

  module _ (k : KeyImages) where
    abbrev front : List ℕ
    front = (0x4e ∷ 1 ∷ n.role ∷ []) ++ attempt_part.put n.attempt

    abbrev before : List ℕ
    before = front ++ key_set_part.put n.sets.active.set

    abbrev behind : List ℕ
    behind = counted_set_part.put n.sets.pending ++ held_fields.put (held_of n)

    abbrev counters : List ℕ
    counters = n.sets.active.counters

    fit : counted_set_part.Fit n.sets.active
    fit = (l.fits s b (omega (arith, many)) good).1.1.0.0

    fit-pending : counted_set_part.Fit n.sets.pending
    fit-pending = (l.fits s b (omega (arith, many)) good).1.1.0.1

    grouped : (cs : List ℕ) → node_image.put (recounted n cs) ≡ before ++ ((times 8 (number 4)).put cs ++ behind)
    grouped cs =
        around (0x4e ∷ 1 ∷ n.role ∷ []) (attempt_part.put n.attempt) (key_set_part.put n.sets.active.set) _
        (counted_set_part.put n.sets.pending) (held_fields.put (held_of n))

    far : length front ≡ 29
    far = omega (arith, length-append (0x4e ∷ 1 ∷ n.role ∷ []) (attempt_part.put n.attempt), attempt-size n.attempt)

    further : length before ≡ 246
    further =
        omega (arith, far, length-append front (key_set_part.put n.sets.active.set), k.key_set.sized n.sets.active.set fit.0)

    -- one counter of the active set
    module _ (i : ℕ) (few : i < 8) (x : ℕ) where
      abbrev these : List ℕ
      these = puts (number 4) (take i counters)

      abbrev those : List ℕ
      those = puts (number 4) (drop (suc i) counters)

      beside : (y : ℕ) (cs : List ℕ) → puts (number 4) cs ≡ these ++ (bytes_of 4 y ++ those)
          → node_image.put (recounted n cs) ≡ (before ++ these) ++ (bytes_of 4 y ++ (those ++ behind))
      beside y cs e =
          grouped cs ∙ ap (λ (t : List ℕ). before ++ (t ++ behind)) e ∙ around-one before these (bytes_of 4 y) those behind

      place : length (before ++ these) ≡ 246 + 4 * i
      place = omega (arith, further, length-append before these, puts-four (take i counters), length-take i counters)

      pub counter-over : (at : ℕ) → at ≡ 246 + 4 * i → {e : List ℕ} → Wrote (bytes_of 4 x) (take (length s - at) (drop at s)) 4 e
          → take at s ++ (e ++ drop (length s - at) (drop at s)) ≡ node_image.put (recounted n (set counters i x))
      counter-over at h w =
          let y = get_or counters i 0 in
          over (before ++ these) (bytes_of 4 y) (those ++ behind) (bytes_of 4 x)
          (stands ∙ beside y counters (puts-split (number 4) counters i 0 few)) (place ∙ sym h) (length-bytes_of 4 y) w
          ∙ sym (beside x (set counters i x) (puts-set (number 4) counters i x few))

    -- ---- the pending set becomes the active one
    abbrev active-bytes : List ℕ
    active-bytes = counted_set_part.put n.sets.active

    abbrev pending-bytes : List ℕ
    pending-bytes = counted_set_part.put n.sets.pending

    abbrev held_bytes : List ℕ
    held_bytes = held_fields.put (held_of n)

    two-sets : s ≡ front ++ (active-bytes ++ (pending-bytes ++ held_bytes))
    two-sets = stands ∙ around-set (0x4e ∷ 1 ∷ n.role ∷ []) (attempt_part.put n.attempt) active-bytes pending-bytes held_bytes

    two-far : length (front ++ active-bytes) ≡ 278
    two-far = omega (arith, far, length-append front active-bytes, k.counted-set.sized n.sets.active fit)

    pending-on : drop 278 s ≡ pending-bytes ++ held_bytes
    pending-on =
        ap (drop 278) (two-sets ∙ sym (append_assoc front active-bytes (pending-bytes ++ held_bytes)))
        ∙ drop_at (front ++ active-bytes) (pending-bytes ++ held_bytes) 278 two-far

    pending-size : length pending-bytes ≡ 249
    pending-size = k.counted-set.sized n.sets.pending fit-pending

    no-set : counted_set_part.put no_counted ≡ replicate 249 0
    unfolding bytes_of
    no-set = refl

    pub switched-over : take 29 s ++ (take 249 (drop 278 s) ++ (replicate 249 0 ++ drop 527 s))
        ≡ node_image.put (keyed n (switched n.sets))
    unfolding bytes_of
    switched-over =
        let head : take 29 s ≡ front = ap (take 29) two-sets ∙ take_at front (active-bytes ++ (pending-bytes ++ held_bytes)) 29 far in
        let mid : take 249 (drop 278 s) ≡ pending-bytes =
        ap (take 249) pending-on ∙ take_at pending-bytes held_bytes 249 pending-size in
        let rest : drop 527 s ≡ held_bytes =
        sym (drop-drop 249 278 s) ∙ ap (drop 249) pending-on ∙ drop_at pending-bytes held_bytes 249 pending-size in
        rw (head, mid, rest, ← no-set)
        (sym (around-set (0x4e ∷ 1 ∷ n.role ∷ []) (attempt_part.put n.attempt) pending-bytes (counted_set_part.put no_counted)
        held_bytes))
