-- How a head is written: the bytes of its argument from the last one on, and then its first byte.
use Rattle.std.specs.Prelude.{Ok, Err}
use Prim.Native.Nat.{ℕ, ◌+◌, ◌*◌, ◌-◌, ◌≤◌, ◌<◌}
use mathlib.Core.Path.{◌≡◌}
use mathlib.Core.List.{List, [], ◌∷◌}
use native.Mathlib.Omega.{arith}
use borrow.Author.Tests.{le-ltb, lt-ltb}
use lib.ListN.{length, take, drop, set}
use lib.Seq.{length-take-le}
use borrow.Rule.Slice.PartMut.{put_mid}
use Rattle.refusal.specs.declared.Refusal.TheVariants.{Room, Range}
use Rattle.byte_io.specs.Write.{Did, Wrote}
use Rattle.byte_io.specs.BigEndian.{bytes_of}
use Rattle.cbor.specs.Answer.{head_plan}
use Rattle.cbor.specs.Encode.{info_of, extra_of, shortest}
use Rattle.byte_io.specs.WriteLemmas.{did-refuse, did-emit, did-room}
use Rattle.byte_io.specs.BigEndianLemmas.{length-bytes_of}
use Rattle.cbor.proofs.HeadLengths.{length-head}

-- the first byte, and the argument's bytes in the part after it
pub head-wrote : (m a n b : ℕ) (d e : List ℕ) → n ≡ extra_of a + 1 → b ≡ m * 32 + info_of a → n ≤ length d
    → e ≡ bytes_of (length (take (n - 1) (drop 1 (set d 0 b)))) a → Wrote (shortest m a) d n (put_mid 1 (n - 1) (set d 0 b) e)
unfolding shortest
head-wrote m a n b [] e f o p w = absurd (omega arith)
head-wrote m a n b (x ∷ l) e f o p w =
    let g : n - 1 ≡ extra_of a = omega arith in
    let k : n ≡ length (shortest m a) = omega (arith, length-head m a) in
    let h : length (take (n - 1) l) ≡ extra_of a = omega (arith, length-take-le (n - 1) l (omega arith)) in
    let i : e ≡ bytes_of (extra_of a) a = rw h at w in
    record { many = k; holds = rw (o, i, g, length-bytes_of (extra_of a) a) }

-- ---- the answers of `write_head`
pub head-range : (m n : ℕ) (d : List ℕ) → 7 < m → Did (head_plan m n) d (Err Range) d
head-range m n d h = simp (lt-ltb 7 m h) (did-refuse Range d)

pub head-room : (m n k : ℕ) (d : List ℕ) → m ≤ 7 → k ≡ extra_of n + 1 → length d < k → Did (head_plan m n) d (Err Room) d
head-room m n k d h e l = simp (le-ltb 7 m h) (did-room (shortest m n) d (omega (arith, length-head m n)))

pub head_done : (m n k : ℕ) (d d' : List ℕ) → m ≤ 7 → k ≡ extra_of n + 1 → k ≤ length d → Wrote (shortest m n) d k d'
    → Did (head_plan m n) d (Ok k) d'
head_done m n k d d' h e l w = simp (le-ltb 7 m h) (did-emit (omega (arith, length-head m n)) w)
