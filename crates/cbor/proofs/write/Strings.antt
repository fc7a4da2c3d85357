-- How a byte string is written: its head, h bytes, and then its bytes in the part of the destination after the head.
use Rattle.std.specs.Prelude.{Ok, Err}
use Prim.Native.Nat.{ℕ, ◌+◌, ◌-◌, ◌≤◌, ◌<◌}
use mathlib.Core.Path.{◌≡◌, refl}
use mathlib.Core.List.{List, ◌++◌}
use native.Mathlib.Omega.{arith}
use lib.ListN.{length, take, drop, length-drop, length-take}
use lib.Seq.{take-length}
use Rattle.refusal.specs.declared.Refusal.TheVariants.{Room}
use Rattle.byte_io.specs.Write.{Did, Wrote, emit}
use Rattle.cbor.specs.Encode.{encode, extra_of, shortest}
use Rattle.cbor.specs.Item.{bytes}
use Rattle.byte_io.specs.WriteLemmas.{did-emit, did-room, seam, wrote-length}
use Rattle.cbor.proofs.HeadLengths.{extra-most, length-string}

module _ (s d : List ℕ) (h : ℕ) (e : h ≡ extra_of (length s) + 1) where
  -- a head takes at most nine bytes
  pub string-head : h ≤ 9
  string-head = omega (arith, extra-most (length s))

  pub string-refused : length d < h + length s → Did (emit (encode (bytes s))) d (Err Room) d
  string-refused l = did-room (encode (bytes s)) d (omega (arith, length-string 2 s))

  -- there is room; the head was written, and the destination is l
  module _ (f : h + length s ≤ length d) (l : List ℕ) (w : Wrote (shortest 2 (length s)) d h l) where
    kept : length l ≡ length d
    kept = wrote-length w (omega (arith, w.many))

    pub string-part : h ≤ length l
    string-part = omega (arith, kept)

    pub string-room : length s ≤ length (take (length l - h) (drop h l))
    string-room = simp (length-take, length-drop) (omega (arith, kept))

    -- its bytes were copied to the part after the head, which now is p
    pub string-done : (p : List ℕ) → p ≡ take (length s) s ++ drop (length s) (take (length l - h) (drop h l))
        → Did (emit (encode (bytes s))) d (Ok (h + length s)) (take h l ++ (p ++ drop (length l - h) (drop h l)))
    string-done p c =
        did-emit (omega (arith, length-string 2 s))
        (seam (omega (arith, w.many)) w (record { many = refl; holds = rw (take-length s) at c }))
