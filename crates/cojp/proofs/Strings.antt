-- Byte strings are copied byte by byte into zeros; one is taken where its length is in the limits.
use Prim.Native.Nat.{ℕ, ◌+◌, ◌≤◌, ◌<◌}
use mathlib.Core.Path.{◌≡◌, refl, ◌∙◌}
use mathlib.Core.List.{List, ◌++◌}
use native.Mathlib.Omega.{arith}
use lib.ListN.{length, take, drop, replicate, length-drop}
use lib.Seq.{length-take-le}
use Rattle.std.proofs.lemmas.List.{drop-replicate}
use borrow.Author.Tests.{le-leb, lt-leb}
use Rattle.refusal.specs.declared.Refusal.TheVariants as refusal
use Rattle.cbor.specs.View.{ValueAt, ValueSpec}
use Rattle.cbor.specs.declared.value.Value.{Value}
use Rattle.cbor.specs.declared.value.Value.TheVariants as vv
use Rattle.cojp.specs.Bytes.{value_view}
use Rattle.cojp.specs.Octets.{padded, copied_from, octets_parameter, no_octets_parameter, octets_judged, octets_read}
use Rattle.cojp.specs.Reading.{Reading, refused, read}
use Rattle.cojp.specs.declared.octets.OctetsParameter.{OctetsParameter}
use Rattle.cojp.specs.declared.disposition.Disposition.TheVariants.{Taken, Discarded}

-- ---- copying
module _ (s : List ℕ) (at n : ℕ) where
  pub copied-long : 16 < n → replicate 16 0 ≡ copied_from s at n
  copied-long h = rw (lt-leb n 16 h)

  pub copied-past : n ≤ 16 → length s < at + n → replicate 16 0 ≡ copied_from s at n
  copied-past l h = rw (le-leb n 16 l, lt-leb (at + n) (length s) h)

  pub copied-inside : n ≤ 16 → at + n ≤ length s → copied_from s at n ≡ padded 16 (take n (drop at s))
  copied-inside l h = rw (le-leb n 16 l, le-leb (at + n) (length s) h)

-- the bytes over the first of 16 zeros
pub copied-over : (s : List ℕ) (at n m : ℕ) (b : List ℕ) → b ≡ take m (drop at s) → m ≡ n → n ≤ 16 → at + n ≤ length s
    → b ++ drop n (replicate 16 0) ≡ copied_from s at n
unfolding padded
copied-over s at n m b e k l h =
    let g : length (take n (drop at s)) ≡ n = length-take-le n (drop at s) (omega (arith, length-drop at s)) in
    rw (copied-inside s at n l h, e, k, g, drop-replicate {X = ℕ} n 16 0) refl

-- ---- the returns of `read_octets`
module _ (s : List ℕ) (at least : ℕ) (v : Value) (e : ValueSpec s at v) where
  module _ (p a : ℕ) (g : v ≡ vv.Bytes p a) where
    string-here : ValueAt 5 s at (vv.Bytes p a)
    string-here = rw g at (e.says 5)

    pub string-inside : p + a ≤ length s
    string-inside = string-here.rest.0

    whole : length (take a (drop p s)) ≡ a
    whole = length-take-le a (drop p s) (omega (arith, string-inside, length-drop p s))

    module _ (r : Reading OctetsParameter) (f : r ≡ read (no_octets_parameter Discarded)) where
      pub octets-few : a < least → r ≡ octets_read least (value_view (drop at s))
      unfolding octets_judged
      octets-few h = f ∙ rw (string-here.view, whole, lt-leb least a h)

      pub octets-many : least ≤ a → 16 < a → r ≡ octets_read least (value_view (drop at s))
      unfolding octets_judged
      octets-many l h = f ∙ rw (string-here.view, whole, le-leb least a l, lt-leb a 16 h)

    pub octets-taken : (b : List ℕ) → least ≤ a → a ≤ 16 → b ≡ copied_from s p a
        → read (octets_parameter Taken (record { len = a; bytes = b })) ≡ octets_read least (value_view (drop at s))
    unfolding octets_judged
    octets-taken b l h f = rw (string-here.view, whole, le-leb least a l, le-leb a 16 h, f ∙ copied-inside s p a h string-inside)

  pub octets-broken : ((p a : ℕ) → ¬ (v ≡ vv.Bytes p a)) → refused refusal.«Type» ≡ octets_read least (value_view (drop at s))
  unfolding octets_judged
  octets-broken no-string = go v (e.says 5) no-string
    where
      go : (v : Value) → ValueAt 5 s at v → ((p a : ℕ) → ¬ (v ≡ vv.Bytes p a))
          → refused refusal.«Type» ≡ octets_read least (value_view (drop at s))
      go (vv.Number x p) w no-string = rw w.view
      go (vv.Bytes p a) w no-string = absurd (no-string p a refl)
      go (vv.Array p a) w no-string = rw w.view
      go vv.Other w no-string = rw w.view
      go (vv.Minus x p) w no-string = rw w.view
