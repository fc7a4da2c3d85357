-- Byte strings are gathered.
use Rattle.std.specs.Prelude.{None, Result}
use Rattle.refusal.specs.declared.Refusal.{Refusal}
use Prim.Native.Nat.{ℕ, ◌+◌, ◌-◌, ◌≤◌, ◌<◌}
use mathlib.Core.Path.{◌≡◌, refl}
use mathlib.Core.List.{List, [], ◌∷◌, append-nil}
use lib.ListN.{length, take, drop}
use Rattle.byte_io.specs.Write.{Did, emit}
use Rattle.cbor.specs.Encode.{encode}
use Rattle.cbor.specs.Item.{bytes}
use Rattle.cbor.specs.View.{Scalar, number, minus, string, other, ValueSpec}
use Rattle.cbor.specs.declared.value.Value.{Value}
use Rattle.cbor.specs.declared.value.Value.TheVariants as vv
use Rattle.cojp.specs.Bytes.{members_at, value_view, Neither, MemberAt, MemberSpec}
use Rattle.cojp.specs.declared.members.Member.{Member}
use Rattle.cojp.specs.declared.members.Member.TheVariants as mv
use Rattle.cojp.proofs.Arrays.{members-some, array-here, scalar-here}
use Rattle.cojp.specs.Lists.{Picked, nothing, picked, before, strings_in, written, fitting, in_array, list_answer}
use Rattle.cojp_list.specs.Gathered.{GatheredAs}
use Rattle.cojp_list.proofs.Gathering.{Gathering, gathering-bad, Turn}

-- ---- the next member is a byte string, or the pattern is broken
module _ {s : List ℕ} {at left : ℕ} {v : Member} (e : MemberSpec s at left v) where
  module _ {p a : ℕ} (g : v ≡ mv.Bytes p a) where
    here : MemberAt s at left (mv.Bytes p a)
    here = rw g at e.here

    pub string-inside : p + a ≤ length s
    string-inside = here.1

    pub string-next : strings_in (members_at left (drop at s))
        ≡ before (string (take a (drop p s)) ∷ []) (strings_in (members_at (left - 1) (drop (p + a) s)))
    unfolding strings_in
    string-next = rw here.2

  pub string-broken : 0 < left → ((p a : ℕ) → ¬ (v ≡ mv.Bytes p a)) → strings_in (members_at left (drop at s)) ≡ nothing
  unfolding strings_in
  string-broken h no-string = go v e.here no-string
    where
      none : (p : Scalar) (ps : List Scalar) → Neither (p ∷ ps) → strings_in (p ∷ ps) ≡ nothing
      none (number x) ps w = absurd w
      none (minus x) ps w = refl
      none (string x) ps w = absurd w
      none other ps w = refl

      go : (v : Member) → MemberAt s at left v → ((p a : ℕ) → ¬ (v ≡ mv.Bytes p a)) → strings_in (members_at left (drop at s)) ≡ nothing
      go (mv.Number x p) w no-string = rw w.1
      go (mv.Bytes p a) w no-string = absurd (no-string p a refl)
      go mv.Neither w no-string = let (p, ps, f) = members-some left (drop at s) h in rw f (none p ps (rw f at w))

pub strings-none : strings_in [] ≡ picked []
unfolding strings_in
strings-none = refl

-- a byte string alone
pub string-written : (b : List ℕ) → written (string b ∷ []) ≡ encode (bytes b)
string-written b = append-nil (encode (bytes b))

-- ---- one turn: the byte string at p, of a bytes, was written to the lent part
module _ {whole : Picked} {s d : List ℕ} {at left len members : ℕ} {d' : List ℕ}
    (g : Gathering whole d (strings_in (members_at left (drop at s))) len members d') {v : Member} (e : MemberSpec s at left v) where
  pub strings-broken : 0 < left → ((p a : ℕ) → ¬ (v ≡ mv.Bytes p a)) → GatheredAs whole d None d'
  strings-broken h no-string = gathering-bad g (string-broken e h no-string)

  pub strings-turn : {p a : ℕ} → v ≡ mv.Bytes p a → (n : ℕ) → n ≡ a → {r : Result ℕ Refusal} {q : List ℕ}
      → Did (emit (encode (bytes (take n (drop p s))))) (take (length d' - len) (drop len d')) r q
      → Turn whole d (strings_in (members_at left (drop at s))) len members d' (string (take a (drop p s)) ∷ [])
      (strings_in (members_at (left - 1) (drop (p + a) s))) r q
  strings-turn {p} {a} f n x w = record {
    gathering = g;
    step = string-next e f;
    put = rw (string-written (take a (drop p s)), ← x) w;
  }

-- ---- an array, and anything else
module _ {s : List ℕ} {at : ℕ} {v : Value} (e : ValueSpec s at v) (f : List Scalar → Picked) where
  pub list-array : {p n : ℕ} → v ≡ vv.Array p n
      → list_answer (fitting 253 (f (members_at n (drop p s)))) ≡ list_answer (fitting 253 (in_array f (value_view (drop at s))))
  list-array {p} {n} g = rw (array-here s at v e p n g).1

  pub list-none : ((p n : ℕ) → ¬ (v ≡ vv.Array p n))
      → list_answer nothing ≡ list_answer (fitting 253 (in_array f (value_view (drop at s))))
  list-none no-array = rw (scalar-here s at v e no-array).1
