-- The answer about a parameter, and where the bytes go on after it.
use Rattle.std.specs.Prelude.{Ok, Err}
use Prim.Native.Nat.{ℕ}
use mathlib.Core.Path.{◌≡◌, ap, sym, ◌∙◌}
use mathlib.Core.List.{List}
use native.Mathlib.Omega.{arith}
use lib.ListN.{length, length-drop}
use Rattle.refusal.specs.Verdict.{Verdict}
use Rattle.cojp.specs.Bytes.{EndsAt, EndUnique}
use Rattle.cojp.specs.KeySet.{keys_answer}
use Rattle.cojp.specs.Reading.{Reading, refused, read, Accepting}
use Rattle.cojp.specs.declared.key_set.KeysParameter.{KeysParameter}
use Rattle.cojp.specs.declared.key_set.KeysRead.{KeysRead}

pub accepting-on : (v : Verdict) {P Q : Type 0} → (P → Q) → Accepting v P → Accepting v Q
accepting-on (Ok tt) f p = f p
accepting-on (Err k) f p = tt

-- a place in s is told by how many bytes are left there
pub one_place : EndUnique
one_place s left m n a b =
    omega (arith, a.inside, b.inside, length-drop m s, length-drop n s, ap length (a.rest ∙ sym b.rest))

-- the same place, what is left there being said otherwise
pub on-with : {s t u : List ℕ} {n : ℕ} → t ≡ u → EndsAt s n t → EndsAt s n u
on-with e g = record { rest = g.rest ∙ e; inside = g.inside }

module _ (r : KeysRead) (x : Reading KeysParameter) (n : ℕ) (e : r ≡ keys_answer x n) where
  pub keys-settled : (y : Reading KeysParameter) → x ≡ y → r ≡ keys_answer y r.next
  keys-settled y f = go x e ∙ ap (λ (z : Reading KeysParameter). keys_answer z r.next) f
    where
      go : (x : Reading KeysParameter) → r ≡ keys_answer x n → r ≡ keys_answer x r.next
      go (refused k) e = e
      go (read p) e = e ∙ ap (keys_answer (read p)) (sym (ap (λ (q : KeysRead). q.next) e))
