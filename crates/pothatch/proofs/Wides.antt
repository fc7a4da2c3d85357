-- A wide number as a code, and a call by the code that was found.
use Prim.Native.Nat.{ℕ, ◌<◌, ◌≤◌}
use mathlib.Core.Path.{◌≡◌, refl}
use mathlib.Core.List.{List}
use borrow.Author.Tests.{lt-leb, le-leb}
use Rattle.node_calls.specs.Calls.{Makes, Does, Gives, Changes}
use Rattle.node_laws.specs.Calls.{sending, receiving, reporting}
use Rattle.pothatch.specs.Wide.{code_of, identifier_of}

module _ (n : ℕ) where
  pub code-over : 255 < n → 255 ≡ code_of n
  code-over h = rw (lt-leb n 255 h) refl

  pub code-own : n ≤ 255 → n ≡ code_of n
  code-own h = rw (le-leb n 255 h) refl

  pub identifier-over : 255 < n → 0 ≡ identifier_of n
  identifier-over h = rw (lt-leb n 255 h) refl

  pub identifier-own : n ≤ 255 → n ≡ identifier_of n
  identifier-own h = rw (le-leb n 255 h) refl

pub make-as : {f f' o o' h h' : ℕ} (x : List ℕ) {s : List ℕ} {r : ℕ} {s' : List ℕ} → f ≡ f' → o ≡ o' → h ≡ h' → Makes f o h x s r s'
    → Makes f' o' h' x s r s'
make-as x a b c d = rw (a, b, c) at d

pub send-as : {n t t' : ℕ} {s w : List ℕ} {r : ℕ} {s' w' : List ℕ} → t ≡ t' → Changes n (sending t) s w r s' w'
    → Changes n (sending t') s w r s' w'
send-as a d = rw a at d

pub receive-as : {n t t' i i' : ℕ} (s : List ℕ) {w : List ℕ} {r : ℕ} {w' : List ℕ} → t ≡ t' → i ≡ i' → Gives n (receiving t i) s w r w'
    → Gives n (receiving t' i') s w r w'
receive-as s a b d = rw (a, b) at d

pub verified-as : {t t' i i' : ℕ} {s : List ℕ} {r : ℕ} {s' : List ℕ} {v : ℕ} → t ≡ t' → i ≡ i' → Does (reporting t i) s r s' v
    → Does (reporting t' i') s r s' v
verified-as a b d = rw (a, b) at d
