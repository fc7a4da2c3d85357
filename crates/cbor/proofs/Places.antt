-- What an answer says of the bytes: its place is where what is left begins.
-- Between this and the equations of specs/Answer one follows from the other.
use Rattle.std.specs.Prelude.{Result, Ok, Err}
use Prim.Native.Nat.{ℕ, ◌≤◌}
use mathlib.Core.Bool.{Bool}
use mathlib.Core.List.{List}
use mathlib.Core.Path.{◌≡◌}
use lib.ListN.{length, drop}
use Rattle.refusal.specs.declared.Refusal.{Refusal}
use Rattle.cbor.specs.Decode.{Outcome, refused, got, Heading}
use Rattle.cbor.specs.Strict.{head_by}
use Rattle.cbor.specs.declared.head.Head.{Head}

-- the head without its place
abbrev pub plainly : Head → Heading
plainly h = record { major = h.major; info = h.info; argument = h.argument }

abbrev pub head_says : List ℕ → Result Head Refusal → Outcome Heading
head_says s (Err k) = refused k
head_says s (Ok h) = got (plainly h) (drop h.next s)

abbrev pub head_inside : List ℕ → Result Head Refusal → Type 0
head_inside s (Err k) = Unit {0}
head_inside s (Ok h) = h.next ≤ length s

-- read strictly, or not
pub record HeadAt (b : Bool) (s : List ℕ) (at : ℕ) (r : Result Head Refusal) : Type 0 where
  pub says : head_says s r ≡ head_by b (drop at s)
  pub inside : head_inside s r

-- an outcome with the value forgotten
pub data Rest : Type 0 where
  stop : Refusal → Rest
  rest : List ℕ → Rest

abbrev pub forget : {A : Type 0} → Outcome A → Rest
forget (refused k) = stop k
forget (got a s) = rest s

abbrev pub skip_says : List ℕ → Result ℕ Refusal → Rest
skip_says s (Err k) = stop k
skip_says s (Ok p) = rest (drop p s)

abbrev pub skip_inside : List ℕ → Result ℕ Refusal → Type 0
skip_inside s (Err k) = Unit {0}
skip_inside s (Ok p) = p ≤ length s

pub record Passed {A : Type 0} (s : List ℕ) (o : Outcome A) (r : Result ℕ Refusal) : Type 0 where
  pub says : skip_says s r ≡ forget o
  pub inside : skip_inside s r
