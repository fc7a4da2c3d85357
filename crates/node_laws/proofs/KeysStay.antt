-- Calls that keep keys and role: the node itself, and the node with a later valid join attempt.
use Prim.Native.Nat.{◌≤◌}
use mathlib.Core.Path.{◌≡◌, refl, ap}
use mathlib.Core.Bool.{true}
use Rattle.node_key_sets.specs.declared.sets.KeySets.{KeySets}
use Rattle.node_attempt.specs.Attempt.{valid}
use Rattle.node_attempt.specs.declared.attempt.Attempt.{Attempt}
use Rattle.node_parameters.proofs.Leases.{later}
use Rattle.node.specs.Node.{attempting, keyed, clock_of}
use Rattle.node.specs.Range.{version_valid, Valid}
use Rattle.node_laws.specs.Laws.{KeysStay}
use Rattle.node.specs.declared.node.Node.{Node}
use Rattle.node_laws.proofs.Valid.{keys-valid, keys-plain, address-valid, others-valid, valid-by}

pub stay-self : (n : Node) → KeysStay n n
stay-self n = record { active = refl; pending = refl; role = refl; valid = λ v. v }

pub stay-attempt : (n : Node) (a : Attempt) → (Valid n → valid a ≡ true) → clock_of n ≤ a.clock → KeysStay n (attempting n a)
unfolding version_valid
stay-attempt n a f h =
    record {
      active = refl;
      pending = refl;
      role = refl;
      valid =
          λ v. valid-by (attempting n a) (keys-valid n v) (keys-plain n v) (f v)
          (later (clock_of n) a.clock n.address h (address-valid n v)) (others-valid n v);
    }

pub keyed-self : (n : Node) (s : KeySets) → s ≡ n.sets → keyed n s ≡ n
keyed-self n s e = ap (keyed n) e

pub stay-keyed : (n : Node) (s : KeySets) → s ≡ n.sets → KeysStay n (keyed n s)
stay-keyed n s e = rw (keyed-self n s e) (stay-self n)
