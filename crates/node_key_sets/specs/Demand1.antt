-- Demand 1 for the two key sets: a refusal leaves them and stands beside the key that is all zero and counter 0; a set outside its limits,
-- an unknown frame type and identifier 0 are RANGE (13).
use Rattle.std.specs.Prelude.{ℕ, ◌≡◌, Bool, false, not, ◌&&◌, eqb, Err}
use Rattle.refusal.specs.Verdict.{verdict_number}
use Rattle.refusal.specs.declared.Refusal.{Refusal}
use Rattle.link_key.specs.usage.Usage.{known_type}
use Rattle.link_key.specs.Key.{no_key}
use Rattle.link_key.specs.set.KeySet.{valid_set}
use Rattle.link_key.specs.declared.set.key_set.KeySet.{KeySet}
use Rattle.node_key_sets.specs.Sets.{install}
use Rattle.node_key_sets.specs.Frames.{sending, receiving_key, verified_in, change_verdict, change_number}
use Rattle.node_key_sets.specs.declared.frames.SendKeyResult.{SendKeyResult}
use Rattle.node_key_sets.specs.declared.sets.KeySets.{KeySets}

-- a refused sending: no key, counter 0, and the sets as they were
pub record Unsent (s : KeySets) (x : SendKeyResult) : Type 0 where
  pub key : x.answer.key ≡ no_key
  pub counter : x.counter ≡ 0
  pub sets : x.sets ≡ s

pub record KeySetsDemand1 : Type 0 where
  pub install-refused :
      (border : Bool) (s : KeySets) (set : KeySet) (k : Refusal) → (install border s set).verdict ≡ Err k →
      (install border s set).sets ≡ s
  pub install-invalid :
      (border : Bool) (s : KeySets) (set : KeySet) → valid_set set ≡ false → verdict_number (install border s set).verdict ≡ 13
  pub send-refused : (s : KeySets) (type : ℕ) (k : Refusal) → (sending s type).answer.verdict ≡ Err k → Unsent s (sending s type)
  pub send-unknown : (s : KeySets) (type : ℕ) → known_type type ≡ false → verdict_number (sending s type).answer.verdict ≡ 13
  pub receive-refused :
      (s : KeySets) (type identifier : ℕ) (k : Refusal) → (receiving_key s type identifier).verdict ≡ Err k →
      (receiving_key s type identifier).key ≡ no_key
  pub receive-unknown :
      (s : KeySets) (type identifier : ℕ) → (known_type type && not (eqb identifier 0)) ≡ false →
      verdict_number (receiving_key s type identifier).verdict ≡ 13
  pub report-refused :
      (s : KeySets) (type identifier : ℕ) (k : Refusal) → change_verdict (verified_in s type identifier).change ≡ Err k →
      (verified_in s type identifier).sets ≡ s
  pub report-unknown :
      (s : KeySets) (type identifier : ℕ) → (known_type type && not (eqb identifier 0)) ≡ false →
      change_number (verified_in s type identifier).change ≡ 13
