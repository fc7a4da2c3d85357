-- Installing a set does what the decision says.
use Rattle.node_key_sets.specs.declared.sets.InstallSlot.{InstallSlot}
use Rattle.refusal.specs.declared.Refusal.{Refusal}
use Rattle.std.specs.Prelude.{◌≡◌, refl, Bool, true, false, cond, Result, Ok, Err}
use Rattle.refusal.specs.declared.Refusal.TheVariants as refusal
use Rattle.link_key.specs.set.KeySet.{keys_of, valid_set, same_keys, shares}
use Rattle.link_key.specs.declared.set.key_set.KeySet.{KeySet}
use Rattle.node_key_sets.specs.Sets.{active_in, unplaced, decide_install, install, install_decision, placing, InstallDecided}
use Rattle.node_key_sets.specs.declared.sets.KeySets.{KeySets}
use Rattle.node_key_sets.specs.declared.sets.InstallSlot.TheVariants as spot

pub install-decided : InstallDecided
unfolding install install_decision
install-decided border s set = by (valid_set set) border (same_keys (keys_of set) (active_in s)) (shares (keys_of set) (active_in s))
  where
    by : (fit border equals shared : Bool)
        → cond fit (decide_install s set border equals shared) (unplaced refusal.Range s)
        ≡ placing
        (cond fit
        (cond border (Ok spot.Active)
        (cond equals (Ok spot.Same) (cond shared (Err refusal.Clash) (Ok spot.Pending))))
        (Err refusal.Range))
        s set
    by false border equals shared = refl
    by true true equals shared = refl
    by true false true shared = refl
    by true false false true = refl
    by true false false false = refl

-- of a decision that was made
pub decided : (border : Bool) (s : KeySets) (set : KeySet) (d : Result InstallSlot Refusal) → d ≡ install_decision border s set
    → install border s set ≡ placing d s set
decided border s set d e = rw e (install-decided border s set)
