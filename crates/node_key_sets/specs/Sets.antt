-- A node's two key sets: which may stand together, and where a new set goes.
use Rattle.std.specs.Prelude.{◌≡◌, Bool, cond, not, ◌&&◌, ◌||◌, List, ◌++◌, eqb, Result, Ok, Err}
use Rattle.refusal.specs.declared.Refusal.{Refusal}
use Rattle.refusal.specs.declared.Refusal.TheVariants as refusal
use Rattle.link_key.specs.set.KeySet.{keys_of, valid_set, no_additional_infos, same_keys, shares}
use Rattle.link_key.specs.declared.Key.{Key}
use Rattle.link_key.specs.declared.set.key_set.KeySet.{KeySet}
use Rattle.link_key_counters.specs.Counters.{Slot, slots_of, with_zero_counters, no_counted, inherit_counters}
use Rattle.link_key_counters.specs.declared.CountedSet.{CountedSet}
use Rattle.node_key_sets.specs.declared.sets.KeySets.{KeySets}
use Rattle.node_key_sets.specs.declared.sets.InstallResult.{InstallResult}
use Rattle.node_key_sets.specs.declared.sets.InstallSlot.{InstallSlot}
use Rattle.node_key_sets.specs.declared.sets.InstallSlot.TheVariants as spot

-- the keys of the two, in order; no keys are no set
abbrev pub active_in : KeySets → List Key
active_in s = keys_of s.active.set

abbrev pub pending_in : KeySets → List Key
pending_in s = keys_of s.pending.set

-- all keys of the two with their counters
abbrev pub slots_in : KeySets → List Slot
slots_in s = slots_of s.active ++ slots_of s.pending

abbrev pub two_sets : CountedSet → CountedSet → KeySets
two_sets active pending = record { active = active; pending = pending }

abbrev pub no_sets : KeySets
no_sets = two_sets no_counted no_counted

-- ---- which may stand together
-- a set within the limits of KEYS, or none
abbrev pub is_none : KeySet → Bool
is_none set = eqb set.count 0

abbrev pub none_or_valid : KeySet → Bool
none_or_valid set = (is_none set || valid_set set)

-- both are in range, they share no identifier, and a border node has no pending one
unfoldable pub valid : Bool → KeySets → Bool
valid border s =
    (none_or_valid s.active.set && none_or_valid s.pending.set && not (shares (active_in s) (pending_in s))
    && (not border || is_none s.pending.set))

-- no key of the two has additional information
abbrev pub plain_in : KeySets → Bool
plain_in s = (no_additional_infos (active_in s) && no_additional_infos (pending_in s))

-- the same in a form in which a key may have additional information, or may not
unfoldable pub valid_as : Bool → Bool → KeySets → Bool
valid_as allowed border s = (valid border s && (allowed || plain_in s))

-- ---- where a new set goes
abbrev pub placed : KeySets → InstallResult
placed s = record { verdict = Ok tt; sets = s }

-- a refusal leaves the two
abbrev pub unplaced : Refusal → KeySets → InstallResult
unplaced k s = record { verdict = Err k; sets = s }

-- a border node's new set replaces its active set at once, and its keys keep the counters that they had there; at an ordinary node one
-- that equals the active set empties the pending place, one that otherwise shares an identifier with the active set is CLASH, and any
-- other replaces what is pending, its counters at 0
abbrev pub decide_install : KeySets → KeySet → Bool → Bool → Bool → InstallResult
decide_install s set border equals shared =
    cond border
    (placed (two_sets (inherit_counters s.active set) no_counted))
    (cond equals
    (placed (two_sets s.active no_counted))
    (cond shared (unplaced refusal.Clash s) (placed (two_sets s.active (with_zero_counters set)))))

-- RANGE: the new set; CLASH
unfoldable pub install : Bool → KeySets → KeySet → InstallResult
install border s set =
    cond (valid_set set)
    (decide_install s set border (same_keys (keys_of set) (active_in s)) (shares (keys_of set) (active_in s)))
    (unplaced refusal.Range s)

-- ---- the same, by where the new set goes: the decision, and what it does to the two
unfoldable pub install_decision : Bool → KeySets → KeySet → Result InstallSlot Refusal
install_decision border s set =
    cond (valid_set set)
    (cond border
    (Ok spot.Active)
    (cond (same_keys (keys_of set) (active_in s))
    (Ok spot.Same)
    (cond (shares (keys_of set) (active_in s)) (Err refusal.Clash) (Ok spot.Pending))))
    (Err refusal.Range)

abbrev pub set_at : InstallSlot → KeySets → KeySet → KeySets
set_at spot.Active s set = two_sets (inherit_counters s.active set) no_counted
set_at spot.Same s set = two_sets s.active no_counted
set_at spot.Pending s set = two_sets s.active (with_zero_counters set)

abbrev pub placing : Result InstallSlot Refusal → KeySets → KeySet → InstallResult
placing (Err k) s set = unplaced k s
placing (Ok spot) s set = placed (set_at spot s set)

abbrev pub InstallDecided : Type 0
InstallDecided = (border : Bool) (s : KeySets) (set : KeySet) → install border s set ≡ placing (install_decision border s set) s set
