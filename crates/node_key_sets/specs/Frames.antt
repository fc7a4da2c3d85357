-- Which key a frame is sent and received with, and what a verified frame does to the two key sets.
use Rattle.std.specs.Prelude.{ℕ, Bool, true, false, cond, not, ◌&&◌, eqb, Result, Ok, Err}
use Rattle.std.specs.declared.option.Option.{Option as Found}
use Rattle.std.specs.declared.option.Option.TheVariants.{None, Some}
use Rattle.std.proofs.Math.Option.{Option, none, some}
use Rattle.refusal.specs.Refusal.{number_of}
use Rattle.refusal.specs.declared.Refusal.{Refusal}
use Rattle.refusal.specs.declared.Refusal.TheVariants as refusal
use Rattle.refusal.specs.Verdict.{Verdict, verdict_of}
use Rattle.link_key.specs.Key.{no_key, covers}
use Rattle.link_key.specs.set.KeySet.{has, find_key}
use Rattle.link_key.specs.usage.Usage.{known_type}
use Rattle.link_key.specs.declared.Key.{Key}
use Rattle.link_key_counters.specs.Counters.{no_counted, take_counter}
use Rattle.link_key_counters.specs.declared.TakenCounter.{TakenCounter}
use Rattle.node_key_sets.specs.Sets.{active_in, pending_in, two_sets}
use Rattle.node_key_sets.specs.declared.frames.Change.{Change}
use Rattle.node_key_sets.specs.declared.frames.Change.TheVariants as change
use Rattle.node_key_sets.specs.declared.frames.KeyAnswer.{KeyAnswer}
use Rattle.node_key_sets.specs.declared.frames.SendKeyResult.{SendKeyResult}
use Rattle.node_key_sets.specs.declared.sets.KeySets.{KeySets}

abbrev pub with_key : Key → KeyAnswer
with_key k = record { verdict = Ok tt; key = k }

abbrev pub without_key : Refusal → KeyAnswer
without_key k = record { verdict = Err k; key = no_key }

-- ---- sending: the first active key that covers the type and is not used up, with its counter, which rises; RANGE: the type; SILENT
abbrev pub unsent : Refusal → KeySets → SendKeyResult
unsent k s = record { answer = without_key k; counter = 0; sets = s }

abbrev pub sent_with : KeySets → TakenCounter → SendKeyResult
sent_with s x =
    cond x.found (record { answer = with_key x.key; counter = x.counter; sets = two_sets x.set s.pending })
    (unsent refusal.Silent s)

unfoldable pub sending : KeySets → ℕ → SendKeyResult
sending s type = cond (known_type type) (sent_with s (take_counter type s.active)) (unsent refusal.Range s)

-- ---- receiving: the key with the identifier, active or else pending, which must cover the type; RANGE: the type, identifier 0; SILENT
abbrev pub or_else : Option Key → Option Key → Option Key
or_else none o = o
or_else (some k) o = some k

abbrev pub held_key : KeySets → ℕ → Option Key
held_key s identifier = or_else (find_key identifier (active_in s)) (find_key identifier (pending_in s))

abbrev pub if_covers : ℕ → Option Key → KeyAnswer
if_covers type none = without_key refusal.Silent
if_covers type (some k) = cond (covers k type) (with_key k) (without_key refusal.Silent)

-- the same of the key as code has it
abbrev pub if_found_covers : ℕ → Found Key → KeyAnswer
if_found_covers type None = without_key refusal.Silent
if_found_covers type (Some k) = cond (covers k type) (with_key k) (without_key refusal.Silent)

unfoldable pub receiving_key : KeySets → ℕ → ℕ → KeyAnswer
receiving_key s type identifier =
    cond (known_type type && not (eqb identifier 0)) (if_covers type (held_key s identifier)) (without_key refusal.Range)

-- ---- the radio reports such a frame verified: where its key was pending, the pending set becomes active and the old one is gone
abbrev pub switched : KeySets → KeySets
switched s = two_sets s.pending no_counted

-- what the report did, and the sets after it
pub record Effect : Type 0 where
  pub change : Result Change Refusal
  pub sets : KeySets

abbrev pub effect : Result Change Refusal → KeySets → Effect
effect change s = record { change = change; sets = s }

abbrev pub effect_by : Verdict → Bool → KeySets → Effect
effect_by (Err k) active s = effect (Err k) s
effect_by (Ok tt) true s = effect (Ok change.Kept) s
effect_by (Ok tt) false s = effect (Ok change.Switched) (switched s)

unfoldable pub verified_in : KeySets → ℕ → ℕ → Effect
verified_in s type identifier = effect_by (receiving_key s type identifier).verdict (has identifier (active_in s)) s

-- the answer in document 01's terms
abbrev pub change_verdict : Result Change Refusal → Verdict
change_verdict change = verdict_of change

abbrev pub change_number : Result Change Refusal → ℕ
change_number (Err k) = number_of k
change_number (Ok change.Switched) = 0
change_number (Ok change.Kept) = 0

-- the frame's key was active, and the active set stays
abbrev pub has_kept : Result Change Refusal → Bool
has_kept (Err k) = false
has_kept (Ok change.Switched) = false
has_kept (Ok change.Kept) = true

-- the pending set became active
abbrev pub has_switched : Result Change Refusal → Bool
has_switched (Err k) = false
has_switched (Ok change.Switched) = true
has_switched (Ok change.Kept) = false
