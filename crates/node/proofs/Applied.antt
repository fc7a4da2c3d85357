-- What a node makes of a payload, by the answers of the functions that judge it, read it and place its key set.
use Rattle.std.specs.Prelude.{Result, Ok, Err}
use Prim.Native.Nat.{ℕ}
use mathlib.Core.Path.{◌≡◌, refl, sym, ◌∙◌, ap}
use mathlib.Core.Bool.{Bool, true, false}
use mathlib.Core.List.{List}
use lib.ListN.{length}
use Rattle.refusal.specs.declared.Refusal.{Refusal}
use Rattle.refusal.specs.declared.Refusal.TheVariants as refusal
use Rattle.refusal.specs.Verdict.{Verdict}
use Rattle.node_key_sets.specs.Sets.{placed, install, set_at, placing}
use Rattle.node_key_sets.specs.declared.sets.KeySets.{KeySets}
use Rattle.node_key_sets.specs.declared.sets.InstallResult.{InstallResult}
use Rattle.node_key_sets.specs.declared.sets.InstallSlot.{InstallSlot}
use Rattle.node_attempt.specs.delivery.Delivery.{may_come}
use Rattle.node_attempt.specs.declared.delivery.Delivery.{Delivery}
use Rattle.cojp.specs.Configuration.{with_keys, read_configuration_as}
use Rattle.cojp.specs.KeySet.{no_keys_parameter}
use Rattle.cojp.specs.Reading.{if_taken}
use Rattle.protocol_version.specs.Version.{by_version}
use Rattle.cojp.specs.declared.configuration.Configuration.{Configuration}
use Rattle.cojp.specs.declared.configuration.ConfigurationRead.{ConfigurationRead}
use Rattle.cojp.specs.declared.disposition.Disposition.TheVariants.{Discarded}
use Rattle.protocol_version.specs.declared.Version.{Version}
use Rattle.protocol_version.specs.declared.Version.TheVariants.{Draft, Published}
use Rattle.node_parameters.specs.Dispositions.{dispositions_of}
use Rattle.node_parameters.proofs.Taken.{taken_is, taken_not}
use Rattle.node.specs.Delivery.{placement_of, fitted_by, fitted, configured, undelivered, delivered}
use Rattle.node.specs.Delivery.{owes_identifier, placed_by, apply, deliver_verdict, deliver}
use Rattle.node.specs.Node.{is_border, keyed}
use Rattle.node.specs.Range.{valid}
use Rattle.node.specs.declared.node.Node.{Node}

-- ---- a payload that is refused, and one that was read
module _ (delivery : Delivery) (n : Node) (time : ℕ) (payload : List ℕ) where
  pub deliver-invalid : valid n ≡ false → undelivered refusal.Range n ≡ deliver delivery n time payload
  unfolding deliver deliver_verdict
  deliver-invalid e = rw e

  module _ (ok : valid n ≡ true) {v : Verdict} (is : v ≡ may_come delivery n.attempt time (length payload)) where
    pub deliver-early : {k : Refusal} → v ≡ Err k → undelivered k n ≡ deliver delivery n time payload
    unfolding deliver deliver_verdict
    deliver-early e = rw (ok, sym is ∙ e)

    module _ (may : v ≡ Ok tt) {read : ConfigurationRead} (got : read ≡ read_configuration_as n.version payload) where
      pub deliver-unread : {k : Refusal} → read.verdict ≡ Err k → undelivered k n ≡ deliver delivery n time payload
      unfolding deliver deliver_verdict
      deliver-unread e = rw (ok, sym is ∙ may, ← got, e)

      pub deliver-read :
          read.verdict ≡ Ok tt → apply delivery n time (fitted n read.configuration) ≡ deliver delivery n time payload
      unfolding deliver deliver_verdict
      deliver-read e = rw (ok, sym is ∙ may, ← got, e)

-- ---- a configuration as the node's form takes it
module _ (n : Node) (c : Configuration) where
  -- only the keys may change
  fitted-network : (fitted n c).network ≡ c.network
  unfolding fitted
  fitted-network = go n.version (placement_of n c.keys).verdict
    where
      go : (v : Version) (w : Verdict) → (by_version v c (fitted_by w c)).network ≡ c.network
      go Draft w = refl
      go Published (Ok tt) = refl
      go Published (Err k) = refl

  fitted-placed : (placement_of n c.keys).verdict ≡ Ok tt → fitted n c ≡ c
  unfolding fitted
  fitted-placed e = rw e (go n.version)
    where
      go : (v : Version) → by_version v c c ≡ c
      go Draft = refl
      go Published = refl

  -- where the key set goes, by the answers of the code
  module _ {t : Bool} (asked : t ≡ if_taken c.keys.disposition true false) where
    not-placed : t ≡ false → placement_of n c.keys ≡ placed n.sets
    not-placed e = taken_not c.keys.disposition (install (is_border n) n.sets c.keys.value) (placed n.sets) t asked e

    placed_at :
        (p : Result InstallSlot Refusal) → t ≡ true → install (is_border n) n.sets c.keys.value ≡ placing p n.sets c.keys.value →
        placement_of n c.keys ≡ placing p n.sets c.keys.value
    placed_at p e f = taken_is c.keys.disposition (install (is_border n) n.sets c.keys.value) (placed n.sets) t asked e ∙ f

-- ---- applying
module _ (delivery : Delivery) (n : Node) (time : ℕ) (c : Configuration) where
  pub apply-owed : owes_identifier delivery n c.network.disposition ≡ true
      → undelivered refusal.Owed n ≡ apply delivery n time (fitted n c)
  unfolding apply
  apply-owed e = rw (fitted-network n c, e)

  -- a node m with its key sets placed, and what is left of the configuration: all else changes by them as the definition says
  pub record Placed (m : Node) (left : Configuration) : Type 0 where
    pub held : m ≡ keyed n m.sets
    pub does : placed_by (Ok tt) delivery n time left m.sets ≡ apply delivery n time (fitted n c)

  module _ (owes : owes_identifier delivery n c.network.disposition ≡ false) where
    apply-placed : {s : KeySets} → placement_of n c.keys ≡ placed s
        → placed_by (Ok tt) delivery n time c s ≡ apply delivery n time (fitted n c)
    unfolding apply
    apply-placed e = rw (fitted-placed n c (ap (λ (p : InstallResult). p.verdict) e), owes, e)

    module _ {t : Bool} (asked : t ≡ if_taken c.keys.disposition true false) where
      pub none-placed : t ≡ false → Placed n c
      none-placed e = record { held = refl; does = apply-placed (not-placed n c asked e) }

      module _ (took : t ≡ true) {p : Result InstallSlot Refusal}
          (told : install (is_border n) n.sets c.keys.value ≡ placing p n.sets c.keys.value) where
        goes : {q : Result InstallSlot Refusal} → p ≡ q → placement_of n c.keys ≡ placing q n.sets c.keys.value
        goes e = rw (← e) (placed_at n c asked p took told)

        pub set-placed : {spot : InstallSlot} → p ≡ Ok spot → Placed (keyed n (set_at spot n.sets c.keys.value)) c
        set-placed e = record { held = refl; does = apply-placed (goes e) }

        pub apply-clash : {k : Refusal} → p ≡ Err k → n.version ≡ Draft → undelivered k n ≡ apply delivery n time (fitted n c)
        unfolding apply fitted
        apply-clash e draft = rw (draft, owes, goes e)

        pub set-discarded : {k : Refusal} → p ≡ Err k → n.version ≡ Published
            → Placed n (with_keys c (no_keys_parameter Discarded))
        unfolding apply fitted
        set-discarded e form = record { held = refl; does = rw (form, goes e, owes) }

  -- the answer, from the node with its key sets placed
  pub apply-changed :
      (m : Node) (left : Configuration) → Placed m left →
      delivered (dispositions_of (is_border m) left) (configured delivery m time left m.sets (dispositions_of (is_border m) left))
      ≡ apply delivery n time (fitted n c)
  unfolding configured
  apply-changed m left h = rw h.held h.does
