-- A key set within its limits can be placed exactly where it does not clash; so the node's form and that test say what is applied.
use Rattle.std.specs.Prelude.{Ok, Err}
use mathlib.Core.Path.{◌≡◌, refl, ◌∙◌}
use mathlib.Core.Bool.{Bool, true, false, cond, not, ◌&&◌}
use Rattle.refusal.specs.declared.Refusal.TheVariants.{Clash}
use Rattle.refusal.specs.Verdict.{Verdict}
use Rattle.link_key.specs.set.KeySet.{keys_of, valid_set, same_keys, shares}
use Rattle.link_key.specs.declared.set.key_set.KeySet.{KeySet}
use Rattle.cojp.specs.Configuration.{with_keys}
use Rattle.cojp.specs.KeySet.{no_keys_parameter}
use Rattle.cojp.specs.Reading.{if_taken}
use Rattle.protocol_version.specs.Version.{by_version}
use Rattle.cojp.specs.Writing.{keys_in_range}
use Rattle.cojp.specs.declared.configuration.Configuration.{Configuration}
use Rattle.cojp.specs.declared.disposition.Disposition.{Disposition}
use Rattle.cojp.specs.declared.disposition.Disposition.TheVariants.{Absent, Taken, Discarded}
use Rattle.protocol_version.specs.declared.Version.{Version}
use Rattle.protocol_version.specs.declared.Version.TheVariants.{Draft, Published}
use Rattle.node_key_sets.specs.Sets.{placed, install}
use Rattle.node_key_sets.specs.declared.sets.KeySets.{KeySets}
use Rattle.node_key_sets.proofs.Valid.{place_by}
use Rattle.node.specs.Delivery.{placement_of, fitted_by, fitted}
use Rattle.node.specs.Node.{active_of, is_border}
use Rattle.node.specs.declared.node.Node.{Node}
use Rattle.node_laws.specs.Answers.{clashes}
use Rattle.node_laws.specs.Fitted.{KeysDiscarded, ClashLeavesRest}

-- ---- whether a set can be placed
abbrev pub placed_as : Bool → Verdict
placed_as clash = cond clash (Err Clash) (Ok tt)

place-by :
    (s : KeySets) (set : KeySet) (border same shared : Bool) →
    (place_by s set true border same shared).verdict ≡ placed_as (not border && not same && shared)
place-by s set true same shared = refl
place-by s set false true shared = refl
place-by s set false false true = refl
place-by s set false false false = refl

placed-as :
    (n : Node) (r : Disposition) (set : KeySet) → if_taken r (valid_set set) true ≡ true →
    (if_taken r (install (is_border n) n.sets set) (placed n.sets)).verdict
    ≡ placed_as (if_taken r (not (is_border n) && not (same_keys (keys_of set) (active_of n)) && shares (keys_of set) (active_of n)) false)
unfolding install
placed-as n Absent set e = refl
placed-as n Discarded set e = refl
placed-as n Taken set e =
    rw e (place-by n.sets set (is_border n) (same_keys (keys_of set) (active_of n)) (shares (keys_of set) (active_of n)))

-- ---- what is applied
module _ (n : Node) (c : Configuration) where
  module _ (h : keys_in_range c.keys ≡ true) where
    pub placed-verdict : (placement_of n c.keys).verdict ≡ placed_as (clashes n c.keys)
    placed-verdict = placed-as n c.keys.disposition c.keys.value h

    pub fitted-as : fitted n c ≡ by_version n.version c (fitted_by (placed_as (clashes n c.keys)) c)
    unfolding fitted
    fitted-as = rw placed-verdict

    left_out : n.version ≡ Published → clashes n c.keys ≡ true → fitted n c ≡ with_keys c (no_keys_parameter Discarded)
    left_out p e = fitted-as ∙ rw (p, e)

    pub clashing : n.version ≡ Published → clashes n c.keys ≡ true → KeysDiscarded c (fitted n c)
    clashing p e =
        rw (left_out p e)
        (record {
          keys = refl;
          address = refl;
          jrc = refl;
          network = refl;
          prefix = refl;
          blacklist = refl;
          rate = refl;
          met = refl;
          passed = refl;
        })

    apart : clashes n c.keys ≡ false → fitted n c ≡ c
    apart e = fitted-as ∙ rw e (whole n.version)
      where
        whole : (v : Version) → by_version v c c ≡ c
        whole Draft = refl
        whole Published = refl

  draft : n.version ≡ Draft → fitted n c ≡ c
  unfolding fitted
  draft p = rw p

pub clash-leaves-rest : ClashLeavesRest
clash-leaves-rest = record { clashing = clashing; apart = apart; draft = draft }
