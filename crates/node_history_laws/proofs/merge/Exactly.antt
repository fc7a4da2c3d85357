-- Two configurations of the draft that take equal values do the same to a node: each parameter acts by what is taken of it.
use Rattle.std.specs.Prelude.{Ok}
use Prim.Native.Nat.{ℕ}
use mathlib.Core.Path.{◌≡◌, refl, ap, sym, ◌∙◌}
use mathlib.Core.Bool.{Bool, true, false}
use mathlib.Core.Option.{Option, none, some}
use Rattle.link_key.specs.declared.set.key_set.KeySet.{KeySet}
use Rattle.cojp.specs.Reading.{if_taken}
use Rattle.cojp.specs.declared.address.ShortAddress.{ShortAddress}
use Rattle.cojp.specs.declared.configuration.Configuration.{Configuration}
use Rattle.cojp.specs.declared.list.ItemList.{ItemList}
use Rattle.cojp.specs.declared.octets.Octets.{Octets}
use Rattle.cojp.specs.declared.octets.OctetsParameter.{OctetsParameter}
use Rattle.cojp.specs.declared.disposition.Disposition.{Disposition}
use Rattle.cojp.specs.declared.disposition.Disposition.TheVariants.{Absent, Taken, Discarded}
use Rattle.cojp_merge.specs.Laws.{TakesEqual}
use Rattle.node_attempt.specs.delivery.Delivery.{attempt_after}
use Rattle.node_attempt.specs.declared.delivery.Delivery.TheVariants.{Update}
use Rattle.node_key_sets.specs.Sets.{placed, install}
use Rattle.node_key_sets.specs.declared.sets.InstallResult.{InstallResult}
use Rattle.node_parameters.specs.Octets.{octets_after}
use Rattle.node_parameters.specs.Dispositions.{border_only, dispositions_of}
use Rattle.node_parameters.specs.declared.address.HeldAddress.{HeldAddress}
use Rattle.node_parameters.specs.declared.blacklist.HeldList.{HeldList}
use Rattle.node_parameters.specs.declared.octets.HeldOctets.{HeldOctets}
use Rattle.node_parameters.specs.declared.rate.HeldRate.{HeldRate}
use Rattle.node.specs.Delivery.{apply, configured, placement_of}
use Rattle.node.specs.Node.{is_border, attempting}
use Rattle.node.specs.declared.delivery.DeliveryResult.{DeliveryResult}
use Rattle.node.specs.declared.node.Node.{Node}
use Rattle.node_history_laws.proofs.merge.Applied.{after, apply-is, node_of, placement-accepted, leaves, none-reported}

-- ---- what is made of a parameter that is taken, and what stays where it is not
module _ {A B : Type 0} (made : A → B) (old : B) where
  act : Option A → B
  act none = old
  act (some a) = made a

  acts : (x : A) (r : Disposition) → act (if_taken r (some x) none) ≡ if_taken r (made x) old
  unfolding act
  acts x Absent = refl
  acts x Taken = refl
  acts x Discarded = refl

  alike : (x y : A) (r s : Disposition) → if_taken r (some x) none ≡ if_taken s (some y) none
      → if_taken r (made x) old ≡ if_taken s (made y) old
  alike x y r s e = sym (acts x r) ∙ ap act e ∙ acts y s

abbrev held : Octets → HeldOctets
held o = record { held = true; value = o }

abbrev held_list : ItemList → HeldList
held_list l = record { held = true; value = l }

abbrev held_rate : ℕ → HeldRate
held_rate r = record { held = true; value = r }

abbrev received : ℕ → ShortAddress → HeldAddress
received time a = record { held = true; value = a; received = time }

-- an ordinary node leaves network identifier and prefix
border-alike : (border : Bool) (old : HeldOctets) (p q : OctetsParameter)
    → if_taken p.disposition (some p.value) none ≡ if_taken q.disposition (some q.value) none
    → octets_after (border_only border p.disposition) p.value old ≡ octets_after (border_only border q.disposition) q.value old
border-alike true old p q e = alike held old p.value q.value p.disposition q.disposition e
border-alike false old p q e = leaves p.value old p.disposition ∙ sym (leaves q.value old q.disposition)

module _ (n : Node) (time : ℕ) (c d : Configuration) (t : TakesEqual c d) (x : c.labels.count ≡ 0) (y : d.labels.count ≡ 0) where
  place-alike : placement_of n c.keys ≡ placement_of n d.keys
  place-alike =
      alike (λ (s : KeySet). install (is_border n) n.sets s) (placed n.sets) c.keys.value d.keys.value c.keys.disposition
      d.keys.disposition
      t.keys

  after-alike : after n time c ≡ after n time d
  unfolding configured dispositions_of
  after-alike =
      node_of (attempting n (attempt_after Update n.attempt time)) (ap (λ (p : InstallResult). p.sets) place-alike)
      (alike (received time) n.address c.address.value
      d.address.value c.address.disposition d.address.disposition t.address)
      (alike held n.jrc c.jrc.value d.jrc.value c.jrc.disposition d.jrc.disposition t.jrc)
      (border-alike (is_border n) n.network c.network d.network t.network)
      (border-alike (is_border n) n.prefix c.prefix d.prefix t.prefix)
      (alike held_list n.blacklist c.blacklist.value d.blacklist.value c.blacklist.disposition
      d.blacklist.disposition t.blacklist)
      (alike held_rate n.rate c.rate.value d.rate.value c.rate.disposition d.rate.disposition t.rate)
      (none-reported c x ∙ sym (none-reported d y))

  pub applies-exactly : (apply Update n time d).verdict ≡ Ok tt
      → ((apply Update n time c).verdict ≡ Ok tt) × ((apply Update n time c).node ≡ (apply Update n time d).node)
  applies-exactly e =
      let theirs = placement-accepted n time d e in
      let ours = apply-is n time c (ap (λ (p : InstallResult). p.verdict) place-alike ∙ theirs) in (
        ap (λ (x : DeliveryResult). x.verdict) ours,
        ap (λ (x : DeliveryResult). x.node) ours ∙ after-alike ∙ sym (ap (λ (x : DeliveryResult). x.node) (apply-is n time d theirs)),
      )
