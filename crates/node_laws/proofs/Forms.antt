-- What a node applies is of its form: reading takes nothing else, and leaving out a key set changes nothing of that. So what the node holds
-- afterwards is of its form too.
use Rattle.std.specs.Prelude.{Ok, Err}
use Prim.Native.Nat.{ℕ}
use mathlib.Core.Path.{◌≡◌, refl, ◌∙◌, ap, subst}
use mathlib.Core.Bool.{Bool, true, false, not, ◌&&◌}
use lib.Dec.{leb}
use Rattle.lemmas.specs.logic.Tests.{both, both_left, both_right, never}
use Rattle.refusal.specs.Verdict.{Verdict}
use Rattle.link_key.specs.set.KeySet.{keys_of, additional_info_allowed}
use Rattle.cojp.specs.DispositionLemmas.{missing-keeps}
use Rattle.cojp.specs.ErrorReports.{error_reports_valid}
use Rattle.cojp.specs.InRange.{InRange, ErrorReportsValid}
use Rattle.cojp.specs.Lists.{strings_in, kept}
use Rattle.cojp.specs.Reading.{if_taken}
use Rattle.cojp.specs.Reported.{error_reports_of}
use Rattle.protocol_version.specs.Version.{by_version, allows_additional_info}
use Rattle.cojp.specs.Writing.{keys_in_range, keys_without_additional_info, list_in_range, missing, of_version}
use Rattle.cojp.specs.declared.configuration.Configuration.{Configuration}
use Rattle.cojp.specs.declared.list.ItemList.{ItemList}
use Rattle.cojp.specs.declared.list.ListParameter.{ListParameter}
use Rattle.cojp.specs.declared.octets.Octets.{Octets}
use Rattle.cojp.specs.declared.octets.OctetsParameter.{OctetsParameter}
use Rattle.cojp.specs.declared.rate.RateParameter.{RateParameter}
use Rattle.cojp.specs.declared.disposition.Disposition.{Disposition}
use Rattle.cojp.specs.declared.disposition.Disposition.TheVariants.{Absent, Taken, Discarded}
use Rattle.protocol_version.specs.declared.Version.{Version}
use Rattle.protocol_version.specs.declared.Version.TheVariants.{Draft, Published}
use Rattle.node_key_sets.specs.declared.sets.KeySets.{KeySets}
use Rattle.node_parameters.specs.Blacklist.{valid_list, list_after}
use Rattle.node_parameters.specs.Octets.{valid_octets, octets_after}
use Rattle.node_parameters.specs.Rate.{rate_after}
use Rattle.node_parameters.specs.Dispositions.{border_only, dispositions_of}
use Rattle.node_parameters.specs.declared.blacklist.HeldList.{HeldList}
use Rattle.node_parameters.specs.declared.octets.HeldOctets.{HeldOctets}
use Rattle.node_parameters.specs.declared.rate.HeldRate.{HeldRate}
use Rattle.node_attempt.specs.declared.delivery.Delivery.{Delivery}
use Rattle.node.specs.Delivery.{placement_of, fitted_by, fitted, configured}
use Rattle.node.specs.Node.{is_border}
use Rattle.node.specs.Range.{draft_valid, published_valid, version_valid}
use Rattle.node.specs.declared.node.Node.{Node}

-- ---- a configuration as the node's form takes it: a key set may be left out, and nothing else
module _ (n : Node) (c : Configuration) where
  abbrev place : Verdict
  place = (placement_of n c.keys).verdict

  pub fitted-network : (fitted n c).network ≡ c.network
  unfolding fitted
  fitted-network = go n.version place
    where
      go : (v : Version) (w : Verdict) → (by_version v c (fitted_by w c)).network ≡ c.network
      go Draft w = refl
      go Published (Ok tt) = refl
      go Published (Err k) = refl

  pub fitted-taken : (fitted n c).keys.disposition ≡ Taken → (fitted n c).keys ≡ c.keys
  unfolding fitted
  fitted-taken = go n.version place
    where
      go : (v : Version) (w : Verdict) → (by_version v c (fitted_by w c)).keys.disposition ≡ Taken
          → (by_version v c (fitted_by w c)).keys ≡ c.keys
      go Draft w e = refl
      go Published (Ok tt) e = refl
      go Published (Err k) e = never (if_taken Discarded true false) (ap (λ (r : Disposition). if_taken r true false) e) refl

  pub fitted-keys : keys_in_range c.keys ≡ true → keys_in_range (fitted n c).keys ≡ true
  unfolding fitted
  fitted-keys = go n.version place
    where
      go : (v : Version) (w : Verdict) → keys_in_range c.keys ≡ true → keys_in_range (by_version v c (fitted_by w c)).keys ≡ true
      go Draft w e = e
      go Published (Ok tt) e = e
      go Published (Err k) e = refl

  pub fitted-range : InRange n.version c → InRange n.version (fitted n c)
  unfolding fitted of_version
  fitted-range = go n.version place
    where
      go : (v : Version) (w : Verdict) → InRange v c → InRange v (by_version v c (fitted_by w c))
      go Draft w r = r
      go Published (Ok tt) r = r
      go Published (Err k) r = record {
        keys = refl;
        address = r.address;
        jrc = r.jrc;
        network = r.network;
        prefix = r.prefix;
        form = r.form;
        met = r.met;
      }

-- its keys have additional information only where the form has it
pub may-inform :
    (v : Version) (c : Configuration) → of_version v c ≡ true →
    if_taken c.keys.disposition (additional_info_allowed (allows_additional_info v) (keys_of c.keys.value)) true ≡ true
unfolding of_version
may-inform Draft c e =
    let absent = missing c.blacklist.disposition in
    both_left (keys_without_additional_info c.keys) absent
    (both_left (keys_without_additional_info c.keys && absent) (missing c.rate.disposition) e)
may-inform Published c e = go c.keys.disposition
  where
    go : (r : Disposition) → if_taken r true true ≡ true
    go Absent = refl
    go Taken = refl
    go Discarded = refl

-- ---- what is held afterwards
pub octets-after :
    (border : Bool) (r : Disposition) (o : Octets) (old : HeldOctets) → if_taken r (leb o.len 16) true ≡ true → valid_octets old ≡ true →
    valid_octets (octets_after (border_only border r) o old) ≡ true
octets-after true Absent o old e f = f
octets-after true Discarded o old e f = f
octets-after true Taken o old e f = e
octets-after false Absent o old e f = f
octets-after false Discarded o old e f = f
octets-after false Taken o old e f = f

-- what is missing leaves an absent one absent
list-absent : (p : ListParameter) (old : HeldList) → missing p.disposition ≡ true → not old.held ≡ true
    → not (list_after p old).held ≡ true
list-absent p old e f =
    ap (λ (h : HeldList). not h.held) (missing-keeps p.disposition (record { held = true; value = p.value }) old e) ∙ f

rate-absent : (p : RateParameter) (old : HeldRate) → missing p.disposition ≡ true → not old.held ≡ true
    → not (rate_after p old).held ≡ true
rate-absent p old e f =
    ap (λ (h : HeldRate). not h.held) (missing-keeps p.disposition (record { held = true; value = p.value }) old e) ∙ f

missing-border : (border : Bool) (r : Disposition) → missing r ≡ true → missing (border_only border r) ≡ true
missing-border true r e = e
missing-border false Absent e = refl
missing-border false Discarded e = refl
missing-border false Taken e = refl

octets-absent :
    (border : Bool) (p : OctetsParameter) (old : HeldOctets) → missing p.disposition ≡ true → not old.held ≡ true →
    not (octets_after (border_only border p.disposition) p.value old).held ≡ true
octets-absent border p old e f =
    let keeps = missing-keeps (border_only border p.disposition) (record { held = true; value = p.value }) old in
    ap (λ (h : HeldOctets). not h.held) (keeps (missing-border border p.disposition e)) ∙ f

list-after : (r : Disposition) (l : ItemList) (old : HeldList) → if_taken r (kept strings_in l) true ≡ true → valid_list old ≡ true →
    valid_list (if_taken r (record { held = true; value = l }) old) ≡ true
list-after Absent l old e f = f
list-after Discarded l old e f = f
list-after Taken l old e f = e

-- by the form
module _ (v : Version) (f d p : Bool) where
  form-by : f ≡ true → (v ≡ Draft → d ≡ true) → (v ≡ Published → p ≡ true) → (f && by_version v d p) ≡ true
  form-by e g h = both f (by_version v d p) e (go v refl)
    where
      go : (w : Version) → v ≡ w → by_version w d p ≡ true
      go Draft q = g q
      go Published q = h q

  draft-of : (f && by_version v d p) ≡ true → v ≡ Draft → d ≡ true
  draft-of e q = subst (λ (w : Version). by_version w d p ≡ true) q (both_right f (by_version v d p) e)

  published-of : (f && by_version v d p) ≡ true → v ≡ Published → p ≡ true
  published-of e q = subst (λ (w : Version). by_version w d p ≡ true) q (both_right f (by_version v d p) e)

module _ (delivery : Delivery) (n : Node) (time : ℕ) (c : Configuration) (sets : KeySets)
    (r : InRange n.version c) (old : version_valid n ≡ true) where
  abbrev after : Node
  after = configured delivery n time c sets (dispositions_of (is_border n) c)

  abbrev reports : Bool
  reports = error_reports_valid n.version n.errors

  draft-after : n.version ≡ Draft → draft_valid after ≡ true
  unfolding configured dispositions_of version_valid of_version
  draft-after q =
      let form = subst (λ (w : Version). of_version w c ≡ true) q r.form in
      let plain = keys_without_additional_info c.keys in
      let list = missing c.blacklist.disposition in
      let rate = missing c.rate.disposition in
      let was = draft-of n.version reports (draft_valid n) (published_valid n) old q in
      let absent = not n.blacklist.held in
      let free = not n.rate.held in
      let prefix = valid_octets n.prefix in
      let neither = both_left (absent && free) prefix was in
      let taken-neither = both_left (plain && list) rate form in
      let no-list = list-absent c.blacklist n.blacklist (both_right plain list taken-neither) (both_left absent free neither) in
      let no-rate = rate-absent c.rate n.rate (both_right (plain && list) rate form) (both_right absent free neither) in
      let short = both_right (absent && free) prefix was in
      both (not after.blacklist.held && not after.rate.held) (valid_octets after.prefix)
      (both (not after.blacklist.held) (not after.rate.held) no-list no-rate)
      (octets-after (is_border n) c.prefix.disposition c.prefix.value n.prefix r.prefix short)

  published-after : n.version ≡ Published → published_valid after ≡ true
  unfolding configured dispositions_of version_valid of_version
  published-after q =
      let form = subst (λ (w : Version). of_version w c ≡ true) q r.form in
      let network = missing c.network.disposition in
      let prefix = missing c.prefix.disposition in
      let list = list_in_range strings_in c.blacklist in
      let was = published-of n.version reports (draft_valid n) (published_valid n) old q in
      let absent = not n.prefix.held in
      let listed = valid_list n.blacklist in
      let gone = both_right network prefix (both_left (network && prefix) list form) in
      both (not after.prefix.held) (valid_list after.blacklist)
      (octets-absent (is_border n) c.prefix n.prefix gone (both_left absent listed was))
      (list-after c.blacklist.disposition c.blacklist.value n.blacklist (both_right (network && prefix) list form)
      (both_right absent listed was))

  pub form-after : ErrorReportsValid → version_valid after ≡ true
  unfolding configured version_valid
  form-after F =
      form-by n.version (error_reports_valid n.version (error_reports_of c)) (draft_valid after) (published_valid after)
      (F n.version c r.met)
      draft-after published-after
