-- An object in range: each limit by itself.
use mathlib.Core.Path.{◌≡◌, refl}
use mathlib.Core.Bool.{Bool, true, ◌&&◌, false≢true}
use borrow.Author.Tests.{leb-true}
use lib.Dec.{leb}
use Rattle.lemmas.specs.logic.Tests.{both_left, both_right}
use Rattle.cojp.specs.Lists.{strings_in, error_reports_in, at_least_one}
use Rattle.cojp.specs.Reading.{if_taken}
use Rattle.protocol_version.specs.Version.{by_version}
use Rattle.cojp.specs.Writing.{missing, octets_in_range, jrc_in_range, address_in_range, keys_in_range}
use Rattle.cojp.specs.Writing.{keys_without_additional_info, list_in_range, of_version, request_in_range, configuration_in_range}
use Rattle.cojp.specs.declared.configuration.Configuration.{Configuration}
use Rattle.cojp.specs.declared.list.ListParameter.{ListParameter}
use Rattle.cojp.specs.declared.disposition.Disposition.{Disposition}
use Rattle.cojp.specs.declared.disposition.Disposition.TheVariants.{Absent, Taken, Discarded}
use Rattle.cojp.specs.declared.request.JoinRequest.{JoinRequest}
use Rattle.protocol_version.specs.declared.Version.{Version}
use Rattle.protocol_version.specs.declared.Version.TheVariants.{Draft, Published}
use Rattle.cojp_write.specs.octets.Fits.{RequestFits, ConfigurationFits}

-- a list that is missing is not judged
missing-fits : (r : Disposition) (b : Bool) → missing r ≡ true → if_taken r b true ≡ true
missing-fits Absent b h = refl
missing-fits Taken b h = absurd (false≢true h)
missing-fits Discarded b h = refl

reports-fit : (v : Version) (p : ListParameter)
    → by_version v (missing p.disposition) (list_in_range (at_least_one error_reports_in) p) ≡ true
    → list_in_range (at_least_one error_reports_in) p ≡ true
reports-fit Draft p h = missing-fits p.disposition _ h
reports-fit Published p h = h

pub request-fits : (v : Version) (q : JoinRequest) → request_in_range v q ≡ true → RequestFits q
unfolding request_in_range
request-fits v q h =
    let r = leb q.role 1 in
    let n = octets_in_range q.network in
    let u = by_version v (missing q.unsupported.disposition) (list_in_range (at_least_one error_reports_in) q.unsupported) in
    let f = both_left (r && n) u h in
    record {
      role = leb-true _ _ (both_left r n f);
      network = both_right r n f;
      unsupported = reports-fit v q.unsupported (both_right (r && n) u h);
    }

-- what the writers ask of a configuration; which labels came is not asked
pub record Judged (v : Version) (c : Configuration) : Type 0 where
  pub keys : keys_in_range c.keys ≡ true
  pub address : address_in_range c.address ≡ true
  pub jrc : jrc_in_range c.jrc ≡ true
  pub network : octets_in_range c.network ≡ true
  pub prefix : octets_in_range c.prefix ≡ true
  pub form : of_version v c ≡ true

pub configuration-fits : (v : Version) (c : Configuration) → configuration_in_range v c ≡ true → Judged v c
unfolding configuration_in_range
configuration-fits v c h =
    let k = keys_in_range c.keys in
    let a = address_in_range c.address in
    let j = jrc_in_range c.jrc in
    let n = octets_in_range c.network in
    let p = octets_in_range c.prefix in
    let e = both_left (k && a && j && n && p) (of_version v c) h in
    let f = both_left (k && a && j && n) p e in
    let g = both_left (k && a && j) n f in
    let i = both_left (k && a) j g in
    record {
      keys = both_left k a i;
      address = both_right k a i;
      jrc = both_right (k && a) j g;
      network = both_right (k && a && j) n f;
      prefix = both_right (k && a && j && n) p e;
      form = both_right (k && a && j && n && p) (of_version v c) h;
    }

blacklist-fits : (v : Version) (c : Configuration) → of_version v c ≡ true → list_in_range strings_in c.blacklist ≡ true
unfolding of_version
blacklist-fits Draft c h =
    let k = keys_without_additional_info c.keys in
    let b = missing c.blacklist.disposition in
    missing-fits c.blacklist.disposition _ (both_right k b (both_left (k && b) (missing c.rate.disposition) h))
blacklist-fits Published c h =
    both_right (missing c.network.disposition && missing c.prefix.disposition) (list_in_range strings_in c.blacklist) h

pub writing-fits : (v : Version) (c : Configuration) → configuration_in_range v c ≡ true → ConfigurationFits c
writing-fits v c h =
    let f = configuration-fits v c h in
    record { jrc = f.jrc; network = f.network; prefix = f.prefix; blacklist = blacklist-fits v c f.form }
