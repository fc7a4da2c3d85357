-- For the contracts of the writers alone: what they ask of an object that is in range in either form.
use Rattle.std.specs.Prelude.{◌≤◌, true, ◌≡◌}
use Rattle.cojp.specs.Lists.{strings_in, error_reports_in, at_least_one}
use Rattle.cojp.specs.Writing.{jrc_in_range, octets_in_range, list_in_range}
use Rattle.cojp.specs.declared.configuration.Configuration.{Configuration}
use Rattle.cojp.specs.declared.request.JoinRequest.{JoinRequest}

pub record RequestFits (q : JoinRequest) : Type 0 where
  pub role : q.role ≤ 1
  pub network : octets_in_range q.network ≡ true
  pub unsupported : list_in_range (at_least_one error_reports_in) q.unsupported ≡ true

pub record ConfigurationFits (c : Configuration) : Type 0 where
  pub jrc : jrc_in_range c.jrc ≡ true
  pub network : octets_in_range c.network ≡ true
  pub prefix : octets_in_range c.prefix ≡ true
  pub blacklist : list_in_range strings_in c.blacklist ≡ true
