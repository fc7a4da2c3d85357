-- What a node makes of each parameter of a configuration.
use Rattle.std.specs.Prelude.{Bool, cond}
use Rattle.cojp.specs.declared.configuration.Configuration.{Configuration}
use Rattle.cojp.specs.declared.disposition.Disposition.{Disposition}
use Rattle.cojp.specs.declared.disposition.Disposition.TheVariants.{Absent, Taken, Discarded}
use Rattle.node_parameters.specs.declared.dispositions.Dispositions.{Dispositions}

abbrev pub no_dispositions : Dispositions
no_dispositions = record {
  keys = Absent;
  address = Absent;
  jrc = Absent;
  network = Absent;
  prefix = Absent;
  blacklist = Absent;
  rate = Absent;
  unknown = 0;
}

-- an ordinary node further discards network identifier and prefix; blacklist and join rate are for both roles
abbrev pub discarded : Disposition → Disposition
discarded Absent = Absent
discarded Taken = Discarded
discarded Discarded = Discarded

abbrev pub border_only : Bool → Disposition → Disposition
border_only border r = cond border r (discarded r)

unfoldable pub dispositions_of : Bool → Configuration → Dispositions
dispositions_of border c = record {
  keys = c.keys.disposition;
  address = c.address.disposition;
  jrc = c.jrc.disposition;
  network = border_only border c.network.disposition;
  prefix = border_only border c.prefix.disposition;
  blacklist = c.blacklist.disposition;
  rate = c.rate.disposition;
  unknown = c.unknown;
}
