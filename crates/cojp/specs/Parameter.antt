-- Which parameter a configuration's label names in each form.
use Rattle.std.specs.Prelude.{ℕ, cond, eqb}
use Rattle.protocol_version.specs.Version.{by_version}
use Rattle.cojp.specs.declared.parameter.Parameter.{Parameter}
use Rattle.cojp.specs.declared.parameter.Parameter.TheVariants.{Keys, Address, Jrc, Network, Prefix, Blacklist, Rate, Unknown}
use Rattle.protocol_version.specs.declared.Version.{Version}

-- the labels after 4: 5 network identifier and 6 prefix in the draft, 6 blacklist and 7 join rate in the published form
unfoldable pub later_parameter : Version → ℕ → Parameter
later_parameter v n =
    by_version v
    (cond (eqb n 5) Network (cond (eqb n 6) Prefix Unknown))
    (cond (eqb n 6) Blacklist (cond (eqb n 7) Rate Unknown))

-- 2 key set, 3 short address, 4 JRC address in both
unfoldable pub parameter_of : Version → ℕ → Parameter
parameter_of v n = cond (eqb n 2) Keys (cond (eqb n 3) Address (cond (eqb n 4) Jrc (later_parameter v n)))
