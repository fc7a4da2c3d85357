-- The plan of a configuration: RANGE, or what is in range.
use Rattle.std.specs.Prelude.{Result, Err}
use Rattle.refusal.specs.declared.Refusal.{Refusal}
use mathlib.Core.Path.{◌≡◌}
use mathlib.Core.Bool.{true, false}
use mathlib.Core.List.{List}
use Prim.Native.Nat.{ℕ}
use Rattle.refusal.specs.declared.Refusal.TheVariants.{Range}
use Rattle.byte_io.specs.Write.{Did}
use Rattle.cbor.specs.Encode.{encode}
use Rattle.cbor.specs.Item.{map_item}
use Rattle.byte_io.specs.WriteLemmas.{did-refuse}
use Rattle.cojp.specs.Writing.{fits, configuration_pairs, configuration_in_range, configuration_plan}
use Rattle.cojp.specs.declared.configuration.Configuration.{Configuration}
use Rattle.protocol_version.specs.declared.Version.{Version}

module _ (v : Version) (c : Configuration) where
  pub configuration-range : (d : List ℕ) → configuration_in_range v c ≡ false → Did (configuration_plan v c) d (Err Range) d
  unfolding configuration_plan
  configuration-range d h = simp h (did-refuse Range d)

  pub configuration-emit : {d d' : List ℕ} {r : Result ℕ Refusal} → configuration_in_range v c ≡ true
      → Did (fits (encode (map_item (configuration_pairs c)))) d r d'
      → Did (configuration_plan v c) d r d'
  unfolding configuration_plan
  configuration-emit h w = simp h w
