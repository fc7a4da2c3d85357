-- The size, the tests in their order, and the map.
use native.Mathlib.Omega.{arith}
use Rattle.byte_io.specs.WriteLemmas.{did-refuse}
use Rattle.refusal.specs.declared.Refusal.TheVariants.{Range}
use Rattle.cojp.specs.Writing.{configuration_pairs}
use Rattle.cojp_write.proofs.octets.Maps.{map-over, map-within, map-room, map-emit}
use Rattle.cojp_write.proofs.octets.Plans.{planned-as}
use Rattle.cojp_write.proofs.configuration.Configurations.{configuration-sized, configuration-room, configuration-map}
use Rattle.cojp_write.proofs.configuration.emit_configuration.Goals as goal

pub returns-then-whole-gt256 : goal.returns-then-whole-gt256
returns-then-whole-gt256 c =
    let z = configuration-sized c.args.c c.laws.ensures.blacklist-written c.requires c.configuration_size-size.ensures in
    planned-as (map-over c.head_laws.ensures (configuration_pairs c.args.c) z (omega arith) c.args.dst.now c.if-whole-gt256.true)
    (did-refuse Range _)

pub returns-then-dst-whole : goal.returns-then-dst-whole
returns-then-dst-whole c =
    let z = configuration-sized c.args.c c.laws.ensures.blacklist-written c.requires c.configuration_size-size.ensures in
    planned-as (map-within c.head_laws.ensures (configuration_pairs c.args.c) z (omega arith) c.args.dst.now c.if-whole-gt256.false)
    (map-room c.head_laws.ensures (configuration_pairs c.args.c) z (omega arith) _ c.if-dst-whole.true)

pub put_configuration-requires : goal.put_configuration-requires
put_configuration-requires c =
    let law = c.laws.ensures.blacklist-written in (
      c.requires,
      configuration-room c.args.c law c.requires c.configuration_size-size.ensures c.head_laws.ensures c.args.dst.now
          c.if-dst-whole.false,
    )

pub returns : goal.returns
returns c =
    let law = c.laws.ensures.blacklist-written in
    let z = configuration-sized c.args.c law c.requires c.configuration_size-size.ensures in
    let wrote = configuration-map c.args.c law c.requires c.configuration_size-size.ensures c.put_configuration.ensures in
    planned-as (map-within c.head_laws.ensures (configuration_pairs c.args.c) z (omega arith) c.args.dst.now c.if-whole-gt256.false)
    (map-emit c.head_laws.ensures (configuration_pairs c.args.c) z (omega arith) _ c.if-dst-whole.false wrote)
