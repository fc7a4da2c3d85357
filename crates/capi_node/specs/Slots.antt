-- A key of the active set with its counter, where they stand in an image.
use Rattle.std.specs.Prelude.{ℕ, ◌+◌, ◌*◌, cond, List, ltb, take, drop}
use Rattle.std.specs.declared.option.Option.{Option as Index}
use Rattle.std.specs.declared.option.Option.TheVariants.{None, Some}
use Rattle.std.proofs.Math.Option.{Option, none, some}
use Rattle.byte_io.specs.BigEndian.{big_endian}
use Rattle.key_image.specs.Key.{key_part}
use Rattle.link_key.specs.declared.Key.{Key}
use Rattle.link_key_counters.specs.Counters.{Slot, slot}

abbrev pub key_at : List ℕ → ℕ → Key
key_at s i = key_part.get (drop (30 + 27 * i) s)

abbrev pub counter_at : List ℕ → ℕ → ℕ
counter_at s i = big_endian (take 4 (drop (246 + 4 * i) s))

-- the slot at one of the eight indices; none at any other
abbrev pub slot_at : List ℕ → ℕ → Option Slot
slot_at s i = cond (ltb i 8) (some (slot i (key_at s i) (counter_at s i))) none

-- the slot at an index that was looked for
abbrev pub slot_found : List ℕ → Index ℕ → Option Slot
slot_found s None = none
slot_found s (Some i) = slot_at s i
