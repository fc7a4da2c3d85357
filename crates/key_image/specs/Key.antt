-- Keys as bytes. A key, 27: identifier 1, usage 1, value 16, additional information 9. A key set, 217: count 1, eight keys; a count over
-- 255 does not fit. A key set with counters, 249: the key set, and eight counters of 4.
use Rattle.std.specs.Prelude.{ℕ, List}
use Rattle.image.specs.Part.{Part, byte, number, octets, both, viewed, times}
use Rattle.link_key.specs.Key.{key_with_additional_info}
use Rattle.link_key.specs.declared.Key.{Key}
use Rattle.link_key.specs.declared.additional_info.AdditionalInfo.{AdditionalInfo}
use Rattle.link_key.specs.declared.set.key_set.KeySet.{KeySet}
use Rattle.link_key_counters.specs.declared.CountedSet.{CountedSet}
use Rattle.key_image.specs.AdditionalInfo.{additional_info_part}

-- ---- a key
abbrev pub key_fields : Part (ℕ × (ℕ × (List ℕ × AdditionalInfo)))
key_fields = both byte (both byte (both (octets 16) additional_info_part))

abbrev pub key_to : ℕ × (ℕ × (List ℕ × AdditionalInfo)) → Key
key_to x = key_with_additional_info x.0 x.1.0 x.1.1.0 x.1.1.1

abbrev pub key_from : Key → ℕ × (ℕ × (List ℕ × AdditionalInfo))
key_from k = (k.identifier, (k.usage, (k.value, k.info)))

abbrev pub key_part : Part Key
key_part = viewed key_fields key_to key_from

-- ---- a key set
abbrev pub set_fields : Part (ℕ × List Key)
set_fields = both (number 1) (times 8 key_part)

abbrev pub set_to : ℕ × List Key → KeySet
set_to x = record { count = x.0; keys = x.1 }

abbrev pub set_from : KeySet → ℕ × List Key
set_from s = (s.count, s.keys)

abbrev pub key_set_part : Part KeySet
key_set_part = viewed set_fields set_to set_from

-- ---- a key set with counters
abbrev pub counted_fields : Part (KeySet × List ℕ)
counted_fields = both key_set_part (times 8 (number 4))

abbrev pub counted_to : KeySet × List ℕ → CountedSet
counted_to x = record { set = x.0; counters = x.1 }

abbrev pub counted_from : CountedSet → KeySet × List ℕ
counted_from s = (s.set, s.counters)

abbrev pub counted_set_part : Part CountedSet
counted_set_part = viewed counted_fields counted_to counted_from
