-- Laws of additional information: its bytes tell it, since no two lengths are alike.
use mathlib.Core.Path.{◌≡◌, refl}
use mathlib.Core.Bool.{true, false≢true}
use mathlib.Core.Option.{Option, none, some}
use Rattle.link_key.specs.AdditionalInfo.{additional_info_bytes, additional_info_in, no_additional_info}
use Rattle.link_key.specs.Key.{has_no_additional_info}
use Rattle.link_key.specs.declared.Key.{Key}
use Rattle.link_key.specs.declared.additional_info.AdditionalInfo.{AdditionalInfo}
use Rattle.link_key.specs.declared.additional_info.AdditionalInfo.TheVariants as info

-- what a byte string is, and none where it is nothing
abbrev or_none : Option AdditionalInfo → AdditionalInfo
or_none none = info.Absent
or_none (some i) = i

back : (i : AdditionalInfo) → or_none (additional_info_in (additional_info_bytes i)) ≡ i
back info.Absent = refl
back (info.Four a b c d) = refl
back (info.Eight a b c d e f g h) = refl

-- equal bytes are equal information
pub info-equal : (i j : AdditionalInfo) → additional_info_bytes i ≡ additional_info_bytes j → i ≡ j
info-equal i j e = rw (← back i, e) (back j)

none-there : (i : AdditionalInfo) → no_additional_info i ≡ true → i ≡ info.Absent
none-there info.Absent e = refl
none-there (info.Four a b c d) e = absurd (false≢true e)
none-there (info.Eight a b c d e f g h) p = absurd (false≢true p)

pub plain-info : (k : Key) → has_no_additional_info k ≡ true → k.info ≡ info.Absent
unfolding has_no_additional_info
plain-info k e = none-there k.info e
