-- What an answer about a byte string says of it.
use mathlib.Core.Path.{◌≡◌, refl}
use mathlib.Core.Option.{Option, none, some}
use Rattle.std.specs.declared.option.Option.TheVariants.{None, Some}
use Rattle.link_key.specs.declared.additional_info.AdditionalInfo.{AdditionalInfo}
use Rattle.cojp_key_set.specs.Groups.{additional_info_answer}

pub info-none : (o : Option AdditionalInfo) → additional_info_answer o ≡ None → o ≡ none
info-none none e = refl
info-none (some i) e = cc

pub info-some : (o : Option AdditionalInfo) (x : AdditionalInfo) → additional_info_answer o ≡ Some x → o ≡ some x
info-some none x e = cc
info-some (some i) x e = cc
