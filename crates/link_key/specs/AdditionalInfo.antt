-- Additional information of a key (RFC 9031): a key source of 4 or of 8 bytes, or none.
use Rattle.std.specs.Prelude.{ℕ, ◌-◌, Bool, true, false, List, [], ◌∷◌, ◌++◌, length, replicate}
use Rattle.std.proofs.Math.Option.{Option, none, some}
use Rattle.link_key.specs.declared.additional_info.AdditionalInfo.{AdditionalInfo}
use Rattle.link_key.specs.declared.additional_info.AdditionalInfo.TheVariants as info
use Rattle.link_key.specs.declared.additional_info.PaddedBytes.{PaddedBytes}

-- its bytes, in their order in the payload
abbrev pub additional_info_bytes : AdditionalInfo → List ℕ
additional_info_bytes info.Absent = []
additional_info_bytes (info.Four a b c d) = a ∷ b ∷ c ∷ d ∷ []
additional_info_bytes (info.Eight a b c d e f g h) = a ∷ b ∷ c ∷ d ∷ e ∷ f ∷ g ∷ h ∷ []

-- the bytes as code has them: so many of eight, zeros after them
abbrev pub padded_bytes : AdditionalInfo → PaddedBytes
padded_bytes i =
    record { len = length (additional_info_bytes i); bytes = additional_info_bytes i ++ replicate (8 - length (additional_info_bytes i)) 0 }

-- the information that a byte string is: 4 bytes or 8, and every other length is none
abbrev pub additional_info_in : List ℕ → Option AdditionalInfo
additional_info_in (a ∷ b ∷ c ∷ d ∷ []) = some (info.Four a b c d)
additional_info_in (a ∷ b ∷ c ∷ d ∷ e ∷ f ∷ g ∷ h ∷ []) = some (info.Eight a b c d e f g h)
additional_info_in [] = none
additional_info_in (a ∷ []) = none
additional_info_in (a ∷ b ∷ []) = none
additional_info_in (a ∷ b ∷ c ∷ []) = none
additional_info_in (a ∷ b ∷ c ∷ d ∷ e ∷ []) = none
additional_info_in (a ∷ b ∷ c ∷ d ∷ e ∷ f ∷ []) = none
additional_info_in (a ∷ b ∷ c ∷ d ∷ e ∷ f ∷ g ∷ []) = none
additional_info_in (a ∷ b ∷ c ∷ d ∷ e ∷ f ∷ g ∷ h ∷ i ∷ r) = none

-- there is none
abbrev pub no_additional_info : AdditionalInfo → Bool
no_additional_info info.Absent = true
no_additional_info (info.Four a b c d) = false
no_additional_info (info.Eight a b c d e f g h) = false
