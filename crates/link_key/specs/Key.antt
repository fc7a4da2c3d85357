-- A link-layer key: its limits, when two are equal, and which frames it covers.
use Rattle.refusal.specs.declared.Refusal.{Refusal}
use Rattle.std.specs.Prelude.{ℕ, Bool, cond, ◌&&◌, List, leb, eqb, length, replicate, Result, Ok, Err}
use Rattle.std.proofs.Math.Option.{Option, none, some}
use Rattle.std.specs.declared.option.Option.{Option as Found}
use Rattle.std.specs.declared.option.Option.TheVariants.{None, Some}
use Rattle.refusal.specs.Refusal.{number_of}
use Rattle.refusal.specs.declared.Refusal.TheVariants.{Range}
use Rattle.lemmas.specs.lists.Same.{same}
use Rattle.link_key.specs.AdditionalInfo.{additional_info_bytes, no_additional_info}
use Rattle.link_key.specs.usage.Usage.{family_of, family_covers, listed, known_type}
use Rattle.link_key.specs.declared.Key.{Key}
use Rattle.link_key.specs.declared.additional_info.AdditionalInfo.{AdditionalInfo}
use Rattle.link_key.specs.declared.additional_info.AdditionalInfo.TheVariants as info

-- the one place that makes a key
abbrev pub key_with_additional_info : ℕ → ℕ → List ℕ → AdditionalInfo → Key
key_with_additional_info identifier usage value info = record { identifier = identifier; usage = usage; value = value; info = info }

-- a key without additional information
abbrev pub key_of : ℕ → ℕ → List ℕ → Key
key_of identifier usage value = key_with_additional_info identifier usage value info.Absent

-- all zero: what stands where there is no key
abbrev pub no_key : Key
no_key = key_of 0 0 (replicate 16 0)

-- a key that was looked for, as code has it
abbrev pub found_key : Option Key → Found Key
found_key none = None
found_key (some k) = Some k

-- identifier 1 to 255, usage 0 to 14, value 16 bytes
unfoldable pub valid_key : Key → Bool
valid_key k = (leb 1 k.identifier && leb k.identifier 255 && listed k.usage && eqb (length k.value) 16)

-- no additional information, as every key of draft 004; a published key may have some, so it is no part of a key's limits
unfoldable pub has_no_additional_info : Key → Bool
has_no_additional_info k = no_additional_info k.info

-- two keys are equal when identifier, usage, value and additional information are
unfoldable pub same_key : Key → Key → Bool
same_key k l =
    (eqb k.identifier l.identifier
    && eqb k.usage l.usage
    && same k.value l.value
    && same (additional_info_bytes k.info) (additional_info_bytes l.info))

-- the same identifier and value, whatever the usage and the additional information
unfoldable pub same_secret : Key → Key → Bool
same_secret k l = (eqb k.identifier l.identifier && same k.value l.value)

-- the key covers the frame type; one whose usage is not listed covers none
unfoldable pub covers : Key → ℕ → Bool
covers k type = (listed k.usage && family_covers (family_of k.usage) type)

-- the answer to the question whether it does
unfoldable pub coverage_of : Key → ℕ → Result Bool Refusal
coverage_of k type = cond (known_type type && listed k.usage) (Ok (covers k type)) (Err Range)

-- the answer in document 01's terms: the refusal's number, 0 where there is none, and whether it covers, none where it is refused
abbrev pub coverage_says : Result Bool Refusal → ℕ × Option Bool
coverage_says (Err why) = (number_of why, none)
coverage_says (Ok answer) = (0, some answer)
