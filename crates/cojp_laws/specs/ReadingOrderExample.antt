-- Each step of the readers' order refuses a payload that no step before it refuses, and one that later steps would refuse too.
use Rattle.std.specs.Prelude.{ℕ, ◌≡◌, Bool, true, false, List, [], ◌∷◌, replicate}
use Rattle.protocol_version.specs.declared.Version.{Version}
use Rattle.protocol_version.specs.declared.Version.TheVariants.{Draft, Published}
use Rattle.cojp_laws.specs.ReadingOrder.{request_number, configuration_number}

-- a payload, how it is read, and the number that is answered
pub record Sample : Type 0 where
  pub version : Version
  pub strict : Bool
  pub payload : List ℕ
  pub number : ℕ

abbrev pub draft : List ℕ → ℕ → Sample
draft p n = record { version = Draft; strict = false; payload = p; number = n }

abbrev pub strictly : List ℕ → ℕ → Sample
strictly p n = record { version = Draft; strict = true; payload = p; number = n }

abbrev pub published : List ℕ → ℕ → Sample
published p n = record { version = Published; strict = false; payload = p; number = n }

abbrev pub AllNumbered : (Version → Bool → List ℕ → ℕ) → List Sample → Type 0
AllNumbered answer [] = Unit {0}
AllNumbered answer (x ∷ xs) = (answer x.version x.strict x.payload ≡ x.number) × AllNumbered answer xs

abbrev pub requests : List Sample
requests =
    -- LONG, which is no item either
    draft (replicate 257 0xFF) 15
    -- CUT, FORM, and DEEP where bytes are also missing
    ∷ draft (0xA1 ∷ 0x05 ∷ 0x42 ∷ 0xCA ∷ []) 1
    ∷ draft (0xA2 ∷ 0x01 ∷ 0x1C ∷ []) 2
    ∷ draft (replicate 8 0x81) 3
    -- LOOSE before missing string bytes
    ∷ strictly (0xA1 ∷ 0x05 ∷ 0x58 ∷ 0x02 ∷ []) 19
    -- EXTRA, where the item is no map
    ∷ draft (0x80 ∷ 0x00 ∷ []) 4
    -- TYPE: no map
    ∷ draft (0x80 ∷ []) 5
    -- the first pair's content (ROLE) before the second's label kind
    ∷ draft (0xA2 ∷ 0x01 ∷ 0x02 ∷ 0x40 ∷ 0x00 ∷ []) 8
    -- TYPE: a label that is no integer, before ROLE in the second pair
    ∷ draft (0xA2 ∷ 0x40 ∷ 0x00 ∷ 0x01 ∷ 0x02 ∷ []) 5
    -- TWICE, before the second value's kind
    ∷ draft (0xA2 ∷ 0x05 ∷ 0x40 ∷ 0x05 ∷ 0x00 ∷ []) 6
    -- TYPE: a value of another kind
    ∷ draft (0xA1 ∷ 0x05 ∷ 0x00 ∷ []) 5
    -- OWED last
    ∷ draft (0xA1 ∷ 0x18 ∷ 0x63 ∷ 0xF6 ∷ []) 9
    ∷ draft (0xA1 ∷ 0x01 ∷ 0x01 ∷ []) 0
    -- in the published form no value refuses, and the identifier is due from every role
    ∷ published (0xA1 ∷ 0x01 ∷ 0x02 ∷ []) 9
    ∷ published (0xA2 ∷ 0x01 ∷ 0x40 ∷ 0x01 ∷ 0x00 ∷ []) 6
    ∷ published (0xA2 ∷ 0x01 ∷ 0x02 ∷ 0x05 ∷ 0x40 ∷ []) 0
    ∷ []

abbrev pub configurations : List Sample
configurations =
    draft (replicate 257 0xFF) 15
    ∷ draft [] 1
    ∷ draft (0xA1 ∷ 0x02 ∷ 0x80 ∷ 0x00 ∷ []) 4
    -- TYPE, the whole pattern before any content: a bad identifier first, a broken group last
    ∷ draft (0xA1 ∷ 0x02 ∷ 0x83 ∷ 0x00 ∷ 0x40 ∷ 0x01 ∷ []) 5
    -- KEYS, before the second pair's label kind
    ∷ draft (0xA2 ∷ 0x02 ∷ 0x80 ∷ 0x40 ∷ 0x00 ∷ []) 7
    -- TWICE after a discarded address
    ∷ draft (0xA2 ∷ 0x03 ∷ 0x81 ∷ 0x40 ∷ 0x03 ∷ 0x00 ∷ []) 6
    ∷ draft (0xA1 ∷ 0x04 ∷ 0x00 ∷ []) 5
    ∷ published (0xA2 ∷ 0x02 ∷ 0x80 ∷ 0x04 ∷ 0x00 ∷ []) 0
    ∷ published (0xA2 ∷ 0x07 ∷ 0x40 ∷ 0x07 ∷ 0x00 ∷ []) 6
    ∷ published (0xA1 ∷ 0x05 ∷ 0x00 ∷ []) 0
    ∷ []

pub record ReadingOrderExample : Type 0 where
  pub request : AllNumbered request_number requests
  pub configuration : AllNumbered configuration_number configurations
