-- What the layers above may rely on of keys that are equal, have the same identifier and value, or have no additional information, whatever
-- the definition is.
use Rattle.std.specs.Prelude.{◌≡◌, true}
use Rattle.link_key.specs.Key.{has_no_additional_info, same_key, same_secret}
use Rattle.link_key.specs.declared.Key.{Key}
use Rattle.link_key.specs.declared.additional_info.AdditionalInfo.TheVariants.{Absent}

pub record SameKeyLaws : Type 0 where
  pub same-key-self : (k : Key) → same_key k k ≡ true
  pub same-key-equal : (k l : Key) → same_key k l ≡ true → k ≡ l
  -- a frame counter goes with identifier and value, and with nothing else of a key
  pub same-secret-says : (k l : Key) → same_secret k l ≡ true → (k.identifier ≡ l.identifier) × (k.value ≡ l.value)
  pub same-secret-made : (k l : Key) → k.identifier ≡ l.identifier → k.value ≡ l.value → same_secret k l ≡ true
  -- a key of draft 004
  pub plain-info : (k : Key) → has_no_additional_info k ≡ true → k.info ≡ Absent
