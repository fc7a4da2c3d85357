-- What sealing and opening are to each other, over all keys, nonces, data, texts and destinations.
use Rattle.std.specs.Prelude.{List, ◌≡◌, ℕ, ◌+◌, ◌-◌, ◌≤◌, length, drop, Result}
use Rattle.refusal.specs.Refusal.{number_of}
use Rattle.refusal.specs.declared.Refusal.{Refusal}
use Rattle.refusal.specs.declared.Refusal.TheVariants.{Seal}
use Rattle.aes.specs.Bounds.{Bytes}
use Rattle.aes.specs.Cipher.{round_keys}
use Rattle.aes_ccm.specs.Ccm.{sealed, text_of, tag}
use Rattle.aes_ccm.specs.Plan.{refuse, emit, Did, number_in, length_in, seal_plan, unseal_plan}

-- c is within the limits, and so are the data a and the destination
pub record Judged (a c : List ℕ) (room : ℕ) : Type 0 where
  pub data-fits : length a ≤ 64
  pub tag-there : 8 ≤ length c
  pub text-fits : length c ≤ 264
  pub has_room : length c - 8 ≤ room

-- the last eight bytes of c are the tag that RFC 3610 gives the text in it
abbrev pub RightTag : List ℕ → List ℕ → List ℕ → List ℕ → Type 0
RightTag key nonce a c = drop (length c - 8) c ≡ tag (round_keys 10 key) nonce a (text_of key nonce c)

pub record CcmLaws : Type 0 where
  -- within the limits sealing is not refused
  pub seals : (key nonce a m : List ℕ) (room : ℕ) → length a ≤ 64 → length m ≤ 256 → length m + 8 ≤ room
      → seal_plan key nonce a m room ≡ emit (sealed key nonce a m)
  -- what was sealed with this key, nonce and data opens to its text
  pub sealed-opens : (key nonce a m : List ℕ) (room : ℕ) → length a ≤ 64 → length m ≤ 256 → length m ≤ room
      → unseal_plan key nonce a (sealed key nonce a m) room ≡ emit m
  -- what opens to m is, byte by byte, what sealing m gives: a damaged input that opened would be another text with that text's own tag
  pub opened-was-sealed : (key nonce a c m : List ℕ) (room : ℕ) → unseal_plan key nonce a c room ≡ emit m → c ≡ sealed key nonce a m
  -- within the limits an input opens exactly when its tag is the right one
  pub right-tag : (key nonce a c : List ℕ) (room : ℕ) → Judged a c room → RightTag key nonce a c
      → unseal_plan key nonce a c room ≡ emit (text_of key nonce c)
  pub wrong-tag : (key nonce a c : List ℕ) (room : ℕ) → Judged a c room → (RightTag key nonce a c → ⊥)
      → unseal_plan key nonce a c room ≡ refuse Seal
  -- what opens under a key of bytes is of bytes
  pub opened-bytes : (key nonce a c m : List ℕ) (room : ℕ) → Bytes key → Bytes c → unseal_plan key nonce a c room ≡ emit m → Bytes m
  pub length-sealed : (key nonce a m : List ℕ) → length (sealed key nonce a m) ≡ length m + 8
  -- a refused call answers the refusal's number and no length, and leaves the destination
  pub refused : (k : Refusal) (d d' : List ℕ) (r : Result ℕ Refusal) → Did (refuse k) d r d'
      → (number_in r ≡ number_of k) × (length_in r ≡ 0) × (d' ≡ d)
