-- What a short address is. IEEE 802.15.4 keeps two of the values of two bytes for itself: FFFF is the broadcast address, and FFFE says that
-- no short address was allocated.
use Rattle.std.specs.Prelude.{ℕ, ◌<◌, ◌/◌, ◌%◌, ◌≡◌, Bool, false, not, ◌&&◌, ◌⊎◌, List, [], ◌∷◌, eqb, leb, ltb, length, get_or}

-- the bytes FF FE and FF FF, in the payload's order
abbrev pub is_reserved : List ℕ → Bool
is_reserved s = (eqb (get_or s 0 0) 0xff && leb 0xfe (get_or s 1 0))

-- any other two bytes are an address
unfoldable pub is_address : List ℕ → Bool
is_address s = (eqb (length s) 2 && not (is_reserved s))

-- the bytes of the address with this number: the high one first
unfoldable pub bytes_of : ℕ → List ℕ
bytes_of n = n / 256 ∷ n % 256 ∷ []

-- the two as claims name them, byte by byte
abbrev pub Reserved : List ℕ → Type 0
Reserved s = (s ≡ 0xff ∷ 0xfe ∷ []) ⊎ (s ≡ 0xff ∷ 0xff ∷ [])

pub record AddressLaws : Type 0 where
  -- by their numbers, the addresses are 0000 to FFFD
  pub numbers : (n : ℕ) → n < 0x10000 → is_address (bytes_of n) ≡ ltb n 0xfffe
  -- no other length is one, and neither of the two is
  pub two_bytes : (s : List ℕ) → ¬ (length s ≡ 2) → is_address s ≡ false
  pub reserved : (s : List ℕ) → Reserved s → is_address s ≡ false
