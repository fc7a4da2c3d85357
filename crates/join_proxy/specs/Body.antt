-- The option body of 31 bytes (document 02, request 7): a number, and under its seal what names the pledge.
use Rattle.std.specs.Prelude.{List, [], ◌∷◌, ◌++◌, ◌≡◌, ℕ, ◌+◌, ◌*◌, ◌/◌, ◌%◌, length, get_or, drop}
use Rattle.lemmas.specs.lists.Table.{table}
use Rattle.aes_ccm.specs.Ccm.{sealed, two}

-- a number below 2^32 in four bytes, the most significant first
abbrev pub four : ℕ → List ℕ
four n = (n / 16777216) ∷ (n / 65536 % 256) ∷ (n / 256 % 256) ∷ (n % 256) ∷ []

-- the number that four bytes are
abbrev pub number_of : List ℕ → ℕ
number_of b = get_or b 0 0 * 16777216 + get_or b 1 0 * 65536 + get_or b 2 0 * 256 + get_or b 3 0

-- nine zeros and the number as it stands in the body
abbrev pub nonce_with : List ℕ → List ℕ
nonce_with number = 0 ∷ 0 ∷ 0 ∷ 0 ∷ 0 ∷ 0 ∷ 0 ∷ 0 ∷ 0 ∷ number

-- a token in eight bytes, zeros after it
abbrev pub eight : List ℕ → List ℕ
eight token = table 8 (λ i. get_or token i 0)

-- what is sealed, 19 bytes: interface identifier 8, port 2, token length 1, token 8
unfoldable pub pledge_text : List ℕ → ℕ → List ℕ → List ℕ
pledge_text interface port token = interface ++ two port ++ (length token ∷ eight token)

-- the body: the number's four bytes, and the text sealed with no associated data
unfoldable pub body_of : List ℕ → List ℕ → List ℕ → List ℕ
body_of key number text = number ++ sealed key (nonce_with number) [] text

-- the body was written: it has 31 bytes, which stand in front of what the destination held after them
pub record BodyWritten (key number text d d' : List ℕ) : Type 0 where
  pub long : length (body_of key number text) ≡ 31
  pub holds : d' ≡ body_of key number text ++ drop 31 d
