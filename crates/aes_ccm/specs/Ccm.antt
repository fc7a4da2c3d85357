-- RFC 3610 at L = 2 and M = 8, over AES-128: AES-CCM-16-64-128 of RFC 8152. A nonce has thirteen bytes.
-- `ks` are the cipher's round keys; a is the associated data, m the text.
use Rattle.std.specs.Prelude.{Bool, List, [], ◌∷◌, ◌++◌, ℕ, zero, suc, ◌+◌, ◌*◌, ◌-◌, ◌/◌, ◌%◌, min, length, get_or, take, drop}
use Rattle.lemmas.specs.lists.Xor.{◌⊕◌}
use Rattle.lemmas.specs.lists.Same.{same}
use Rattle.lemmas.specs.lists.Table.{table}
use Rattle.aes.specs.Cipher.{add_round_key, cipher, round_keys}

-- 2.2: the first sixteen bytes, padded with zeros
unfoldable pub block : List ℕ → List ℕ
block bs = table 16 (λ i. get_or bs i 0)

-- the first n blocks of the bytes
unfoldable pub blocks_of : ℕ → List ℕ → List (List ℕ)
blocks_of zero bs = []
blocks_of (suc n) bs = block bs ∷ blocks_of n (drop 16 bs)

-- 2.2: the bytes split into blocks, the last padded with zeros
unfoldable pub blocks : List ℕ → List (List ℕ)
blocks bs = blocks_of ((length bs + 15) / 16) bs

-- a number below 2^16 in two bytes, the most significant first
abbrev pub two : ℕ → List ℕ
two n = (n / 256) ∷ (n % 256) ∷ []

-- 2.2: 64 where there is associated data, 8 times (M - 2) / 2, and L - 1
abbrev pub flags : List ℕ → ℕ
flags a = 64 * min 1 (length a) + 8 * ((8 - 2) / 2) + (2 - 1)

-- one byte of flags, the nonce, and a number
abbrev pub framing : ℕ → List ℕ → ℕ → List ℕ
framing f nonce n = f ∷ nonce ++ two n

-- 2.2: B_0
unfoldable pub first_block : List ℕ → List ℕ → List ℕ → List ℕ
first_block nonce a m = framing (flags a) nonce (length m)

-- 2.2: the associated data after its length, which is below 2^16 - 2^8; nothing where there is none
unfoldable pub headed : List ℕ → List ℕ
headed [] = []
headed (x ∷ a) = two (length (x ∷ a)) ++ x ∷ a

-- 2.2: X_(i+1) = E(K, X_i xor B_i)
unfoldable pub chain : List (List ℕ) → List ℕ → List (List ℕ) → List ℕ
chain ks x [] = x
chain ks x (b ∷ bs) = chain ks (cipher ks (add_round_key x b)) bs

-- 2.2: the last X
unfoldable pub last_of : List (List ℕ) → List ℕ → List ℕ → List ℕ → List ℕ
last_of ks nonce a m = chain ks (cipher ks (first_block nonce a m)) (blocks (headed a) ++ blocks m)

-- 2.2: T, its first M bytes
unfoldable pub mac : List (List ℕ) → List ℕ → List ℕ → List ℕ → List ℕ
mac ks nonce a m = take 8 (last_of ks nonce a m)

-- 2.3: A_i, with L - 1 as its flags
unfoldable pub counter : List ℕ → ℕ → List ℕ
counter nonce i = framing (2 - 1) nonce i

-- 2.3: S_i
unfoldable pub stream : List (List ℕ) → List ℕ → ℕ → List ℕ
stream ks nonce i = cipher ks (counter nonce i)

-- 2.3: S_1 to S_n, one after the other
unfoldable pub streams : List (List ℕ) → List ℕ → ℕ → List ℕ
streams ks nonce zero = []
streams ks nonce (suc n) = streams ks nonce n ++ stream ks nonce (suc n)

-- 2.3: the message xor the first bytes of the key stream
unfoldable pub crypt : List (List ℕ) → List ℕ → List ℕ → List ℕ
crypt ks nonce m =
    let s = streams ks nonce ((length m + 15) / 16) in
    table (length m) (λ j. get_or m j 0 ⊕ get_or s j 0)

-- 2.3: U = T xor the first M bytes of S_0
unfoldable pub tag : List (List ℕ) → List ℕ → List ℕ → List ℕ → List ℕ
tag ks nonce a m = let t = mac ks nonce a m in let s = stream ks nonce 0 in table 8 (λ j. get_or t j 0 ⊕ get_or s j 0)

-- 2.4: what is sent
unfoldable pub sealed : List ℕ → List ℕ → List ℕ → List ℕ → List ℕ
sealed key nonce a m = let ks = round_keys 10 key in crypt ks nonce m ++ tag ks nonce a m

-- 2.5: the text in what was sent, c
unfoldable pub text_of : List ℕ → List ℕ → List ℕ → List ℕ
text_of key nonce c = crypt (round_keys 10 key) nonce (take (length c - 8) c)

-- 2.5: whether its tag is the one of that text
unfoldable pub genuine : List ℕ → List ℕ → List ℕ → List ℕ → Bool
genuine key nonce a c = same (drop (length c - 8) c) (tag (round_keys 10 key) nonce a (text_of key nonce c))
