-- The key stream by bytes: byte j of the message meets byte j % 16 of block j / 16 + 1, since every block has sixteen bytes.
-- Assumes nothing.
use mathlib.Core.Path.{◌≡◌, refl, sym, ◌∙◌, ap, ap₂}
use mathlib.Core.List.{List, ◌++◌}
use Prim.Native.Nat.{ℕ, zero, suc, ◌+◌, ◌-◌, ◌*◌, ◌/◌, ◌%◌, ◌<◌}
use native.Mathlib.Nat.{not-suc-le-zero}
use native.Mathlib.Decide.{dec_lt}
use native.Mathlib.Omega.{arith}
use lib.ListN.{length, get_or, length-append, get_or-append}
use lib.Seq.{get_or-append-add, get_or-take}
use Rattle.lemmas.specs.lists.Xor.{◌⊕◌}
use Rattle.lemmas.specs.lists.XorLemmas.{cancel}
use Rattle.lemmas.specs.lists.Table.{table}
use Rattle.lemmas.specs.lists.TableLemmas.{table-ext, table-self, get_d-table, length-table}
use Rattle.aes.specs.Bounds.{Bytes}
use Rattle.aes.specs.BoundsLemmas.{xor-byte, tabled}
use Rattle.aes.specs.Cipher.{round_keys}
use Rattle.aes.specs.Laws.{AesLaws}
use Rattle.aes_ccm.specs.Ccm.{counter, stream, streams, crypt, last_of, mac, tag}

-- byte j of the key stream
abbrev pub stream_byte : List (List ℕ) → List ℕ → ℕ → ℕ
stream_byte ks nonce j = get_or (stream ks nonce (j / 16 + 1)) (j % 16) 0

-- the encrypted message byte by byte
abbrev pub crypt_byte : List (List ℕ) → List ℕ → List ℕ → ℕ → ℕ
crypt_byte ks nonce m j = get_or m j 0 ⊕ stream_byte ks nonce j

pub length-crypt : (ks : List (List ℕ)) (nonce m : List ℕ) → length (crypt ks nonce m) ≡ length m
unfolding crypt
length-crypt ks nonce m = length-table (length m) _

-- the encrypted tag byte by byte
pub tag-bytes : (ks : List (List ℕ)) (nonce a m t s : List ℕ) → t ≡ last_of ks nonce a m → s ≡ stream ks nonce 0
    → table 8 (λ j. get_or t j 0 ⊕ get_or s j 0) ≡ tag ks nonce a m
unfolding tag mac
tag-bytes ks nonce a m t s et es =
    table-ext 8 _ _
    (λ j h. ap₂ (λ (x y : ℕ). x ⊕ y) (ap (λ (l : List ℕ). get_or l j 0) et ∙ sym (get_or-take 8 (last_of ks nonce a m) j 0 h))
    (ap (λ (l : List ℕ). get_or l j 0) es))

module _ (laws : AesLaws) (ks : List (List ℕ)) (nonce : List ℕ) where
  length-stream : (i : ℕ) → length (stream ks nonce i) ≡ 16
  unfolding stream
  length-stream i = laws.block-long ks (counter nonce i)

  length-streams : (n : ℕ) → length (streams ks nonce n) ≡ 16 * n
  unfolding streams
  length-streams zero = refl
  length-streams (suc n) =
      length-append (streams ks nonce n) (stream ks nonce (suc n)) ∙ rw (length-streams n, length-stream (suc n)) (omega arith)

  late : (n j k : ℕ) → j ≡ 16 * n + k → k < 16 → get_or (streams ks nonce n ++ stream ks nonce (suc n)) j 0 ≡ stream_byte ks nonce j
  late n j k e h =
      let place : j ≡ length (streams ks nonce n) + k = rw (length-streams n) e in
      let q : j / 16 + 1 ≡ suc n = omega arith in
      let r : j % 16 ≡ k = omega arith in
      ap (λ (i : ℕ). get_or (streams ks nonce n ++ stream ks nonce (suc n)) i 0) place
      ∙ get_or-append-add (streams ks nonce n) (stream ks nonce (suc n)) k 0
      ∙ sym (ap₂ (λ (a b : ℕ). get_or (stream ks nonce a) b 0) q r)

  by_side : (n j : ℕ) → Dec (j < 16 * n) → j < 16 * suc n → (j < 16 * n → get_or (streams ks nonce n) j 0 ≡ stream_byte ks nonce j)
      → get_or (streams ks nonce n ++ stream ks nonce (suc n)) j 0 ≡ stream_byte ks nonce j
  by_side n j (yes k) h r = get_or-append (streams ks nonce n) (stream ks nonce (suc n)) 0 j (rw (length-streams n) k) ∙ r k
  by_side n j (no k) h r = late n j (j - 16 * n) (omega arith) (omega arith)

  streams-at : (n j : ℕ) → j < 16 * n → get_or (streams ks nonce n) j 0 ≡ stream_byte ks nonce j
  unfolding streams
  streams-at zero j h = absurd (not-suc-le-zero h)
  streams-at (suc n) j h = by_side n j (dec_lt j (16 * n)) h (λ k. streams-at n j k)

  pub crypt-bytes : (m : List ℕ) → crypt ks nonce m ≡ table (length m) (crypt_byte ks nonce m)
  unfolding crypt
  crypt-bytes m =
      table-ext (length m) _ _ (λ j h. ap (λ (x : ℕ). get_or m j 0 ⊕ x) (streams-at ((length m + 15) / 16) j (omega arith)))

  byte : (m : List ℕ) (i : ℕ) → i < length m → get_or (crypt ks nonce m) i 0 ≡ crypt_byte ks nonce m i
  byte m i h = ap (λ (l : List ℕ). get_or l i 0) (crypt-bytes m) ∙ get_d-table (length m) (crypt_byte ks nonce m) 0 i h

  -- the key stream cancels itself
  pub crypt-crypt : (m : List ℕ) → crypt ks nonce (crypt ks nonce m) ≡ m
  crypt-crypt m =
      crypt-bytes (crypt ks nonce m)
      ∙ table-self m 0 (length (crypt ks nonce m)) (crypt_byte ks nonce (crypt ks nonce m)) (sym (length-crypt ks nonce m))
      (λ i h. ap (λ (x : ℕ). x ⊕ stream_byte ks nonce i) (byte m i (rw (length-crypt ks nonce m) at h))
      ∙ cancel (get_or m i 0) (stream_byte ks nonce i))

-- bytes meet bytes of the key stream
pub crypted : AesLaws → (key nonce m : List ℕ) → Bytes key → Bytes m → Bytes (crypt (round_keys 10 key) nonce m)
unfolding stream
crypted laws key nonce m f g =
    let ks = round_keys 10 key in
    rw (crypt-bytes laws ks nonce m)
    (tabled (length m) (crypt_byte ks nonce m)
    (λ j. xor-byte (get_or m j 0) (stream_byte ks nonce j) (g j) (laws.block-bytes key (counter nonce (j / 16 + 1)) f (j % 16))))
