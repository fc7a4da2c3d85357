-- An image is a value as bytes at fixed places. A part of one: how many bytes, how a value is put there and got back, which bytes are good,
-- and which values fit. Parts are made of parts, so an image's definition is a table of its fields in order.
use Rattle.std.specs.Prelude.{ℕ, zero, suc, ◌+◌, ◌<◌, ◌≤◌, ◌^◌, ◌≡◌, Bool, true, ◌&&◌, List, [], ◌∷◌, ◌++◌, leb, eqb, length, take, drop, get_or}
use Rattle.byte_io.specs.BigEndian.{bytes_of, big_endian}

pub record Part (A : Type 0) : Type 1 where
  pub size : ℕ
  pub put : A → List ℕ
  pub get : List ℕ → A
  pub good : List ℕ → Bool
  pub Fit : A → Type 0

-- every element is a byte
abbrev pub AllBytes : List ℕ → Type 0
AllBytes s = (i : ℕ) → get_or s i 0 < 256

-- what is put is got back and good, whatever stands behind it; good bytes are those of one value, which fits
pub record RoundTrips {A : Type 0} (p : Part A) : Type 0 where
  pub sized : (a : A) → p.Fit a → length (p.put a) ≡ p.size
  pub loaded : (a : A) (r : List ℕ) → p.Fit a → p.get (p.put a ++ r) ≡ a
  pub stored : (a : A) (r : List ℕ) → p.Fit a → p.good (p.put a ++ r) ≡ true
  pub fits : (s : List ℕ) → AllBytes s → p.size ≤ length s → p.good s ≡ true → p.Fit (p.get s)
  pub back : (s : List ℕ) → AllBytes s → p.size ≤ length s → p.good s ≡ true → p.put (p.get s) ≡ take p.size s

-- a byte as it is
abbrev pub byte : Part ℕ
byte = record { size = 1; put = λ b. b ∷ []; get = λ s. get_or s 0 0; good = λ s. true; Fit = λ b. b < 256 }

-- a number in k bytes, the most significant first
abbrev pub number : ℕ → Part ℕ
number k = record { size = k; put = bytes_of k; get = λ s. big_endian (take k s); good = λ s. true; Fit = λ n. n < 256 ^ k }

-- k bytes as they are
abbrev pub octets : ℕ → Part (List ℕ)
octets k = record { size = k; put = λ s. s; get = take k; good = λ s. true; Fit = λ s. (length s ≡ k) × AllBytes s }

-- numbers up to a limit alone
abbrev pub up_to : ℕ → Part ℕ → Part ℕ
up_to most p =
    record {
      size = p.size;
      put = p.put;
      get = p.get;
      good = λ s. (p.good s && leb (p.get s) most);
      Fit = λ n. p.Fit n × (leb n most ≡ true);
    }

module _ {A B : Type 0} where
  -- one after the other
  abbrev pub both : Part A → Part B → Part (A × B)
  both p q =
      record {
        size = p.size + q.size;
        put = λ x. p.put x.0 ++ q.put x.1;
        get = λ s. (p.get s, q.get (drop p.size s));
        good = λ s. (p.good s && q.good (drop p.size s));
        Fit = λ x. p.Fit x.0 × q.Fit x.1;
      }

  -- the same bytes for another type, of which these values fit
  abbrev pub viewed_if : (B → Type 0) → Part A → (A → B) → (B → A) → Part B
  viewed_if Ok p to from = record { size = p.size; put = λ b. p.put (from b); get = λ s. to (p.get s); good = p.good; Fit = Ok }

  -- the same, where a value fits if its bytes do: a record by its fields
  abbrev pub viewed : Part A → (A → B) → (B → A) → Part B
  viewed p to from = viewed_if (λ b. p.Fit (from b)) p to from

module _ {A : Type 0} where
  -- one byte that says which of several, 0 to `most`: a case of an enum, or a truth value
  abbrev pub code : (A → ℕ) → (ℕ → A) → ℕ → Part A
  code number_of_lem case-of most = viewed (up_to most byte) case-of number_of_lem

  abbrev pub puts : Part A → List A → List ℕ
  puts p [] = []
  puts p (a ∷ xs) = p.put a ++ puts p xs

  abbrev pub gets : Part A → ℕ → List ℕ → List A
  gets p zero s = []
  gets p (suc n) s = p.get s ∷ gets p n (drop p.size s)

  abbrev pub goods : Part A → ℕ → List ℕ → Bool
  goods p zero s = true
  goods p (suc n) s = (p.good s && goods p n (drop p.size s))

  pub data Fits (p : Part A) : ℕ → List A → Type 0 where
    none : Fits p 0 []
    more : {n : ℕ} {a : A} {xs : List A} → p.Fit a → Fits p n xs → Fits p (suc n) (a ∷ xs)

  abbrev pub total : Part A → ℕ → ℕ
  total p zero = 0
  total p (suc n) = p.size + total p n

  -- n of them, one after the other
  abbrev pub times : ℕ → Part A → Part (List A)
  times n p = record { size = total p n; put = puts p; get = gets p n; good = goods p n; Fit = Fits p n }

-- ---- images: in front of the fields stand a letter, the kind, and the number of the layout
abbrev pub layout : ℕ
layout = 1

abbrev pub is_headed : ℕ → List ℕ → Bool
is_headed kind s = (eqb (get_or s 0 0) kind && eqb (get_or s 1 0) layout)

abbrev pub headed : {A : Type 0} → ℕ → Part A → Part A
headed kind p =
    record {
      size = suc (suc p.size);
      put = λ a. kind ∷ layout ∷ p.put a;
      get = λ s. p.get (drop 2 s);
      good = λ s. (is_headed kind s && p.good (drop 2 s));
      Fit = p.Fit;
    }

-- bytes that are an image: as many as it has, and good
abbrev pub is_image : {A : Type 0} → Part A → List ℕ → Bool
is_image p s = (eqb (length s) p.size && p.good s)
