-- Which values of each parameter of the published form are good, and what they are kept as: docs/RFC9031.md, "What is bad, and what
-- follows" and "A link-layer key", said of every value and without a word of the readers. The role is in specs/InOrder.antt.
use Rattle.std.specs.Prelude.{ℕ, ◌-◌, ◌≤◌, ◌≡◌, true, false, List, [], ◌∷◌, ◌++◌, ◌⊎◌, length, replicate}
use Rattle.std.proofs.Math.Option.{Option, none, some}
use Rattle.cbor.specs.Encode.{shortest}
use Rattle.cbor.specs.View.{Scalar, number, minus, string, View, scalar, list}
use Rattle.link_key.specs.declared.Key.{Key}
use Rattle.link_key.specs.declared.additional_info.AdditionalInfo.{AdditionalInfo}
use Rattle.link_key.specs.declared.additional_info.AdditionalInfo.TheVariants as info
use Rattle.cojp.specs.declared.address.AddressParameter.{AddressParameter}
use Rattle.cojp.specs.declared.key_set.KeysParameter.{KeysParameter}
use Rattle.cojp.specs.declared.list.ListParameter.{ListParameter}
use Rattle.cojp.specs.declared.octets.OctetsParameter.{OctetsParameter}
use Rattle.cojp.specs.declared.rate.RateParameter.{RateParameter}
use Rattle.cojp.specs.declared.disposition.Disposition.{Disposition}
use Rattle.cojp.specs.declared.disposition.Disposition.TheVariants.{Taken, Discarded}

-- ---- what became of a parameter p: taken exactly if its value is good, and kept as what the value is good for
pub record Judged {A P : Type 0} (Good : A → Type 0) (kept : A → P) (bad p : P) : Type 0 where
  pub good : (a : A) → Good a → p ≡ kept a
  -- good for some a, or nothing of it is taken
  pub other : ((a : A) × Good a) ⊎ (p ≡ bad)

-- an unsigned number, if it is given
abbrev pub perhaps : Option ℕ → List Scalar
perhaps none = []
perhaps (some n) = number n ∷ []

-- ---- 7, join rate: unsigned; 0 is a rate
abbrev pub rate_as : Disposition → ℕ → RateParameter
rate_as r n = record { disposition = r; value = n }

abbrev pub GoodRate : View → ℕ → Type 0
GoodRate x n = x ≡ scalar (number n)

abbrev pub RateJudged : View → RateParameter → Type 0
RateJudged x p = Judged (GoodRate x) (rate_as Taken) (rate_as Discarded 0) p

-- ---- byte strings: so many of 16 bytes, and zeros after them
abbrev pub octets_as : Disposition → List ℕ → OctetsParameter
octets_as r s = record { disposition = r; value = record { len = length s; bytes = s ++ replicate (16 - length s) 0 } }

-- 4, JRC address: a byte string of 16
abbrev pub GoodJrc : View → List ℕ → Type 0
GoodJrc x s = (x ≡ scalar (string s)) × (length s ≡ 16)

abbrev pub JrcJudged : View → OctetsParameter → Type 0
JrcJudged x p = Judged (GoodJrc x) (octets_as Taken) (octets_as Discarded []) p

-- 5, network identifier of a request: a byte string of 0 to 16
abbrev pub GoodNetwork : View → List ℕ → Type 0
GoodNetwork x s = (x ≡ scalar (string s)) × (length s ≤ 16)

abbrev pub NetworkJudged : View → OctetsParameter → Type 0
NetworkJudged x p = Judged (GoodNetwork x) (octets_as Taken) (octets_as Discarded []) p

-- ---- 3, short identifier: an array of a byte string of 2 and, if a lease is given, an unsigned number; neither FFFE nor FFFF
pub record Identifier : Type 0 where
  pub high : ℕ
  pub low : ℕ
  pub lease : Option ℕ

abbrev pub two_bytes : Identifier → List ℕ
two_bytes i = i.high ∷ i.low ∷ []

pub record GoodAddress (x : View) (i : Identifier) : Type 0 where
  pub is : x ≡ list (string (two_bytes i) ∷ perhaps i.lease)
  -- no byte is over FF
  pub free : ¬ ((i.high ≡ 0xff) × (0xfe ≤ i.low))

-- without a lease it holds without end
abbrev pub address_as : Disposition → List ℕ → Option ℕ → AddressParameter
address_as r s none = record { disposition = r; value = record { bytes = s; leased = false; lease = 0 } }
address_as r s (some n) = record { disposition = r; value = record { bytes = s; leased = true; lease = n } }

abbrev pub no_address_as : Disposition → AddressParameter
no_address_as r = address_as r (0 ∷ 0 ∷ []) none

abbrev pub AddressJudged : View → AddressParameter → Type 0
AddressJudged x p = Judged (GoodAddress x) (λ i. address_as Taken (two_bytes i) i.lease) (no_address_as Discarded) p

-- ---- arrays that are kept as they are written: so many members in so many of 253 bytes, and zeros after them
abbrev pub list_as : Disposition → ℕ → List ℕ → ListParameter
list_as r n s = record { disposition = r; value = record { count = n; len = length s; bytes = s ++ replicate (253 - length s) 0 } }

-- 6, blacklist: an array of byte strings, any number from none, any lengths
abbrev pub strings : List (List ℕ) → List Scalar
strings [] = []
strings (s ∷ ss) = string s ∷ strings ss

-- shortest heads, one after another
abbrev pub strings_bytes : List (List ℕ) → List ℕ
strings_bytes [] = []
strings_bytes (s ∷ ss) = (shortest 2 (length s) ++ s) ++ strings_bytes ss

abbrev pub GoodBlacklist : View → List (List ℕ) → Type 0
GoodBlacklist x ss = x ≡ list (strings ss)

abbrev pub BlacklistJudged : View → ListParameter → Type 0
BlacklistJudged x p = Judged (GoodBlacklist x) (λ ss. list_as Taken (length ss) (strings_bytes ss)) (list_as Discarded 0 []) p

-- 8, unsupported configuration of a request: an array of one or more groups of three, an integer, an integer and any item
pub data Integer : Type 0 where
  from0 : ℕ → Integer
  -- the number -1 - n
  below0 : ℕ → Integer

abbrev pub integer : Integer → Scalar
integer (from0 n) = number n
integer (below0 n) = minus n

abbrev pub integer_bytes : Integer → List ℕ
integer_bytes (from0 n) = shortest 0 n
integer_bytes (below0 n) = shortest 1 n

pub record Entry : Type 0 where
  pub code : Integer
  pub label : Integer
  pub third : Scalar

abbrev pub entries : List Entry → List Scalar
entries [] = []
entries (e ∷ es) = integer e.code ∷ integer e.label ∷ e.third ∷ entries es

-- the third is passed over: null stands for it
abbrev pub entries_bytes : List Entry → List ℕ
entries_bytes [] = []
entries_bytes (e ∷ es) = integer_bytes e.code ++ (integer_bytes e.label ++ (0xF6 ∷ entries_bytes es))

pub record GoodEntries (x : View) (es : List Entry) : Type 0 where
  pub is : x ≡ list (entries es)
  pub one : 1 ≤ length es

abbrev pub EntriesJudged : View → ListParameter → Type 0
EntriesJudged x p = Judged (GoodEntries x) (λ es. list_as Taken (length (entries es)) (entries_bytes es)) (list_as Discarded 0 []) p

-- ---- 2, link-layer key set: a flat array of groups, each an identifier, a usage if it is given, the value and additional information if
-- there is any, a byte string of 4 or 8
pub record Group : Type 0 where
  pub identifier : ℕ
  pub usage : Option ℕ
  pub value : List ℕ
  pub source : AdditionalInfo

abbrev pub source_member : AdditionalInfo → List Scalar
source_member info.Absent = []
source_member (info.Four a b c d) = string (a ∷ b ∷ c ∷ d ∷ []) ∷ []
source_member (info.Eight a b c d e f g h) = string (a ∷ b ∷ c ∷ d ∷ e ∷ f ∷ g ∷ h ∷ []) ∷ []

abbrev pub group_members : Group → List Scalar
group_members g = number g.identifier ∷ (perhaps g.usage ++ (string g.value ∷ source_member g.source))

abbrev pub set_members : List Group → List Scalar
set_members [] = []
set_members (g ∷ gs) = group_members g ++ set_members gs

-- no usage means 0
abbrev pub usage_in : Option ℕ → ℕ
usage_in none = 0
usage_in (some n) = n

-- its limits
pub record GoodGroup (g : Group) : Type 0 where
  pub least : 1 ≤ g.identifier
  pub most : g.identifier ≤ 255
  pub usage : usage_in g.usage ≤ 14
  pub value : length g.value ≡ 16

abbrev pub EachGood : List Group → Type 0
EachGood [] = Unit {0}
EachGood (g ∷ gs) = GoodGroup g × EachGood gs

-- no identifier twice, whatever the additional information
abbrev pub NotAmong : ℕ → List Group → Type 0
NotAmong i [] = Unit {0}
NotAmong i (g ∷ gs) = (¬ (g.identifier ≡ i)) × NotAmong i gs

abbrev pub NoneTwice : List Group → Type 0
NoneTwice [] = Unit {0}
NoneTwice (g ∷ gs) = NotAmong g.identifier gs × NoneTwice gs

pub record GoodKeys (x : View) (gs : List Group) : Type 0 where
  pub is : x ≡ list (set_members gs)
  pub one : 1 ≤ length gs
  pub eight : length gs ≤ 8
  pub each : EachGood gs
  pub once : NoneTwice gs

-- the keys in their order, in so many of 8 places, and zeros after them
abbrev pub key_in : Group → Key
key_in g = record { identifier = g.identifier; usage = usage_in g.usage; value = g.value; info = g.source }

abbrev pub keys_in : List Group → List Key
keys_in [] = []
keys_in (g ∷ gs) = key_in g ∷ keys_in gs

abbrev pub zero_key : Key
zero_key = record { identifier = 0; usage = 0; value = replicate 16 0; info = info.Absent }

abbrev pub keys_as : Disposition → List Group → KeysParameter
keys_as r gs = record { disposition = r; value = record { count = length gs; keys = keys_in gs ++ replicate (8 - length gs) zero_key } }

abbrev pub KeysJudged : View → KeysParameter → Type 0
KeysJudged x p = Judged (GoodKeys x) (keys_as Taken) (keys_as Discarded []) p
