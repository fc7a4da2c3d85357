-- Each kind of value is looked at in turn: a good one is of one kind, and of the others there is nothing to take.
use Prim.Native.Nat.{ℕ, ◌≤◌}
use native.Mathlib.Omega.{arith}
use mathlib.Core.Path.{◌≡◌, refl, ap}
use mathlib.Core.Bool.{Bool, true, false, cond, not, ◌&&◌}
use mathlib.Core.List.{List, [], ◌∷◌}
use mathlib.Core.Logic.{◌⊎◌, inl, inr}
use mathlib.Core.Option.{Option, none, some}
use lib.Dec.{leb, eqb}
use lib.ListN.{length}
use borrow.Author.Tests.{le-leb, leb-true, eq-eqb, ne_eqb, eqb-true, not-true}
use Rattle.cbor.specs.View.{Scalar, number, minus, string, other, View, scalar, list}
use Rattle.cojp.specs.Address.{address_by, address_in, address_of, no_address_parameter, address_concluded, address_read}
use Rattle.cojp.specs.Octets.{padded, octets_of, octets_judged, octets_parameter, no_octets_parameter, octets_read}
use Rattle.cojp.specs.Rate.{rate_taken}
use Rattle.cojp.specs.Reading.{read, malformed_as, concluded, unfit, good}
use Rattle.cojp.specs.declared.address.AddressParameter.{AddressParameter}
use Rattle.cojp.specs.declared.octets.OctetsParameter.{OctetsParameter}
use Rattle.cojp.specs.declared.disposition.Disposition.TheVariants.{Taken, Discarded}
use Rattle.lemmas.specs.logic.Tests.{both, both_left, both_right, never}
use Rattle.short_address.specs.Address.{is_reserved, is_address}
use Rattle.cojp_rfc9031_laws.specs.Good.{perhaps, rate_as, RateJudged, octets_as, JrcJudged, NetworkJudged}
use Rattle.cojp_rfc9031_laws.specs.Good.{Identifier, two_bytes, GoodAddress, address_as, no_address_as, AddressJudged}

-- ---- join rates
pub rate-judged : (x : View) → RateJudged x (rate_taken x)
unfolding rate_taken
rate-judged x = record { good = λ n e. rw e; other = by x }
  where
    by : (x : View) → ((n : ℕ) × (x ≡ scalar (number n))) ⊎ (rate_taken x ≡ rate_as Discarded 0)
    by (scalar (number n)) = inl (n, refl)
    by (scalar (minus n)) = inr refl
    by (scalar (string s)) = inr refl
    by (scalar other) = inr refl
    by (list ps) = inr refl

-- ---- byte strings of so many bytes
module _ (least : ℕ) where
  abbrev pub octets_kept : View → OctetsParameter
  octets_kept x = malformed_as (no_octets_parameter Discarded) (octets_read least x)

  octets-good : (x : View) (s : List ℕ) → x ≡ scalar (string s) → least ≤ length s → length s ≤ 16 →
      octets_kept x ≡ octets_as Taken s
  unfolding octets_judged padded
  octets-good x s e l m = rw (e, both (leb least (length s)) (leb (length s) 16) (le-leb least (length s) l) (le-leb (length s) 16 m))

  octets-other : (x : View) →
      ((s : List ℕ) × (x ≡ scalar (string s)) × (least ≤ length s) × (length s ≤ 16)) ⊎ (octets_kept x ≡ octets_as Discarded [])
  unfolding octets_judged
  octets-other (scalar (string s)) = by (leb least (length s) && leb (length s) 16) refl
    where
      by : (b : Bool) → (leb least (length s) && leb (length s) 16) ≡ b →
          ((t : List ℕ) × (scalar (string s) ≡ scalar (string t)) × (least ≤ length t) × (length t ≤ 16))
          ⊎ (malformed_as (no_octets_parameter Discarded)
          (concluded (read (no_octets_parameter Discarded)) (octets_parameter Taken) (cond b (good (octets_of s)) unfit))
          ≡ octets_as Discarded [])
      by true e =
          inl (
            s,
            refl,
            leb-true least (length s) (both_left (leb least (length s)) (leb (length s) 16) e),
            leb-true (length s) 16 (both_right (leb least (length s)) (leb (length s) 16) e),
          )
      by false e = inr refl
  octets-other (scalar (number n)) = inr refl
  octets-other (scalar (minus n)) = inr refl
  octets-other (scalar other) = inr refl
  octets-other (list ps) = inr refl

pub jrc-judged : (x : View) → JrcJudged x (octets_kept 16 x)
jrc-judged x = record {
  good = λ s g. octets-good 16 x s g.0 (omega (arith, g.1)) (omega (arith, g.1));
  other = by (octets-other 16 x);
}
  where
    by : ((s : List ℕ) × (x ≡ scalar (string s)) × (16 ≤ length s) × (length s ≤ 16)) ⊎ (octets_kept 16 x ≡ octets_as Discarded []) →
        ((s : List ℕ) × ((x ≡ scalar (string s)) × (length s ≡ 16))) ⊎ (octets_kept 16 x ≡ octets_as Discarded [])
    by (inl g) = inl (g.0, (g.1, omega (arith, g.2, g.3)))
    by (inr e) = inr e

pub network-judged : (x : View) → NetworkJudged x (octets_kept 0 x)
network-judged x = record { good = λ s g. octets-good 0 x s g.0 (omega arith) g.1; other = by (octets-other 0 x) }
  where
    by : ((s : List ℕ) × (x ≡ scalar (string s)) × (0 ≤ length s) × (length s ≤ 16)) ⊎ (octets_kept 0 x ≡ octets_as Discarded []) →
        ((s : List ℕ) × ((x ≡ scalar (string s)) × (length s ≤ 16))) ⊎ (octets_kept 0 x ≡ octets_as Discarded [])
    by (inl g) = inl (g.0, (g.1, g.3))
    by (inr e) = inr e

-- ---- short identifiers
abbrev address_or : Bool → List ℕ → Bool → ℕ → AddressParameter
address_or b s leased n =
    malformed_as (no_address_parameter Discarded) (address_concluded (cond b (good (address_of s leased n)) unfit))

-- two bytes that are free
free-address : (a b : ℕ) → ¬ ((a ≡ 0xff) × (0xfe ≤ b)) → is_address (a ∷ b ∷ []) ≡ true
unfolding is_address
free-address a b free = by (is_reserved (a ∷ b ∷ [])) refl
  where
    by : (r : Bool) → is_reserved (a ∷ b ∷ []) ≡ r → not r ≡ true
    by true e =
        let high = eqb-true a 0xff (both_left (eqb a 0xff) (leb 0xfe b) e) in
        let low = leb-true 0xfe b (both_right (eqb a 0xff) (leb 0xfe b) e) in
        absurd (free (high, low))
    by false e = refl

is_free : (a b : ℕ) → is_address (a ∷ b ∷ []) ≡ true → ¬ ((a ≡ 0xff) × (0xfe ≤ b))
unfolding is_address
is_free a b e h =
    never (is_reserved (a ∷ b ∷ [])) (both (eqb a 0xff) (leb 0xfe b) (eq-eqb a 0xff h.0) (le-leb 0xfe b h.1))
    (not-true (is_reserved (a ∷ b ∷ [])) e)

address-good : (x : View) (i : Identifier) → GoodAddress x i →
    malformed_as (no_address_parameter Discarded) (address_read x) ≡ address_as Taken (two_bytes i) i.lease
unfolding address_in
address-good x i g = rw g.is (by i.lease)
  where
    by : (l : Option ℕ) → malformed_as (no_address_parameter Discarded) (address_concluded (address_in (string (two_bytes i) ∷ perhaps l)))
        ≡ address_as Taken (two_bytes i) l
    by none = ap (λ (b : Bool). address_or b (two_bytes i) false 0) (free-address i.high i.low g.free)
    by (some n) = ap (λ (b : Bool). address_or b (two_bytes i) true n) (free-address i.high i.low g.free)

abbrev AddressFound : List Scalar → AddressParameter → Type 0
AddressFound ps p = ((i : Identifier) × GoodAddress (list ps) i) ⊎ (p ≡ no_address_as Discarded)

-- a byte string and what may follow it
address-by : (s : List ℕ) (l : Option ℕ) (leased : Bool) (n : ℕ) →
    AddressFound (string s ∷ perhaps l) (malformed_as (no_address_parameter Discarded) (address_concluded (address_by s leased n)))
unfolding is_address
address-by [] l leased n = inr refl
address-by (a ∷ []) l leased n = inr refl
address-by (a ∷ b ∷ []) l leased n = by (is_address (a ∷ b ∷ [])) refl
  where
    by : (t : Bool) → is_address (a ∷ b ∷ []) ≡ t → AddressFound (string (a ∷ b ∷ []) ∷ perhaps l) (address_or t (a ∷ b ∷ []) leased n)
    by true e = inl (record { high = a; low = b; lease = l }, record { is = refl; free = is_free a b e })
    by false e = inr refl
address-by (a ∷ b ∷ c ∷ s) l leased n =
    let long = a ∷ b ∷ c ∷ s in
    inr (ap (λ (t : Bool). address_or (t && not (is_reserved long)) long leased n) (ne_eqb (length long) 2 (λ e. omega arith)))

address-in : (ps : List Scalar) → AddressFound ps (malformed_as (no_address_parameter Discarded) (address_concluded (address_in ps)))
unfolding address_in
address-in [] = inr refl
address-in (number n ∷ r) = inr refl
address-in (minus n ∷ r) = inr refl
address-in (other ∷ r) = inr refl
address-in (string s ∷ []) = address-by s none false 0
address-in (string s ∷ number n ∷ []) = address-by s (some n) true n
address-in (string s ∷ number n ∷ p ∷ r) = inr refl
address-in (string s ∷ string t ∷ r) = inr refl
address-in (string s ∷ minus n ∷ r) = inr refl
address-in (string s ∷ other ∷ r) = inr refl

pub address-judged : (x : View) → AddressJudged x (malformed_as (no_address_parameter Discarded) (address_read x))
address-judged x = record { good = address-good x; other = by x }
  where
    by : (x : View) →
        ((i : Identifier) × GoodAddress x i) ⊎ (malformed_as (no_address_parameter Discarded) (address_read x) ≡ no_address_as Discarded)
    by (scalar p) = inr refl
    by (list ps) = address-in ps
