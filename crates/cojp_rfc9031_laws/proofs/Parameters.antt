-- A parameter that was read is in its limits, and takes no more bytes than its value and a label of one byte.
use Prim.Native.Nat.{ℕ, ◌+◌, ◌-◌, ◌≤◌}
use native.Mathlib.Omega.{arith}
use mathlib.Core.Path.{◌≡◌, refl, ap, ◌∙◌}
use mathlib.Core.Bool.{Bool, true, false, cond, ◌&&◌}
use mathlib.Core.List.{List, [], ◌∷◌, ◌++◌, append-nil}
use lib.Dec.{leb, eqb}
use lib.ListN.{length, replicate, length-append}
use lib.Seq.{take_at}
use borrow.Author.Tests.{leb-true}
use Rattle.cbor.specs.Encode.{encode, encode_pairs, shortest}
use Rattle.cbor.specs.HeadLaws.{HeadLaws}
use Rattle.cbor.specs.Item.{Item, unsigned, bytes, array, more}
use Rattle.cbor.specs.Laws.{ItemLaws}
use Rattle.cbor.specs.View.{Scalar, number, minus, string, other, View, scalar, list}
use Rattle.cojp.proofs.Walks.{Gives}
use Rattle.cojp.specs.Address.{address_by, address_in, address_of, address_concluded, address_read}
use Rattle.cojp.specs.Lists.{Picked, nothing, picked, written, fitting, in_array, list_answer, list_taken, no_list_parameter}
use Rattle.cojp.specs.Octets.{octets_of, octets_judged, octets_parameter, no_octets_parameter, octets_read, padded}
use Rattle.cojp.specs.Rate.{rate_taken}
use Rattle.cojp.specs.Reading.{Reading, refused, read, map_reading, concluded, by_version_of, unfit, good}
use Rattle.cojp.specs.Writing.{labelled, lease_items, role_pairs, octets_pairs, address_pairs, list_pairs, rate_pairs, octets_in_range}
use Rattle.cojp.specs.Writing.{list_in_range}
use Rattle.cojp.specs.declared.address.AddressParameter.{AddressParameter}
use Rattle.cojp.specs.declared.list.ListParameter.{ListParameter}
use Rattle.cojp.specs.declared.octets.OctetsParameter.{OctetsParameter}
use Rattle.cojp.specs.declared.disposition.Disposition.{Disposition}
use Rattle.cojp.specs.declared.disposition.Disposition.TheVariants.{Taken, Discarded}
use Rattle.protocol_version.specs.declared.Version.{Version}
use Rattle.protocol_version.specs.declared.Version.TheVariants.{Draft, Published}
use Rattle.lemmas.specs.logic.Tests.{both_right}
use Rattle.short_address.specs.Address.{is_address}
use Rattle.cojp_rfc9031_laws.proofs.Items.{head_size, view_size, ViewFits}
use Rattle.cojp_rfc9031_laws.proofs.KeptLists.{list-kept, list-size, Picks, Picking}

-- ---- readings
pub put-gives : {P S : Type 0} (Q : P → Type 0) (R : S → Type 0) (f : P → S) (r : Reading P) → Gives Q r → ((p : P) → Q p → R (f p)) →
    Gives R (map_reading f r)
put-gives Q R f (refused k) g h = tt
put-gives Q R f (read p) g h = h p g

pub following-gives : {P : Type 0} (Q : P → Type 0) (v : Version) (bad : P) (r : Reading P) → Q bad → Gives Q r →
    Gives Q (by_version_of v bad r)
following-gives Q Draft bad r b g = g
following-gives Q Published bad (refused k) b g = b
following-gives Q Published bad (read p) b g = g

module _ (H : HeadLaws) where
  pub labelled-size : (n : ℕ) (i : Item) → n ≤ 23 → length (encode_pairs (labelled n i)) ≡ 1 + length (encode i)
  labelled-size n i l =
      length-append (shortest 0 n) (encode i ++ []) ∙ omega (arith, H.short-head 0 n l, ap length (append-nil (encode i)))

  -- ---- the role
  pub role-size : (n : ℕ) → length (encode_pairs (role_pairs n)) ≤ 1 + head_size n
  role-size n = by (eqb n 0)
    where
      by : (b : Bool) → length (encode_pairs (cond b (role_pairs 0) (labelled 1 (unsigned n)))) ≤ 1 + head_size n
      by true = omega arith
      by false = omega (arith, labelled-size 1 (unsigned n) (omega arith), H.length-head 0 n)

  -- ---- byte strings
  pub record OctetsFine (n : ℕ) (x : View) (p : OctetsParameter) : Type 0 where
    pub range : octets_in_range p ≡ true
    pub size : length (encode_pairs (octets_pairs n p)) ≤ 1 + view_size x

  pub octets-bad : (n : ℕ) (x : View) (r : Disposition) → octets_in_range (no_octets_parameter r) ≡ true →
      length (encode_pairs (octets_pairs n (no_octets_parameter r))) ≡ 0 →
      OctetsFine n x (no_octets_parameter r)
  octets-bad n x r e z = record { range = e; size = omega arith }

  pub octets-fine : (n least : ℕ) → n ≤ 23 → (x : View) → Gives (OctetsFine n x) (octets_read least x)
  unfolding octets_judged padded
  octets-fine n least l (scalar (string s)) = by (leb least (length s) && leb (length s) 16) refl
    where
      by : (b : Bool) → (leb least (length s) && leb (length s) 16) ≡ b →
          Gives (OctetsFine n (scalar (string s)))
          (concluded (read (no_octets_parameter Discarded)) (octets_parameter Taken) (cond b (good (octets_of s)) unfit))
      by false e = octets-bad n (scalar (string s)) Discarded refl refl
      by true e =
          let own = take_at s (replicate (16 - length s) 0) (length s) refl in
          record {
            range = both_right (leb least (length s)) (leb (length s) 16) e;
            size =
                rw own
                (omega (arith, labelled-size n (bytes s) l, length-append (shortest 2 (length s)) s, H.length-head 2 (length s)));
          }
  octets-fine n least l (scalar (number m)) = tt
  octets-fine n least l (scalar (minus m)) = tt
  octets-fine n least l (scalar other) = tt
  octets-fine n least l (list ps) = tt

  -- ---- addresses
  address-by : (ps : List Scalar) (s : List ℕ) (leased : Bool) (n : ℕ) →
      length (encode (array (more (bytes s) (lease_items leased n)))) ≤ view_size (list ps) →
      Gives (λ (p : AddressParameter). length (encode_pairs (address_pairs p)) ≤ 1 + view_size (list ps))
      (address_concluded (address_by s leased n))
  address-by ps s leased n l = by (is_address s)
    where
      by : (b : Bool) →
          Gives (λ (p : AddressParameter). length (encode_pairs (address_pairs p)) ≤ 1 + view_size (list ps))
          (address_concluded (cond b (good (address_of s leased n)) unfit))
      by true = omega (arith, labelled-size 3 (array (more (bytes s) (lease_items leased n))) (omega arith), l)
      by false = omega arith

  pub string-size : (s : List ℕ) → length (encode (bytes s)) ≡ head_size (length s) + length s
  string-size s = length-append (shortest 2 (length s)) s ∙ ap (λ (n : ℕ). n + length s) (H.length-head 2 (length s))

  address-in : (ps : List Scalar) →
      Gives (λ (p : AddressParameter). length (encode_pairs (address_pairs p)) ≤ 1 + view_size (list ps))
      (address_concluded (address_in ps))
  unfolding address_in
  address-in [] = tt
  address-in (number n ∷ r) = tt
  address-in (minus n ∷ r) = tt
  address-in (other ∷ r) = tt
  address-in (string s ∷ []) =
      address-by (string s ∷ []) s false 0
      (omega (
        arith,
        length-append (shortest 4 1) (encode (bytes s) ++ []),
        H.length-head 4 1,
        ap length (append-nil (encode (bytes s))),
        string-size s,
      ))
  address-in (string s ∷ number n ∷ []) =
      address-by (string s ∷ number n ∷ []) s true n
      (omega (
        arith,
        length-append (shortest 4 2) (encode (bytes s) ++ (shortest 0 n ++ [])),
        H.length-head 4 2,
        length-append (encode (bytes s)) (shortest 0 n ++ []),
        ap length (append-nil (shortest 0 n)),
        H.length-head 0 n,
        string-size s,
      ))
  address-in (string s ∷ number n ∷ p ∷ r) = tt
  address-in (string s ∷ string t ∷ r) = tt
  address-in (string s ∷ minus n ∷ r) = tt
  address-in (string s ∷ other ∷ r) = tt

  pub address-size : (x : View) → Gives (λ (p : AddressParameter). length (encode_pairs (address_pairs p)) ≤ 1 + view_size x)
      (address_read x)
  address-size (scalar p) = tt
  address-size (list ps) = address-in ps

  -- ---- rates
  pub rate-size : (x : View) → length (encode_pairs (rate_pairs (rate_taken x))) ≤ 1 + view_size x
  unfolding rate_taken
  rate-size (scalar (number n)) = omega (arith, labelled-size 7 (unsigned n) (omega arith), H.length-head 0 n)
  rate-size (scalar (minus n)) = omega arith
  rate-size (scalar (string s)) = omega arith
  rate-size (scalar other) = omega arith
  rate-size (list ps) = omega arith

-- ---- lists
pub record ListFine (f : List Scalar → Picked) (n : ℕ) (x : View) (p : ListParameter) : Type 0 where
  pub range : list_in_range f p ≡ true
  pub size : length (encode_pairs (list_pairs n f p)) ≤ 1 + view_size x

module _ (laws : ItemLaws) (H : HeadLaws) (f : List Scalar → Picked) (picks : (ms : List Scalar) → Picking f ms (f ms))
    (n : ℕ) (low : n ≤ 23) where
  list-bad : (x : View) → ListFine f n x (no_list_parameter Discarded)
  list-bad x = record { range = refl; size = omega arith }

  pub list-fine : (x : View) → ViewFits x → ListFine f n x (list_taken (list_answer (fitting 253 (in_array f x))))
  list-fine (scalar p) g = list-bad (scalar p)
  list-fine (list ms) g = by (f ms) (picks ms)
    where
      sized : (ps : List Scalar) → Picks f ms ps → (b : Bool) → leb (length (written ps)) 253 ≡ b →
          ListFine f n (list ms) (list_taken (list_answer (cond b (picked ps) nothing)))
      sized ps h false e = list-bad (list ms)
      sized ps h true e =
          let long = list-size laws H f ps (h.fit g) h.again in
          record {
            range = list-kept laws H f ps (h.fit g) h.again (leb-true (length (written ps)) 253 e);
            size = rw (labelled-size H n _ low, long, h.many) (omega (arith, h.size));
          }

      by : (q : Picked) → Picking f ms q → ListFine f n (list ms) (list_taken (list_answer (fitting 253 q)))
      by nothing h = list-bad (list ms)
      by (picked ps) h = sized ps h (leb (length (written ps)) 253) refl
