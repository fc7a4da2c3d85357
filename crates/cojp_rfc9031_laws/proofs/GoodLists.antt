-- Member by member: what is picked of an array is what its good members are, and a member that is not good leaves nothing.
use Prim.Native.Nat.{ℕ, suc, ◌≤◌}
use native.Mathlib.Omega.{arith}
use mathlib.Core.Path.{◌≡◌, refl, ap}
use mathlib.Core.Bool.{Bool, true, false, cond, ◌&&◌, and-false}
use mathlib.Core.List.{List, [], ◌∷◌, ◌++◌}
use mathlib.Core.Logic.{◌⊎◌, inl, inr}
use lib.ListN.{length}
use borrow.Author.Tests.{le-leb}
use Rattle.byte_io.specs.BigEndian.{bytes_of}
use Rattle.cbor.specs.Encode.{encode, shortest, info_of, extra_of}
use Rattle.cbor.specs.HeadLaws.{HeadLaws}
use Rattle.cbor.specs.View.{Scalar, number, minus, string, other, View, scalar, list}
use Rattle.cojp.specs.Lists.{Picked, nothing, picked, before, scalar_item, is_integer, strings_in, error_reports_in}
use Rattle.cojp.specs.Lists.{at_least_one, list_answer, list_taken, written, blacklist_taken, unsupported_taken}
use Rattle.cojp.specs.Octets.{padded}
use Rattle.cojp.specs.declared.list.ListParameter.{ListParameter}
use Rattle.cojp.specs.declared.disposition.Disposition.TheVariants.{Taken, Discarded}
use Rattle.cojp_rfc9031_laws.specs.Good.{list_as, strings, strings_bytes, GoodBlacklist, BlacklistJudged}
use Rattle.cojp_rfc9031_laws.specs.Good.{Integer, from0, below0, integer, integer_bytes, Entry}
use Rattle.cojp_rfc9031_laws.specs.Good.{entries, entries_bytes, GoodEntries, EntriesJudged}
use Rattle.cojp_rfc9031_laws.proofs.Items.{plains_size, view_size, plain-least}
use Rattle.cojp_rfc9031_laws.proofs.KeptLists.{written-size}

-- ---- blacklists
strings-picked : (ss : List (List ℕ)) → strings_in (strings ss) ≡ picked (strings ss)
unfolding strings_in
strings-picked [] = refl
strings-picked (s ∷ ss) = ap (before (string s ∷ [])) (strings-picked ss)

strings-written : (ss : List (List ℕ)) → written (strings ss) ≡ strings_bytes ss
strings-written [] = refl
strings-written (s ∷ ss) = ap (λ (l : List ℕ). (shortest 2 (length s) ++ s) ++ l) (strings-written ss)

strings-many : (ss : List (List ℕ)) → length (strings ss) ≡ length ss
strings-many [] = refl
strings-many (s ∷ ss) = ap suc (strings-many ss)

-- a list that was picked, if there is room
abbrev list_or : Bool → List Scalar → ListParameter
list_or b ps = list_taken (list_answer (cond b (picked ps) nothing))

listed-as : (ps : List Scalar) (n : ℕ) (bytes : List ℕ) → length ps ≡ n → written ps ≡ bytes →
    list_or true ps ≡ list_as Taken n bytes
unfolding padded
listed-as ps n bytes e f = rw (e, f)

abbrev StringsFound : List Scalar → Picked → Type 0
StringsFound ps q = ((ss : List (List ℕ)) × (ps ≡ strings ss)) ⊎ (q ≡ nothing)

strings-found : (ps : List Scalar) → StringsFound ps (strings_in ps)
unfolding strings_in
strings-found [] = inl ([], refl)
strings-found (number n ∷ r) = inr refl
strings-found (minus n ∷ r) = inr refl
strings-found (string s ∷ r) = by (strings-found r)
  where
    by : StringsFound r (strings_in r) → StringsFound (string s ∷ r) (before (string s ∷ []) (strings_in r))
    by (inl g) = inl (s ∷ g.0, ap (λ (l : List Scalar). string s ∷ l) g.1)
    by (inr e) = inr (ap (before (string s ∷ [])) e)
strings-found (other ∷ r) = inr refl

-- a payload of 256 bytes has room for its map's head, the label and the array's head
module _ (H : HeadLaws) (x : View) (small : view_size x ≤ 254) where
  strings-room : (ss : List (List ℕ)) → x ≡ list (strings ss) → length (strings_bytes ss) ≤ 253
  strings-room ss e = omega (arith, small, ap view_size e, written-size H (strings ss), ap length (strings-written ss))

  blacklist-good : (ss : List (List ℕ)) → GoodBlacklist x ss → blacklist_taken x ≡ list_as Taken (length ss) (strings_bytes ss)
  blacklist-good ss g =
      rw (g, strings-picked ss, strings-written ss, le-leb (length (strings_bytes ss)) 253 (strings-room ss g))
      (listed-as (strings ss) (length ss) (strings_bytes ss) (strings-many ss) (strings-written ss))

  pub blacklist-judged : BlacklistJudged x (blacklist_taken x)
  blacklist-judged = record { good = blacklist-good; other = by x }
    where
      found : (ps : List Scalar) → StringsFound ps (strings_in ps) →
          ((ss : List (List ℕ)) × GoodBlacklist (list ps) ss) ⊎ (blacklist_taken (list ps) ≡ list_as Discarded 0 [])
      found ps (inl g) = inl (g.0, ap list g.1)
      found ps (inr e) = inr (rw e)

      by : (y : View) → ((ss : List (List ℕ)) × GoodBlacklist y ss) ⊎ (blacklist_taken y ≡ list_as Discarded 0 [])
      by (scalar p) = inr refl
      by (list ps) = found ps (strings-found ps)

-- ---- lists of reports
-- as they are kept: the third of each is null
abbrev kept_entries : List Entry → List Scalar
kept_entries [] = []
kept_entries (e ∷ es) = integer e.code ∷ integer e.label ∷ other ∷ kept_entries es

is-integer : (i : Integer) → is_integer (integer i) ≡ true
is-integer (from0 n) = refl
is-integer (below0 n) = refl

entries-picked : (es : List Entry) → error_reports_in (entries es) ≡ picked (kept_entries es)
unfolding error_reports_in
entries-picked [] = refl
entries-picked (e ∷ es) = rw (is-integer e.code, is-integer e.label, entries-picked es)

null-written : shortest 7 22 ≡ 0xF6 ∷ []
unfolding shortest info_of extra_of bytes_of
null-written = refl

integer-written : (i : Integer) → encode (scalar_item (integer i)) ≡ integer_bytes i
integer-written (from0 n) = refl
integer-written (below0 n) = refl

entries-written : (es : List Entry) → written (kept_entries es) ≡ entries_bytes es
entries-written [] = refl
entries-written (e ∷ es) = rw (integer-written e.code, integer-written e.label, null-written, entries-written es)

entries-many : (es : List Entry) → length (kept_entries es) ≡ length (entries es)
entries-many [] = refl
entries-many (e ∷ es) = ap (λ (n : ℕ). suc (suc (suc n))) (entries-many es)

-- at least one
some-picked : (es : List Entry) → 1 ≤ length es → at_least_one error_reports_in (entries es) ≡ picked (kept_entries es)
some-picked [] l = absurd (omega (arith, l))
some-picked (e ∷ es) l = entries-picked (e ∷ es)

kept-smaller : (es : List Entry) → plains_size (kept_entries es) ≤ plains_size (entries es)
kept-smaller [] = omega arith
kept-smaller (e ∷ es) = omega (arith, kept-smaller es, plain-least e.third)

abbrev EntriesFound : List Scalar → Picked → Type 0
EntriesFound ps q = ((es : List Entry) × (ps ≡ entries es)) ⊎ (q ≡ nothing)

abbrev IntegerFound : Scalar → Type 0
IntegerFound p = ((i : Integer) × (p ≡ integer i)) ⊎ (is_integer p ≡ false)

integer-found : (p : Scalar) → IntegerFound p
integer-found (number n) = inl (from0 n, refl)
integer-found (minus n) = inl (below0 n, refl)
integer-found (string s) = inr refl
integer-found other = inr refl

entry_found : (p q x : Scalar) (r : List Scalar) → IntegerFound p → IntegerFound q → EntriesFound r (error_reports_in r) →
    EntriesFound (p ∷ q ∷ x ∷ r) (cond (is_integer p && is_integer q) (before (p ∷ q ∷ other ∷ []) (error_reports_in r)) nothing)
entry_found p q x r (inl i) (inl j) (inl g) =
    inl (record { code = i.0; label = j.0; third = x } ∷ g.0, rw (i.1, j.1, g.1))
entry_found p q x r (inl i) (inl j) (inr e) = inr (rw (i.1, j.1, is-integer i.0, is-integer j.0, e))
entry_found p q x r (inl i) (inr e) g = inr (rw (e, and-false (is_integer p)))
entry_found p q x r (inr e) j g = inr (rw e)

entries-found : (ps : List Scalar) → EntriesFound ps (error_reports_in ps)
unfolding error_reports_in
entries-found [] = inl ([], refl)
entries-found (p ∷ []) = inr refl
entries-found (p ∷ q ∷ []) = inr refl
entries-found (p ∷ q ∷ x ∷ r) = entry_found p q x r (integer-found p) (integer-found q) (entries-found r)

abbrev EntriesOr : View → Type 0
EntriesOr x = ((es : List Entry) × GoodEntries x es) ⊎ (unsupported_taken x ≡ list_as Discarded 0 [])

entries-or : (p : Scalar) (ps : List Scalar) → EntriesFound (p ∷ ps) (error_reports_in (p ∷ ps)) → EntriesOr (list (p ∷ ps))
entries-or p ps (inl g) = by g.0 g.1
  where
    by : (es : List Entry) → p ∷ ps ≡ entries es → EntriesOr (list (p ∷ ps))
    by [] e = absurd (let none : length (p ∷ ps) ≡ 0 = ap length e in omega (arith, none))
    by (e ∷ es) q = inl (e ∷ es, record { is = ap list q; one = omega arith })
entries-or p ps (inr e) = inr (rw e)

module _ (H : HeadLaws) (x : View) (small : view_size x ≤ 254) where
  entries-room : (es : List Entry) → x ≡ list (entries es) → length (entries_bytes es) ≤ 253
  entries-room es e =
      omega (arith, small, ap view_size e, written-size H (kept_entries es), ap length (entries-written es), kept-smaller es)

  entries-good : (es : List Entry) → GoodEntries x es → unsupported_taken x ≡ list_as Taken (length (entries es)) (entries_bytes es)
  entries-good es g =
      rw (g.is, some-picked es g.one, entries-written es, le-leb (length (entries_bytes es)) 253 (entries-room es g.is))
      (listed-as (kept_entries es) (length (entries es)) (entries_bytes es) (entries-many es) (entries-written es))

  pub entries-judged : EntriesJudged x (unsupported_taken x)
  entries-judged = record { good = entries-good; other = by x }
    where
      by : (y : View) → EntriesOr y
      by (scalar p) = inr refl
      by (list []) = inr refl
      by (list (p ∷ ps)) = entries-or p ps (entries-found (p ∷ ps))
