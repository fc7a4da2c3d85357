-- Each parameter that is read of a value that fits, fits its place in an image.
use Prim.Native.Nat.{ℕ, zero, suc, ◌+◌, ◌*◌, ◌-◌, ◌/◌, ◌%◌, ◌<◌, ◌≤◌}
use mathlib.Core.Path.{◌≡◌, refl}
use mathlib.Core.Bool.{Bool, true, false, not, ◌&&◌}
use mathlib.Core.List.{List, [], ◌∷◌, ◌++◌}
use mathlib.Core.Option as option
use mathlib.Core.Option.{Option, none}
use native.Mathlib.Omega.{arith}
use borrow.Author.Tests.{eqb-true, leb-true, ltb-true}
use lib.Dec.{leb, ltb, eqb}
use lib.ListN.{length, get_or, replicate, length-append, length-replicate}
use Rattle.lemmas.specs.logic.Tests.{both_left, both_right}
use Rattle.short_address.specs.Address.{is_address, is_reserved}
use Rattle.image.specs.Part.{AllBytes, octets}
use Rattle.key_image.specs.AdditionalInfo.{additional_info_part}
use Rattle.key_image.specs.Key.{key_part, key_set_part}
use Rattle.link_key.specs.AdditionalInfo.{additional_info_in}
use Rattle.link_key.specs.Key.{no_key, valid_key}
use Rattle.link_key.specs.declared.Key.{Key}
use Rattle.link_key.specs.declared.additional_info.AdditionalInfo.{AdditionalInfo}
use Rattle.link_key.specs.declared.additional_info.AdditionalInfo.TheVariants as info
use Rattle.link_key.specs.set.KeyLaws.{KeyLaws}
use Rattle.link_key.specs.set.KeySet.{all_valid, none_twice, valid_keys}
use Rattle.byte_io.specs.BigEndian.{bytes_of}
use Rattle.cbor.specs.Encode.{info_of, extra_of, shortest, encode}
use Rattle.cbor.specs.View.{Scalar, number, minus, string, other, View, scalar, list}
use Rattle.cojp.specs.Address.{address_by, address_in, address_judged, address_parameter, no_address_parameter, address_read}
use Rattle.cojp.specs.KeySet.{key_set_of, Groups, not_groups, groups_of, group, further, groups, identified}
use Rattle.cojp.specs.KeySet.{used, valued, keys_in, keys_judged_as, keys_parameter, keys_read_as}
use Rattle.cojp.specs.Lists.{scalar_item, written, Picked, nothing, picked, before, strings_in, is_integer, error_reports_in, at_least_one}
use Rattle.cojp.specs.Lists.{in_array, fitting, list_answer, no_list_parameter, list_taken, blacklist_taken, unsupported_taken}
use Rattle.cojp.specs.Octets.{padded, octets_parameter, no_octets_parameter, octets_judged, octets_read}
use Rattle.cojp.specs.Rate.{rate_taken}
use Rattle.cojp.specs.Reading.{Reading, refused, read, Judgement, broken, unfit, good, concluded}
use Rattle.cojp.specs.declared.disposition.Disposition.{Disposition}
use Rattle.cojp.specs.declared.disposition.Disposition.TheVariants.{Taken, Discarded}
use Rattle.object_image.specs.Address.{short_address_part, address_parameter_part}
use Rattle.object_image.specs.Configuration.{keys_parameter_part}
use Rattle.object_image.specs.Lists.{list_parameter_part}
use Rattle.object_image.specs.Octets.{octets_part, octets_parameter_part}
use Rattle.object_image.specs.Rate.{rate_parameter_part}
use Rattle.node_call_laws.proofs.Items.{Always, Word, PlainOk, PlainsOk, ViewOk}
use Rattle.node_call_laws.proofs.Lists.{by_cond, fits-made, under-append, under-zeros}
use Rattle.node_call_laws.proofs.Values.{bool-fits, report-fits, no-key-fits}

-- what was read, or judged good, fits
abbrev pub ReadOk : {A : Type 0} → (A → Type 0) → Reading A → Type 0
ReadOk P (refused k) = Always
ReadOk P (read a) = P a

abbrev pub JudgedOk : {A : Type 0} → (A → Type 0) → Judgement A → Type 0
JudgedOk P broken = Always
JudgedOk P unfit = Always
JudgedOk P (good a) = P a

pub concluded-ok : {A B : Type 0} (P : B → Type 0) (Q : A → Type 0) (outside : Reading B) (take : A → B) (j : Judgement A)
    → ReadOk P outside
    → ((a : A) → Q a → P (take a)) → JudgedOk Q j → ReadOk P (concluded outside take j)
concluded-ok P Q outside take broken o f h = refl
concluded-ok P Q outside take unfit o f h = o
concluded-ok P Q outside take (good a) o f h = f a h

pub padded-fits : (n : ℕ) (s : List ℕ) → AllBytes s → length s ≤ n → (octets n).Fit (padded n s)
unfolding padded
padded-fits n s b h =
    let zeros = replicate {A = ℕ} (n - length s) 0 in (
      omega (arith, length-append s zeros, length-replicate {A = ℕ} (n - length s) 0),
      under-append 256 s zeros b (under-zeros 256 (n - length s) (omega arith)),
    )

-- ---- byte strings
pub no-octets-fit : (r : Disposition) → octets_parameter_part.Fit (no_octets_parameter r)
no-octets-fit r = (report-fits r, (omega arith, (refl, under-zeros 256 16 (omega arith))))

octets-judged : (least : ℕ) (v : View) → ViewOk v → JudgedOk octets_part.Fit (octets_judged least v)
unfolding octets_judged
octets-judged least (scalar (string s)) h =
    by_cond (JudgedOk octets_part.Fit) (leb least (length s) && leb (length s) 16)
    (λ e. let short = leb-true (length s) 16 (both_right (leb least (length s)) (leb (length s) 16) e) in
    (omega arith, padded-fits 16 s h short))
    (λ _. refl)
octets-judged least (scalar (number n)) h = refl
octets-judged least (scalar (minus n)) h = refl
octets-judged least (scalar other) h = refl
octets-judged least (list ps) h = refl

pub octets-read : (least : ℕ) (v : View) → ViewOk v → ReadOk octets_parameter_part.Fit (octets_read least v)
octets-read least v h =
    concluded-ok octets_parameter_part.Fit octets_part.Fit (read (no_octets_parameter Discarded)) (octets_parameter Taken)
    (octets_judged least v)
    (no-octets-fit Discarded) (λ o f. (report-fits Taken, f)) (octets-judged least v h)

-- ---- short addresses
pub no-address-fits : (r : Disposition) → address_parameter_part.Fit (no_address_parameter r)
no-address-fits r = (report-fits r, ((refl, under-zeros 256 2 (omega arith)), (bool-fits false, omega arith)))

address-by : (s : List ℕ) (leased : Bool) (lease : ℕ) → AllBytes s → Word lease
    → JudgedOk short_address_part.Fit (address_by s leased lease)
unfolding is_address
address-by s leased lease b w =
    by_cond (JudgedOk short_address_part.Fit) (is_address s)
    (λ e. ((eqb-true (length s) 2 (both_left (eqb (length s) 2) (not (is_reserved s)) e), b), (bool-fits leased, w)))
    (λ _. refl)

address-in : (ps : List Scalar) → PlainsOk ps → JudgedOk short_address_part.Fit (address_in ps)
unfolding address_in
address-in [] h = refl
address-in (number n ∷ r) h = refl
address-in (minus n ∷ r) h = refl
address-in (other ∷ r) h = refl
address-in (string s ∷ []) h = address-by s false 0 h.0 (omega arith)
address-in (string s ∷ number n ∷ []) h = address-by s true n h.0 h.1.0
address-in (string s ∷ number n ∷ p ∷ r) h = refl
address-in (string s ∷ string t ∷ r) h = refl
address-in (string s ∷ minus n ∷ r) h = refl
address-in (string s ∷ other ∷ r) h = refl

address-judged : (v : View) → ViewOk v → JudgedOk short_address_part.Fit (address_judged v)
address-judged (scalar p) h = refl
address-judged (list ps) h = address-in ps h

pub address_read_lem : (v : View) → ViewOk v → ReadOk address_parameter_part.Fit (address_read v)
address_read_lem v h =
    concluded-ok address_parameter_part.Fit short_address_part.Fit (read (no_address_parameter Discarded)) (address_parameter Taken)
    (address_judged v)
    (no-address-fits Discarded) (λ a f. (report-fits Taken, f)) (address-judged v h)

-- ---- join rates
pub rate-taken : (v : View) → ViewOk v → rate_parameter_part.Fit (rate_taken v)
unfolding rate_taken
rate-taken (scalar (number n)) h = (report-fits Taken, h)
rate-taken (scalar (minus n)) h = (report-fits Discarded, omega arith)
rate-taken (scalar (string s)) h = (report-fits Discarded, omega arith)
rate-taken (scalar other) h = (report-fits Discarded, omega arith)
rate-taken (list ps) h = (report-fits Discarded, omega arith)

-- ---- blacklists and reports of what could not be acted on
pub no-list-fits : (r : Disposition) → list_parameter_part.Fit (no_list_parameter r)
no-list-fits r = (report-fits r, (omega arith, (omega arith, (refl, under-zeros 256 253 (omega arith)))))

abbrev PickedOk : Picked → Type 0
PickedOk nothing = Always
PickedOk (picked ps) = PlainsOk ps

plains-append : (ps qs : List Scalar) → PlainsOk ps → PlainsOk qs → PlainsOk (ps ++ qs)
plains-append [] qs f g = g
plains-append (p ∷ ps) qs f g = (f.0, plains-append ps qs f.1 g)

before-ok : (ps : List Scalar) (q : Picked) → PlainsOk ps → PickedOk q → PickedOk (before ps q)
before-ok ps nothing f g = refl
before-ok ps (picked qs) f g = plains-append ps qs f g

strings-ok : (ps : List Scalar) → PlainsOk ps → PickedOk (strings_in ps)
unfolding strings_in
strings-ok [] h = refl
strings-ok (number n ∷ r) h = refl
strings-ok (minus n ∷ r) h = refl
strings-ok (string s ∷ r) h = before-ok (string s ∷ []) (strings_in r) (h.0, refl) (strings-ok r h.1)
strings-ok (other ∷ r) h = refl

faults-ok : (ps : List Scalar) → PlainsOk ps → PickedOk (error_reports_in ps)
unfolding error_reports_in
faults-ok [] h = refl
faults-ok (p ∷ []) h = refl
faults-ok (p ∷ q ∷ []) h = refl
faults-ok (p ∷ q ∷ x ∷ r) h =
    by_cond PickedOk (is_integer p && is_integer q)
    (λ _. before-ok (p ∷ q ∷ other ∷ []) (error_reports_in r) (h.0, (h.1.0, (refl, refl))) (faults-ok r h.1.1.1))
    (λ _. refl)

some-ok : (ps : List Scalar) → PlainsOk ps → PickedOk (at_least_one error_reports_in ps)
some-ok [] h = refl
some-ok (p ∷ ps) h = faults-ok (p ∷ ps) h

array_ok : (f : List Scalar → Picked) → ((ps : List Scalar) → PlainsOk ps → PickedOk (f ps)) → (v : View) → ViewOk v
    → PickedOk (in_array f v)
array_ok f g (scalar p) h = refl
array_ok f g (list ps) h = g ps h

-- what is written are bytes, one at least of each member
number-bytes : (k n : ℕ) → AllBytes (bytes_of k n)
unfolding bytes_of
number-bytes zero n = λ i. omega arith
number-bytes (suc k) n = under-append 256 (bytes_of k (n / 256)) (n % 256 ∷ []) (number-bytes k (n / 256)) one
  where
    one : AllBytes (n % 256 ∷ [])
    one zero = omega arith
    one (suc i) = omega arith

low-info : (n : ℕ) → info_of n < 32
unfolding info_of
low-info n =
    let P : ℕ → Type 0 = λ x. x < 32 in
    by_cond P (ltb n 24) (λ e. omega (arith, ltb-true n 24 e))
    (λ _. by_cond P (ltb n 256) (λ _. omega arith)
    (λ _. by_cond P (ltb n 65536) (λ _. omega arith) (λ _. by_cond P (ltb n 4294967296) (λ _. omega arith) (λ _. omega arith))))

abbrev Written : List ℕ → Type 0
Written s = AllBytes s × (1 ≤ length s)

head-written : (major n : ℕ) → major ≤ 7 → Written (shortest major n)
unfolding shortest
head-written major n h = (all, omega arith)
  where
    all : AllBytes ((major * 32 + info_of n) ∷ bytes_of (extra_of n) n)
    all zero = omega (arith, low-info n)
    all (suc i) = number-bytes (extra_of n) n i

member-written : (p : Scalar) → PlainOk p → Written (encode (scalar_item p))
member-written (number n) h = head-written 0 n (omega arith)
member-written (minus n) h = head-written 1 n (omega arith)
member-written (string s) h =
    let w = head-written 2 (length s) (omega arith) in
    (under-append 256 (shortest 2 (length s)) s w.0 h, omega (arith, length-append (shortest 2 (length s)) s, w.1))
member-written other h = head-written 7 22 (omega arith)

all-written : (ps : List Scalar) → PlainsOk ps → AllBytes (written ps) × (length ps ≤ length (written ps))
all-written [] h = (λ i. omega arith, omega arith)
all-written (p ∷ ps) h =
    let one = member-written p h.0 in
    let rest = all-written ps h.1 in (
      under-append 256 (encode (scalar_item p)) (written ps) one.0 rest.0,
      omega (arith, length-append (encode (scalar_item p)) (written ps), one.1, rest.1),
    )

fitted-list : (q : Picked) → PickedOk q → list_parameter_part.Fit (list_taken (list_answer (fitting 253 q)))
fitted-list nothing h = no-list-fits Discarded
fitted-list (picked ps) h =
    by_cond (λ (q : Picked). list_parameter_part.Fit (list_taken (list_answer q))) (leb (length (written ps)) 253)
    (λ e.
    let short = leb-true (length (written ps)) 253 e in
    let w = all-written ps h in
    (report-fits Taken, (omega (arith, w.1), (omega arith, padded-fits 253 (written ps) w.0 short))))
    (λ _. no-list-fits Discarded)

pub blacklist-taken : (v : View) → ViewOk v → list_parameter_part.Fit (blacklist_taken v)
blacklist-taken v h = fitted-list (in_array strings_in v) (array_ok strings_in strings-ok v h)

pub unsupported-taken : (v : View) → ViewOk v → list_parameter_part.Fit (unsupported_taken v)
unsupported-taken v h = fitted-list (in_array (at_least_one error_reports_in) v) (array_ok (at_least_one error_reports_in) some-ok v h)

-- ---- key sets
abbrev KeyOk : Key → Type 0
KeyOk k = AllBytes k.value × additional_info_part.Fit k.info

abbrev KeysOk : List Key → Type 0
KeysOk [] = Always
KeysOk (k ∷ ks) = KeyOk k × KeysOk ks

abbrev GroupsOk : Groups → Type 0
GroupsOk not_groups = Always
GroupsOk (groups_of ks) = KeysOk ks

abbrev OptionOk : Option AdditionalInfo → Type 0
OptionOk none = Always
OptionOk (option.some w) = additional_info_part.Fit w

absent-info : additional_info_part.Fit info.Absent
absent-info = ((omega arith, (refl, under-zeros 256 8 (omega arith))), refl)

info-ok : (w : List ℕ) → AllBytes w → OptionOk (additional_info_in w)
info-ok [] b = refl
info-ok (x ∷ []) b = refl
info-ok (x ∷ y ∷ []) b = refl
info-ok (x ∷ y ∷ z ∷ []) b = refl
info-ok (x ∷ y ∷ z ∷ u ∷ []) b =
    ((omega arith, (refl, under-append 256 (x ∷ y ∷ z ∷ u ∷ []) (replicate 4 0) b (under-zeros 256 4 (omega arith)))), refl)
info-ok (x ∷ y ∷ z ∷ u ∷ v ∷ []) b = refl
info-ok (x ∷ y ∷ z ∷ u ∷ v ∷ w ∷ []) b = refl
info-ok (x ∷ y ∷ z ∷ u ∷ v ∷ w ∷ p ∷ []) b = refl
info-ok (x ∷ y ∷ z ∷ u ∷ v ∷ w ∷ p ∷ q ∷ []) b = ((omega arith, (refl, b)), refl)
info-ok (x ∷ y ∷ z ∷ u ∷ v ∷ w ∷ p ∷ q ∷ t ∷ r) b = refl

group-ok : (i u : ℕ) (v : List ℕ) (w : AdditionalInfo) (gs : Groups) → AllBytes v → additional_info_part.Fit w → GroupsOk gs
    → GroupsOk (group i u v w gs)
group-ok i u v w not_groups b f g = refl
group-ok i u v w (groups_of ks) b f g = ((b, f), g)

further_ok : (allowed : Bool) (i u : ℕ) (v : List ℕ) (o : Option AdditionalInfo) (gs : Groups) → AllBytes v → OptionOk o → GroupsOk gs
    → GroupsOk (further allowed i u v o gs)
further_ok false i u v o gs b f g = refl
further_ok true i u v none gs b f g = refl
further_ok true i u v (option.some w) gs b f g = group-ok i u v w gs b f g

mutual
  unfolding groups identified used valued

  groups-ok : (ps : List Scalar) (allowed : Bool) → PlainsOk ps → GroupsOk (groups allowed ps)
  groups-ok [] allowed h = refl
  groups-ok (number i ∷ r) allowed h = identified-ok r allowed i h.1
  groups-ok (minus n ∷ r) allowed h = refl
  groups-ok (string v ∷ r) allowed h = refl
  groups-ok (other ∷ r) allowed h = refl

  identified-ok : (ps : List Scalar) (allowed : Bool) (i : ℕ) → PlainsOk ps → GroupsOk (identified allowed i ps)
  identified-ok [] allowed i h = refl
  identified-ok (number u ∷ r) allowed i h = used-ok r allowed i u h.1
  identified-ok (minus n ∷ r) allowed i h = refl
  identified-ok (string v ∷ r) allowed i h = valued-ok r allowed i 0 v h.0 h.1
  identified-ok (other ∷ r) allowed i h = refl

  used-ok : (ps : List Scalar) (allowed : Bool) (i u : ℕ) → PlainsOk ps → GroupsOk (used allowed i u ps)
  used-ok [] allowed i u h = refl
  used-ok (number n ∷ r) allowed i u h = refl
  used-ok (minus n ∷ r) allowed i u h = refl
  used-ok (string v ∷ r) allowed i u h = valued-ok r allowed i u v h.0 h.1
  used-ok (other ∷ r) allowed i u h = refl

  valued-ok : (ps : List Scalar) (allowed : Bool) (i u : ℕ) (v : List ℕ) → AllBytes v → PlainsOk ps → GroupsOk (valued allowed i u v ps)
  valued-ok [] allowed i u v b h = ((b, absent-info), refl)
  valued-ok (number n ∷ r) allowed i u v b h =
      group-ok i u v info.Absent (identified allowed n r) b absent-info (identified-ok r allowed n h.1)
  valued-ok (minus n ∷ r) allowed i u v b h = refl
  valued-ok (string w ∷ r) allowed i u v b h =
      further_ok allowed i u v (additional_info_in w) (groups allowed r) b (info-ok w h.0) (groups-ok r allowed h.1)
  valued-ok (other ∷ r) allowed i u v b h = refl

module _ (laws : KeyLaws) where
  key_fits : (k : Key) → KeyOk k → valid_key k ≡ true → key_part.Fit k
  key_fits k h e =
      let l = laws.limits-fit k e in
      (omega (arith, l.0), (omega (arith, l.1), ((l.2, h.0), h.1)))

  each_fits : (ks : List Key) → KeysOk ks → all_valid ks ≡ true → (m i : ℕ) → key_part.Fit (get_or (ks ++ replicate m no_key) i no_key)
  each_fits [] h e m i = zeros m i
    where
      zeros : (m i : ℕ) → key_part.Fit (get_or (replicate m no_key) i no_key)
      zeros zero i = no-key-fits
      zeros (suc m) zero = no-key-fits
      zeros (suc m) (suc i) = zeros m i
  each_fits (k ∷ ks) h e m zero = key_fits k h.0 (both_left (valid_key k) (all_valid ks) e)
  each_fits (k ∷ ks) h e m (suc i) = each_fits ks h.1 (both_right (valid_key k) (all_valid ks) e) m i

  set-fits : (ks : List Key) → KeysOk ks → valid_keys ks ≡ true → key_set_part.Fit (key_set_of ks)
  unfolding valid_keys
  set-fits ks h e =
      let a = leb 1 (length ks) in
      let b = leb (length ks) 8 in
      let first = both_left (a && b && all_valid ks) (none_twice ks) e in
      let few = leb-true (length ks) 8 (both_right a b (both_left (a && b) (all_valid ks) first)) in
      let rest = replicate (8 - length ks) no_key in (
        omega arith,
        fits-made key_part 8 (ks ++ rest) no_key (omega (arith, length-append ks rest, length-replicate (8 - length ks) no_key))
            (each_fits ks h (both_right (a && b) (all_valid ks) first) (8 - length ks)),
      )

  keys_in_lem : (gs : Groups) → GroupsOk gs → JudgedOk key_set_part.Fit (keys_in gs)
  keys_in_lem not_groups h = refl
  keys_in_lem (groups_of ks) h = by_cond (JudgedOk key_set_part.Fit) (valid_keys ks) (λ e. set-fits ks h e) (λ _. refl)

  keys-judged : (allowed : Bool) (v : View) → ViewOk v → JudgedOk key_set_part.Fit (keys_judged_as allowed v)
  keys-judged allowed (scalar p) h = refl
  keys-judged allowed (list ps) h = keys_in_lem (groups allowed ps) (groups-ok ps allowed h)

  pub keys-read : (allowed : Bool) (v : View) → ViewOk v → ReadOk keys_parameter_part.Fit (keys_read_as allowed v)
  keys-read allowed v h =
      concluded-ok keys_parameter_part.Fit key_set_part.Fit _ (keys_parameter Taken) (keys_judged_as allowed v)
      refl (λ s f. (report-fits Taken, f)) (keys-judged allowed v h)
