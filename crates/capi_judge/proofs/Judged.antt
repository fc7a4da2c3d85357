-- The node of an image is read at its places, and judged test after test.
use Prim.Native.Nat.{ℕ, ◌<◌, ◌≤◌}
use mathlib.Core.Path.{◌≡◌, ap, sym, ◌∙◌}
use mathlib.Core.Bool.{Bool, true, false, ◌&&◌}
use mathlib.Core.List.{List}
use borrow.Author.Tests.{lt-leb}
use lib.ListN.{length, take, drop, get_or, length-drop}
use lib.Seq.{drop-drop, get_or-drop, take-length, take-take, length-take-le}
use native.Mathlib.Omega.{arith}
use Rattle.byte_io.specs.BigEndian.{big_endian}
use Rattle.image.specs.Part.{is_image}
use Rattle.image.specs.PartLemmas.{one-digit}
use Rattle.cojp.specs.Lists.{strings_in, bytes_in, same_as, kept}
use Rattle.cojp.specs.declared.list.ItemList.{ItemList}
use Rattle.capi_judge.specs.Kept.{list_in}
use Rattle.node_image.specs.Held.{held_list_part}
use Rattle.object_image.specs.Codes.{bool_part}
use Rattle.cojp.specs.ErrorReports.{error_reports_valid}
use Rattle.protocol_version.specs.Version.{allows_additional_info}
use Rattle.protocol_version.specs.declared.Version.TheVariants.{Draft, Published}
use Rattle.key_image.specs.Key.{counted_set_part}
use Rattle.node.specs.Node.{is_border, clock_of}
use Rattle.node.specs.Range.{draft_valid, published_valid, version_valid, others_valid, valid}
use Rattle.node.specs.declared.node.Node.{Node}
use Rattle.node_attempt.specs.Attempt as attempt
use Rattle.node_image.specs.Node.{node_image}
use Rattle.node_key_sets.specs.Sets as sets
use Rattle.node_parameters.specs.Lease.{valid_address}
use Rattle.node_image.specs.NodeLemmas.{node_at, node_at_lem}

-- ---- three tests in a row, and four; the first that fails tells
module _ (a b c : Bool) where
  pub three-1 : a ≡ false → false ≡ (a && b && c)
  three-1 e = rw e

  pub three-2 : a ≡ true → b ≡ false → false ≡ (a && b && c)
  three-2 e f = rw (e, f)

  pub three-3 : {r : Bool} → a ≡ true → b ≡ true → r ≡ c → r ≡ (a && b && c)
  three-3 e f g = rw (e, f) g

module _ (a b c d : Bool) where
  pub four-1 : a ≡ false → false ≡ (a && b && c && d)
  four-1 e = rw e

  pub four-2 : a ≡ true → b ≡ false → false ≡ (a && b && c && d)
  four-2 e f = rw (e, f)

  pub four-3 : a ≡ true → b ≡ true → c ≡ false → false ≡ (a && b && c && d)
  four-3 e f g = rw (e, f, g)

  pub four-4 : {r : Bool} → a ≡ true → b ≡ true → c ≡ true → r ≡ d → r ≡ (a && b && c && d)
  four-4 e f g h = rw (e, f, g) h

-- ---- the form
module _ (n : Node) where
  pub reports-not : error_reports_valid n.version n.errors ≡ false → false ≡ version_valid n
  unfolding version_valid
  reports-not e = rw e

  pub form-draft : {r : Bool} → error_reports_valid n.version n.errors ≡ true → n.version ≡ Draft → r ≡ draft_valid n
      → r ≡ version_valid n
  unfolding version_valid
  form-draft e f g = rw (e, f) g

  pub form-published : {r : Bool} → error_reports_valid n.version n.errors ≡ true → n.version ≡ Published → r ≡ published_valid n
      → r ≡ version_valid n
  unfolding version_valid
  form-published e f g = rw (e, f) g

-- ---- the node
module _ (s : List ℕ) where
  abbrev n : Node
  n = node_at s

  abbrev sets-good : Bool
  sets-good = sets.valid_as (allows_additional_info n.version) (is_border n) n.sets

  abbrev judged : Bool
  judged = (sets-good && attempt.valid n.attempt && valid_address (clock_of n) n.address && others_valid n)

  abbrev answer : Bool
  answer = (is_image node_image s && valid (node_image.get s))

  so : is_image node_image s ≡ true → judged ≡ answer
  unfolding valid
  so h = rw h (ap valid (node_at_lem s))

  pub no-image : is_image node_image s ≡ false → false ≡ answer
  no-image h = rw h

  module _ (h : is_image node_image s ≡ true) where
    pub sets-not : sets-good ≡ false → false ≡ answer
    sets-not e = four-1 sets-good _ _ _ e ∙ so h

    pub attempt-not : sets-good ≡ true → attempt.valid n.attempt ≡ false → false ≡ answer
    attempt-not e f = four-2 sets-good _ _ _ e f ∙ so h

    pub address-not : sets-good ≡ true → attempt.valid n.attempt ≡ true → valid_address (clock_of n) n.address ≡ false → false ≡ answer
    address-not e f g = four-3 sets-good _ _ _ e f g ∙ so h

    pub others-so : {r : Bool} → sets-good ≡ true → attempt.valid n.attempt ≡ true → valid_address (clock_of n) n.address ≡ true
        → r ≡ others_valid n → r ≡ answer
    others-so e f g i = four-4 sets-good _ _ _ e f g i ∙ so h

  pub sets-so : {i r : Bool} → i ≡ allows_additional_info n.version
      → r ≡ sets.valid_as i (is_border n) (sets.two_sets (counted_set_part.get (drop 29 s)) (counted_set_part.get (drop 278 s))) → r ≡ sets-good
  sets-so e f =
      f ∙ rw (e, ← drop-drop 249 29 s)

-- ---- the blacklist, judged on its bytes
kept-bytes : (l : ItemList) (n : ℕ) (b : List ℕ) → l.count ≡ n → bytes_in l ≡ b → length b ≡ l.len
    → kept strings_in (list_in n b) ≡ kept strings_in l
unfolding kept same_as
kept-bytes l n b e f g = rw (take-length b, ← e, f, g)

module _ (s : List ℕ) (long : length s ≡ 878) where
  abbrev listed : ItemList
  listed = (held_list_part.get (drop 602 s)).value

  count-so : listed.count ≡ get_or s 603 0
  count-so =
      ap (λ (t : List ℕ). big_endian (take 1 t)) (drop-drop 1 602 s) ∙ one-digit (drop 603 s) (omega (arith, length-drop 603 s))
      ∙ get_or-drop 603 s 0 0

  len-so : listed.len ≡ get_or s 604 0
  len-so =
      ap (λ (t : List ℕ). big_endian (take 1 t)) (ap (drop 1) (drop-drop 1 602 s) ∙ drop-drop 1 603 s)
      ∙ one-digit (drop 604 s) (omega (arith, length-drop 604 s)) ∙ get_or-drop 604 s 0 0

  bytes-so : (m : ℕ) → m ≤ 253 → listed.len ≡ m → bytes_in listed ≡ take m (drop 605 s)
  bytes-so m h e =
      ap (λ (k : ℕ). take k listed.bytes) e ∙ take-take m 253 _ h
      ∙ ap (take m) (ap (drop 1) (ap (drop 1) (drop-drop 1 602 s) ∙ drop-drop 1 603 s) ∙ drop-drop 1 604 s)

  module _ (prefix : bool_part.get (drop 583 s) ≡ false) where
    pub none-held : bool_part.get (drop 602 s) ≡ false → true ≡ published_valid (node_at s)
    none-held e = rw (prefix, e)

    module _ (e : bool_part.get (drop 602 s) ≡ true) (n m : ℕ) (c : n ≡ get_or s 603 0) (l : m ≡ get_or s 604 0) where
      pub list-long : 253 < m → false ≡ published_valid (node_at s)
      unfolding kept
      list-long h = rw (prefix, e, len-so ∙ sym l, lt-leb m 253 h)

      pub list-so : (k : ℕ) → k ≡ m → m ≤ 253 → {r : Bool} → r ≡ kept strings_in (list_in n (take k (drop 605 s)))
          → r ≡ published_valid (node_at s)
      list-so k q h f =
          let z : length (take m (drop 605 s)) ≡ m = length-take-le m (drop 605 s) (omega (arith, length-drop 605 s)) in
          let w = len-so ∙ sym l in
          rw (prefix, e)
          (f ∙ ap (λ (j : ℕ). kept strings_in (list_in n (take j (drop 605 s)))) q
          ∙ kept-bytes listed n (take m (drop 605 s)) (count-so ∙ sym c) (bytes-so m h w) (z ∙ sym w))
