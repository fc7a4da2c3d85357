-- Laws of keys: two that agree are equal, and a key that covers a frame has a listed usage.
use Rattle.std.specs.Prelude.{Ok, Err}
use Prim.Native.Nat.{ℕ, ◌≤◌}
use native.Mathlib.Omega.{arith}
use mathlib.Core.Path.{◌≡◌, refl}
use mathlib.Core.Bool.{Bool, true, false, cond, ◌&&◌}
use mathlib.Core.List.{List}
use mathlib.Core.Option.{none, some}
use borrow.Author.Tests.{leb-true, eqb-true, eq-eqb, le-leb}
use lib.Dec.{leb, eqb}
use lib.ListN.{length}
use Rattle.refusal.specs.declared.Refusal.TheVariants.{Range}
use Rattle.link_key.specs.usage.Usage.{usage_of, family_of, family_covers, listed, known_type, entry_at, entry_says}
use Rattle.link_key.specs.AdditionalInfo.{additional_info_bytes}
use Rattle.link_key.specs.Key.{key_with_additional_info, valid_key, same_key, same_secret, covers, coverage_of, coverage_says}
use Rattle.link_key.specs.declared.Key.{Key}
use Rattle.link_key.specs.declared.additional_info.AdditionalInfo.{AdditionalInfo}
use Rattle.link_key.specs.declared.usage.Usage.{Usage}
use Rattle.link_key.specs.declared.usage.Family.{Family}
use Rattle.link_key.specs.declared.usage.Family.TheVariants.{K1K2Encrypted, K1K2, K1, K2, K2Encrypted}
use Rattle.lemmas.specs.lists.Same.{same}
use Rattle.lemmas.specs.lists.SameLemmas.{same_refl, same-equal}
use Rattle.lemmas.specs.logic.Tests.{both_left, both_right, first}
use Rattle.link_key.proofs.Infos.{info-equal}

pub same-key-self : (k : Key) → same_key k k ≡ true
unfolding same_key
same-key-self k =
    rw (
      eq-eqb k.identifier k.identifier refl,
      eq-eqb k.usage k.usage refl,
      same_refl k.value,
      same_refl (additional_info_bytes k.info),
    )

alike :
    {i j t u : ℕ} {v w : List ℕ} {m n : AdditionalInfo} → i ≡ j → t ≡ u → v ≡ w → m ≡ n
    → key_with_additional_info i t v m ≡ key_with_additional_info j u w n
alike p q r s = rw (p, q, r, s)

pub same-key-equal : (k l : Key) → same_key k l ≡ true → k ≡ l
unfolding same_key
same-key-equal k l e =
    let names = eqb k.identifier l.identifier in
    let usages = eqb k.usage l.usage in
    let values = same k.value l.value in
    let infos = same (additional_info_bytes k.info) (additional_info_bytes l.info) in
    let three : (names && usages && values) ≡ true = both_left (names && usages && values) infos e in
    let front : (names && usages) ≡ true = both_left (names && usages) values three in
    let i : k.identifier ≡ l.identifier = eqb-true _ _ (both_left names usages front) in
    let u : k.usage ≡ l.usage = eqb-true _ _ (both_right names usages front) in
    let v : k.value ≡ l.value = same-equal k.value l.value (both_right (names && usages) values three) in
    let bytes =
    same-equal (additional_info_bytes k.info) (additional_info_bytes l.info) (both_right (names && usages && values) infos e) in
    alike i u v (info-equal k.info l.info bytes)

pub same-secret-says : (k l : Key) → same_secret k l ≡ true → (k.identifier ≡ l.identifier) × (k.value ≡ l.value)
unfolding same_secret
same-secret-says k l e =
    let names = eqb k.identifier l.identifier in
    let values = same k.value l.value in
    (eqb-true _ _ (both_left names values e), same-equal k.value l.value (both_right names values e))

pub same-secret-made : (k l : Key) → k.identifier ≡ l.identifier → k.value ≡ l.value → same_secret k l ≡ true
unfolding same_secret
same-secret-made k l p q =
    rw (eq-eqb k.identifier l.identifier p, q, same_refl l.value)

pub valid-identifier : (k : Key) → valid_key k ≡ true → 1 ≤ k.identifier
unfolding valid_key
valid-identifier k e =
    leb-true 1 k.identifier (first (leb 1 k.identifier) (leb k.identifier 255) (listed k.usage) (eqb (length k.value) 16) e)

pub limits-fit : (k : Key) → valid_key k ≡ true → (k.identifier ≤ 255) × (k.usage ≤ 14) × (length k.value ≡ 16)
unfolding valid_key
limits-fit k e =
    let least = leb 1 k.identifier in
    let most = leb k.identifier 255 in
    let usage = listed k.usage in
    let value = eqb (length k.value) 16 in
    let front = both_left (least && most && usage) value e in (
      leb-true _ _ (both_right least most (both_left (least && most) usage front)),
      leb-true _ _ (both_right (least && most) usage front),
      eqb-true _ _ (both_right (least && most && usage) value e),
    )

known-type : (f : Family) (type : ℕ) → family_covers f type ≡ true → type ≤ 1
known-type K1K2Encrypted type e = leb-true type 1 e
known-type K1K2 type e = leb-true type 1 e
known-type K1 type e = omega (arith, eqb-true type 0 e)
known-type K2 type e = omega (arith, eqb-true type 1 e)
known-type K2Encrypted type e = omega (arith, eqb-true type 1 e)

pub covers-known-type : (k : Key) (type : ℕ) → covers k type ≡ true → type ≤ 1
unfolding covers
covers-known-type k type e =
    known-type (family_of k.usage) type (both_right (listed k.usage) (family_covers (family_of k.usage) type) e)

pub covers-listed : (k : Key) (type : ℕ) → covers k type ≡ true → k.usage ≤ 14
unfolding covers
covers-listed k type e = leb-true _ 14 (both_left (listed k.usage) (family_covers (family_of k.usage) type) e)

pub coverage-covered : (k : Key) (type : ℕ) → type ≤ 1 → k.usage ≤ 14 → coverage_of k type ≡ Ok (covers k type)
unfolding coverage_of
coverage-covered k type h u = rw (le-leb type 1 h, le-leb k.usage 14 u)

-- the answers in document 01's terms
choose-entry : (b : Bool) (u : Usage) → entry_says (cond b (Ok u) (Err Range)) ≡ cond b (0, some u) (13, none)
choose-entry true u = refl
choose-entry false u = refl

pub entry-says : (usage : ℕ) → entry_says (entry_at usage) ≡ cond (listed usage) (0, some (usage_of usage)) (13, none)
unfolding entry_at
entry-says usage = choose-entry (listed usage) (usage_of usage)

choose-coverage : (b c : Bool) → coverage_says (cond b (Ok c) (Err Range)) ≡ cond b (0, some c) (13, none)
choose-coverage true c = refl
choose-coverage false c = refl

pub coverage-says :
    (k : Key) (type : ℕ)
    → coverage_says (coverage_of k type) ≡ cond (known_type type && listed k.usage) (0, some (covers k type)) (13, none)
unfolding coverage_of
coverage-says k type = choose-coverage (known_type type && listed k.usage) (covers k type)
