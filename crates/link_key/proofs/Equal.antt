-- Derived `==` on keys and on additional information computes what the definitions say, field by field.
use mathlib.Core.Path.{◌≡◌, refl, ap, ◌∙◌}
use mathlib.Core.Bool.{Bool, ◌&&◌, and_assoc, and-true, and-false}
use mathlib.Core.List.{List, [], ◌∷◌}
use lib.Dec.{eqb}
use lib.Pointwise.{pointwise}
use Prim.Native.Nat.{ℕ}
use Rattle.lemmas.specs.lists.Same.{same}
use Rattle.link_key.specs.AdditionalInfo.{additional_info_bytes}
use Rattle.link_key.specs.Key.{same_key}
use Rattle.link_key.specs.Same.{same_by}
use Rattle.link_key.specs.declared.Key.{Key}
use Rattle.link_key.specs.declared.additional_info.AdditionalInfo.{AdditionalInfo}
use Rattle.link_key.specs.declared.additional_info.AdditionalInfo.TheVariants as info
use Rattle.link_key.specs.contracts.KeyPartialEq.TheImpl as key
use Rattle.link_key.specs.contracts.additional_info.AdditionalInfoPartialEq.TheImpl as info_eq

pub bytes : (xs ys : List ℕ) → pointwise eqb xs ys ≡ same xs ys
unfolding same
bytes [] [] = refl
bytes [] (y ∷ ys) = refl
bytes (x ∷ xs) [] = refl
bytes (x ∷ xs) (y ∷ ys) = ap (λ b. eqb x y && b) (bytes xs ys)

infos : (i j : AdditionalInfo) → info_eq.eq-value.it i j ≡ same (additional_info_bytes i) (additional_info_bytes j)
unfolding same
infos info.Absent info.Absent = refl
infos info.Absent (info.Four a b c d) = refl
infos info.Absent (info.Eight a b c d e f g h) = refl
infos (info.Four a b c d) info.Absent = refl
infos (info.Four a b c d) (info.Four a' b' c' d') = simp and-true
infos (info.Four a b c d) (info.Eight a' b' c' d' e f g h) = simp and-false
infos (info.Eight a b c d e f g h) info.Absent = refl
infos (info.Eight a b c d e f g h) (info.Four a' b' c' d') = simp and-false
infos (info.Eight a b c d e f g h) (info.Eight a' b' c' d' e' f' g' h') = simp and-true

grouped : (a b c d : Bool) → (a && (b && (c && d))) ≡ (a && b && c && d)
grouped a b c d = simp and_assoc

pub keys : (k l : Key) → key.eq-value.it k l ≡ same_key k l
unfolding same_key
keys k l =
    let name = eqb k.identifier l.identifier in
    let usage = eqb k.usage l.usage in
    ap (λ v. name && (usage && (v && info_eq.eq-value.it k.info l.info))) (bytes k.value l.value)
    ∙ ap (λ i. name && (usage && (same k.value l.value && i))) (infos k.info l.info)
    ∙ grouped name usage (same k.value l.value) (same (additional_info_bytes k.info) (additional_info_bytes l.info))

pub lists : (ks ls : List Key) → pointwise key.eq-value.it ks ls ≡ same_by same_key ks ls
lists [] [] = refl
lists [] (l ∷ ls) = refl
lists (k ∷ ks) [] = refl
lists (k ∷ ks) (l ∷ ls) = rw (← keys k l, ← lists ks ls)
