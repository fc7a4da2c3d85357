-- Whether keys may be informed is asked of one after the other.
use Prim.Native.Nat.{ℕ, ◌+◌, ◌<◌}
use mathlib.Core.Path.{◌≡◌, refl, ap, ◌∙◌}
use mathlib.Core.Bool.{Bool, true, false, ◌&&◌, ◌||◌}
use mathlib.Core.List.{List, ◌∷◌}
use lib.ListN.{length, drop, get_or}
use Rattle.lemmas.specs.logic.Tests.{never}
use Rattle.link_key.specs.Key.{has_no_additional_info}
use Rattle.link_key.specs.declared.Key.{Key}
use Rattle.link_key.specs.set.KeySet.{no_additional_infos, additional_info_allowed}
use Rattle.link_key.proofs.Same.{next}

one-may : (i p q : Bool) → (i || p) ≡ true → (i || (p && q)) ≡ (i || q)
one-may true p q e = refl
one-may false true q e = refl
one-may false false q e = never false e refl

module _ (allowed : Bool) (ks : List Key) (i : ℕ) (h : i < length ks) (d : Key)
    (e : additional_info_allowed allowed ks ≡ additional_info_allowed allowed (drop i ks)) where
  abbrev rest : List Key
  rest = drop (i + 1) ks

  here : additional_info_allowed allowed ks ≡ additional_info_allowed allowed (get_or ks i d ∷ rest)
  here = e ∙ ap (additional_info_allowed allowed) (next ks i d h)

  pub allowed-more : (allowed || has_no_additional_info (get_or ks i d)) ≡ true
      → additional_info_allowed allowed ks ≡ additional_info_allowed allowed rest
  allowed-more f = here ∙ one-may allowed (has_no_additional_info (get_or ks i d)) (no_additional_infos rest) f
