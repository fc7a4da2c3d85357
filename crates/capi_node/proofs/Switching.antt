-- The bytes of the pending set are copied over those of the active one, byte by byte; what the report does is told by whether the key is
-- active.
use Rattle.std.specs.Prelude.{Result, Ok, Err}
use Prim.Native.Nat.{ℕ}
use mathlib.Core.Bool.{Bool, true, false, cond}
use mathlib.Core.List.{List, ◌++◌, append_assoc}
use mathlib.Core.Option.{Option, none, some}
use Rattle.std.specs.Option.{is_some}
use Rattle.std.specs.declared.option.Option.{Option as Found}
use mathlib.Core.Path.{◌≡◌, refl, ap, sym, ◌∙◌}
use native.Mathlib.Omega.{arith}
use lib.ListN.{length, take, drop, replicate, length-drop}
use lib.Seq.{drop-drop, take_at, drop_at, length-take-le}
use lib.Seq.{length-paste, length_paste_head}
use Rattle.lemmas.specs.logic.Tests.{never}
use Rattle.link_key.specs.Key.{found_key}
use Rattle.link_key.specs.declared.Key.{Key}
use Rattle.link_key.specs.set.KeyLaws.{KeyLaws}
use Rattle.link_key.specs.set.KeySet.{has, find_key}
use Rattle.node_key_sets.specs.Frames.{switched, effect, verified_in, receiving_key, has_switched}
use Rattle.node_key_sets.specs.Sets.{active_in}
use Rattle.node_key_sets.specs.declared.frames.Change.{Change}
use Rattle.node_key_sets.specs.declared.frames.Change.TheVariants as change
use Rattle.node_key_sets.specs.declared.frames.KeyAnswer.{KeyAnswer}
use Rattle.node_key_sets.specs.declared.sets.KeySets.{KeySets}
use Rattle.refusal.specs.declared.Refusal.{Refusal}

-- ---- copying
module _ (s : List ℕ) (long : length s ≡ 878) where
  pub copied-size : {t : List ℕ} → t ≡ take 29 s ++ (take 249 (drop 278 s) ++ drop 278 s) → length t ≡ 878
  copied-size e =
      ap (λ (u : List ℕ). length u) (e ∙ sym (append_assoc (take 29 s) (take 249 (drop 278 s)) (drop 278 s)))
      ∙ length-paste s 29 (drop 278 s) 249 (omega arith) (omega (arith, length-drop 278 s)) ∙ long

  -- then the pending set's own bytes become zeros
  pub cleared : {t z : List ℕ} → t ≡ take 29 s ++ (take 249 (drop 278 s) ++ drop 278 s) → z ≡ replicate (length (take 249 (drop 278 t))) 0
      → take 278 t ++ (z ++ drop 249 (drop 278 t)) ≡ take 29 s ++ (take 249 (drop 278 s) ++ (replicate 249 0 ++ drop 527 s))
  cleared {t} {z} e f =
      let front = take 29 s ++ take 249 (drop 278 s) in
      let size : length front ≡ 278 = length_paste_head s 29 (drop 278 s) 249 (omega arith) (omega (arith, length-drop 278 s)) in
      let whole : t ≡ front ++ drop 278 s = e ∙ sym (append_assoc (take 29 s) (take 249 (drop 278 s)) (drop 278 s)) in
      let first : take 278 t ≡ front = ap (take 278) whole ∙ take_at front (drop 278 s) 278 size in
      let rest : drop 278 t ≡ drop 278 s = ap (drop 278) whole ∙ drop_at front (drop 278 s) 278 size in
      let many : length (take 249 (drop 278 s)) ≡ 249 = length-take-le 249 (drop 278 s) (omega (arith, length-drop 278 s)) in
      let zeros : z ≡ replicate 249 0 =
      f ∙ ap (λ (y : List ℕ). replicate (length (take 249 y)) 0) rest ∙ ap (λ (n : ℕ). replicate n 0) many in
      rw (first, rest, zeros, drop-drop 249 278 s) (append_assoc (take 29 s) (take 249 (drop 278 s)) (replicate 249 0 ++ drop 527 s))

-- ---- the report
module _ (K : KeyLaws) (sets : KeySets) (type identifier : ℕ) where
  abbrev Told : Result Change Refusal → Type 0
  Told r = verified_in sets type identifier ≡ effect r (cond (has_switched r) (switched sets) sets)

  module _ {x : KeyAnswer} (e : x ≡ receiving_key sets type identifier) where
    pub report-refused : (k : Refusal) → x.verdict ≡ Err k → Told (Err k)
    unfolding verified_in
    report-refused k f = rw (← e, f)

    module _ (f : x.verdict ≡ Ok tt) {y : Found Key} (g : y ≡ found_key (find_key identifier (active_in sets))) where
      held-so : (o : Option Key) → find_key identifier (active_in sets) ≡ o → (b : Bool) → has identifier (active_in sets) ≡ b
          → is_some (found_key o) ≡ b
      held-so none h true i = never (has identifier (active_in sets)) i (K.find_none identifier (active_in sets) h)
      held-so none h false i = refl
      held-so (some k) h true i = refl
      held-so (some k) h false i =
          never true refl (sym (ap (λ (o : Option Key). is_some (found_key o)) h)
          ∙ ap (λ (o : Option Key). is_some (found_key o)) (K.none-find identifier (active_in sets) i))

      has-so : has identifier (active_in sets) ≡ is_some y
      has-so = sym (ap is_some g ∙ held-so (find_key identifier (active_in sets)) refl (has identifier (active_in sets)) refl)

      pub report-kept : is_some y ≡ true → Told (Ok change.Kept)
      unfolding verified_in
      report-kept h = rw (← e, f, has-so ∙ h)

      pub report-switched : is_some y ≡ false → Told (Ok change.Switched)
      unfolding verified_in
      report-switched h = rw (← e, f, has-so ∙ h)
