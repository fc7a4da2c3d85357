-- Lists of calls from C, each of which finds what the one before left; and the same calls on the value that the lent bytes stand for.
use Rattle.std.specs.Prelude.{List, [], ◌∷◌, ◌≡◌, ℕ}

-- what is lent to each call: an image, and memory beside it
pub record Lent : Type 0 where
  pub image : List ℕ
  pub memory : List ℕ

abbrev pub lent : List ℕ → List ℕ → Lent
lent s m = record { image = s; memory = m }

-- the calls were made one after the other, each as its contract says: what they answered, and what stands in the lent bytes (L) afterwards
pub data Runs {C L T : Type 0} (Did : C → L → T → L → Type 0) : List C → L → List T → L → Type 0 where
  none_made : {x : L} → Runs Did [] x [] x
  next-made : {c : C} {cs : List C} {x y z : L} {t : T} {ts : List T} → Did c x t y → Runs Did cs y ts z → Runs Did (c ∷ cs) x (t ∷ ts) z

-- ---- the calls on a value
abbrev pub after_all : {C M : Type 0} → (C → M → M) → List C → M → M
after_all after [] m = m
after_all after (c ∷ cs) m = after_all after cs (after c m)

module _ {C M T : Type 0} where
  abbrev pub answers : (C → M → T) → (C → M → M) → List C → M → List T
  answers tell after [] m = []
  answers tell after (c ∷ cs) m = tell c m ∷ answers tell after cs (after c m)

  -- the calls cs from C answered ts and left z: what they answer on the value m, and what stands for the value after them
  pub record As {L : Type 0} (tell : C → M → T) (after : C → M → M) (shown : M → L) (cs : List C) (m : M) (ts : List T) (z : L)
      : Type 0 where
    pub answered : ts ≡ answers tell after cs m
    pub left : z ≡ shown (after_all after cs m)
