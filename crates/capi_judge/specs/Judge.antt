-- Keys of a lent image, asked one after the other with one table of flags.
use Rattle.std.specs.Prelude.{Bool, true, ◌&&◌, ◌||◌, List, [], ◌∷◌, ℕ}
use Rattle.link_key.specs.Key.{has_no_additional_info}
use Rattle.link_key.specs.declared.Key.{Key}
use Rattle.link_key.specs.set.Seen.{joins, noted}

-- whether each joins those before it, and is plain where it must be
abbrev pub passes : Bool → List ℕ → List Key → Bool
passes allowed seen [] = true
passes allowed seen (k ∷ ks) = ((allowed || has_no_additional_info k) && (joins seen k && passes allowed (noted seen k) ks))

-- the flags after all of them
abbrev pub all_noted : List ℕ → List Key → List ℕ
all_noted seen [] = seen
all_noted seen (k ∷ ks) = all_noted (noted seen k) ks
