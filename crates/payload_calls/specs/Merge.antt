-- The call from C that joins two configurations of document 01's form: each parameter from the second where it is taken there.
use Rattle.std.specs.Prelude.{ℕ, ◌&&◌, List}
use Rattle.cojp_merge.specs.Merge.{merge_answer}
use Rattle.cojp_merge.specs.declared.MergeResult.{MergeResult}
use Rattle.image.specs.Effects.{ResultSpec}
use Rattle.image.specs.Part.{is_image}
use Rattle.object_image.specs.Configuration.{configuration_image}

abbrev pub merged_in : List ℕ → List ℕ → MergeResult
merged_in a b = merge_answer (configuration_image.get a) (configuration_image.get b)

-- the images a and b were joined: the number r was answered, and the struct s holds s' afterwards
abbrev pub Merges : List ℕ → List ℕ → List ℕ → ℕ → List ℕ → Type 0
Merges a b s r s' =
    ResultSpec 570 (is_image configuration_image a && is_image configuration_image b) (merged_in a b).verdict
    (configuration_image.put (merged_in a b).configuration)
    s r s'
