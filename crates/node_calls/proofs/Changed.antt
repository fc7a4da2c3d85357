-- A node that is the one in the image but for a part is put by that part alone.
use Prim.Native.Nat.{ℕ, ◌-◌}
use mathlib.Core.Bool.{true}
use mathlib.Core.List.{List, ◌++◌}
use mathlib.Core.Path.{◌≡◌, ap, sym, ◌∙◌}
use lib.ListN.{length, take, drop}
use Rattle.byte_io.specs.Write.{Wrote}
use Rattle.image.specs.Part.{AllBytes, RoundTrips, is_image}
use Rattle.node.specs.declared.node.Node.{Node}
use Rattle.node_image.specs.Attempt.{attempt_part}
use Rattle.node_image.specs.Change.{Attempted}
use Rattle.node_image.specs.ChangeLemmas.{attempt-over}
use Rattle.node_image.specs.Node.{node_image}

module _ (l : RoundTrips node_image) (s : List ℕ) (b : AllBytes s) (image : is_image node_image s ≡ true) where
  pub attempted-over : (m : Node) {e : List ℕ} → Attempted (node_image.get s) m
      → Wrote (attempt_part.put m.attempt) (take (length s - 3) (drop 3 s)) 26 e
      → take 3 s ++ (e ++ drop (length s - 3) (drop 3 s)) ≡ node_image.put m
  attempted-over m only w = attempt-over l s b image m.attempt w ∙ ap node_image.put (sym only)
