-- One board after whatever calls: its struct is what a run of a node's calls left, and the law of such runs, with one call more, says what
-- that call told and left.
use Prim.Native.Nat.{ℕ}
use mathlib.Core.Path.{◌≡◌, refl, ap, sym, ◌∙◌}
use mathlib.Core.Bool.{true}
use mathlib.Core.List.{List, [], ◌∷◌, ◌++◌, append-nil}
use native.Mathlib.Omega.{arith}
use borrow.Author.Tests.{eqb-true}
use lib.Dec.{eqb}
use lib.ListN.{length}
use Rattle.lemmas.specs.logic.Tests.{both_left, both_right}
use Rattle.image.specs.Part.{AllBytes, RoundTrips, is_image}
use Rattle.node.specs.declared.node.Node.{Node}
use Rattle.node_image.specs.Node.{node_image}
use Rattle.node_laws.specs.Calls.{NodeCall, perform}
use Rattle.node_call_laws.specs.Fits.{CallsFit}
use Rattle.pothatch_laws.specs.Node.{Call, calling, NodeOutput, Did, Called, Held, node, told_of, tells, after, shown, NodeRuns}
use Rattle.pothatch_laws.specs.Runs.{Runs, none_made, next-made, after_all, answers}
use Rattle.network_call_laws.proofs.Running.{runs_append}

-- the struct s holds the node n: calls led there from an image
pub record Holds (n : Node) (s : List ℕ) : Type 0 where
  first : List ℕ
  bytes : AllBytes first
  is : is_image node_image first ≡ true
  calls : List Call
  told : List NodeOutput
  runs : Runs Did calls first told s
  so : after_all after calls (node (node_image.get first)) ≡ node n
  pub fits : node_image.Fit n

-- ---- one call more
after_then : (c : Call) (cs : List Call) (h : Held) → after_all after (cs ++ (c ∷ [])) h ≡ after c (after_all after cs h)
after_then c [] h = refl
after_then c (d ∷ cs) h = after_then c cs (after d h)

-- the last of the answers
abbrev final : NodeOutput → List NodeOutput → NodeOutput
final d [] = d
final d (t ∷ ts) = final t ts

final-then : (d t : NodeOutput) (ts : List NodeOutput) → final d (ts ++ (t ∷ [])) ≡ t
final-then d t [] = refl
final-then d t (u ∷ ts) = final-then u t ts

final-answer : (d : NodeOutput) (c : Call) (cs : List Call) (h : Held)
    → final d (answers tells after (cs ++ (c ∷ [])) h) ≡ tells c (after_all after cs h)
final-answer d c [] h = refl
final-answer d c (e ∷ cs) h = final-answer (tells e h) c cs (after e h)

-- a call on the struct of the node n told t and left s'
pub record Makes (c : NodeCall) (n : Node) (t : NodeOutput) (s' : List ℕ) : Type 0 where
  pub told : t ≡ told_of c (perform c n)
  pub holds : Holds (perform c n).node s'

module _ (law : NodeRuns) (fit : CallsFit) where
  pub image : {n : Node} {s : List ℕ} → Holds n s → s ≡ node_image.put n
  image {s = s} h = (law.from-image h.calls h.first h.told s h.bytes h.is h.runs).left ∙ ap shown h.so

  pub makes : (c : NodeCall) (n : Node) (s : List ℕ) (t : NodeOutput) (s' : List ℕ) → Holds n s → Called c s t s' → Makes c n t s'
  makes c n s t s' h d =
      let r = runs_append Did h.runs (next-made d none_made) in
      let cs = h.calls in
      let m : Held = node (node_image.get h.first) in
      let a = law.from-image (cs ++ (calling c ∷ [])) h.first (h.told ++ (t ∷ [])) s' h.bytes h.is r in
      record {
        told =
            sym (final-then t t h.told)
            ∙ ap (final t) a.answered
            ∙ final-answer t (calling c) cs m
            ∙ ap (tells (calling c)) h.so;
        holds = record {
          first = h.first;
          bytes = h.bytes;
          is = h.is;
          calls = cs ++ (calling c ∷ []);
          told = h.told ++ (t ∷ []);
          runs = r;
          so = after_then (calling c) cs m ∙ ap (after (calling c)) h.so;
          fits = fit.keeps-fit c n d.callable h.fits;
        };
      }

-- ---- the struct of an image, and the node that is loaded from it again
module _ (lawful : RoundTrips node_image) where
  pub from-image : (s : List ℕ) → AllBytes s → is_image node_image s ≡ true → Holds (node_image.get s) s
  from-image s b i =
      let l : length s ≡ 878 = eqb-true (length s) 878 (both_left (eqb (length s) 878) (node_image.good s) i) in
      record {
        first = s;
        bytes = b;
        is = i;
        calls = [];
        told = [];
        runs = none_made;
        so = refl;
        fits = lawful.fits s b (omega (arith, l)) (both_right (eqb (length s) 878) (node_image.good s) i);
      }

  pub load : NodeRuns → CallsFit → (n : Node) (s : List ℕ) → Holds n s → node_image.get s ≡ n
  load law fit n s h =
      ap node_image.get (image law fit h ∙ sym (append-nil (node_image.put n))) ∙ lawful.loaded n [] h.fits
