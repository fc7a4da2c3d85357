-- One law to a kind of answer, over any call: no image is RANGE, and else the answer is what was performed; a refused call's object is the
-- empty one, so its value is 0.
use Rattle.std.specs.Prelude.{Ok, Err}
use Prim.Native.Nat.{ℕ}
use mathlib.Core.Path.{◌≡◌, refl, ap, ◌∙◌}
use mathlib.Core.Bool.{true, false}
use mathlib.Core.List.{List}
use borrow.Author.Tests.{eq-eqb, ne_eqb}
use lib.ListN.{length, replicate}
use Rattle.refusal.specs.Refusal.{number_of}
use Rattle.refusal.specs.Verdict.{verdict_number}
use Rattle.refusal.specs.declared.Refusal.{Refusal}
use Rattle.refusal.specs.Verdict.{Verdict}
use Rattle.image.specs.Effects.{on_accept}
use Rattle.image.proofs.Lent.{hands-unfit, hands_none, hands-told}
use Rattle.image.specs.Part.{is_image}
use Rattle.node.specs.declared.node.Node.{Node}
use Rattle.node_image.specs.Node.{node_image}
use Rattle.node_laws.specs.Calls.{NodeCall, starting, polling, delivering, asking, sending}
use Rattle.node_laws.specs.Calls.{receiving, reporting, empty_object, perform, Demand1}
use Rattle.node_calls.specs.Calls.{performed_in, Tells, Does, Starts, Gives, Changes}
use Rattle.node_calls.specs.Results.{value_of, struct_of}

-- the number of a refusal
pub numbered : (v : Verdict) (k : Refusal) {r : ℕ} → v ≡ Err k → r ≡ number_of k → r ≡ verdict_number v
numbered v k e f = rw e f

empty-value : (c : NodeCall) → value_of (empty_object c) ≡ 0
empty-value (starting time timeout d) = refl
empty-value (polling time) = refl
empty-value (delivering delivery time payload) = refl
empty-value (asking time) = refl
empty-value (sending type) = refl
empty-value (receiving type identifier) = refl
empty-value (reporting type identifier) = refl

module _ (demand1 : Demand1) where
  value-left : (c : NodeCall) (n : Node) (v : Verdict) → (perform c n).verdict ≡ v
      → value_of (perform c n).object ≡ on_accept v 0 (value_of (perform c n).object)
  value-left c n (Ok tt) e = refl
  value-left c n (Err k) e = ap value_of (demand1.calls c n k e).object ∙ empty-value c

  lent-left : (time timeout : ℕ) (d : List ℕ) (n : Node) (v : Verdict) → (perform (starting time timeout d) n).verdict ≡ v
      → (perform (starting time timeout d) n).lent ≡ on_accept v d (perform (starting time timeout d) n).lent
  lent-left time timeout d n (Ok tt) e = refl
  lent-left time timeout d n (Err k) e = (demand1.calls (starting time timeout d) n k e).lent

-- ---- a call whose result is a number
module _ (c : NodeCall) (s : List ℕ) where
  pub tells_none : is_image node_image s ≡ false → Tells c s 13 0
  tells_none e = record { number = rw e; value = rw e }

  pub does-none : is_image node_image s ≡ false → Does c s 13 s 0
  does-none e = record { tells = tells_none e; node = rw e }

  module _ (demand1 : Demand1) (image : is_image node_image s ≡ true) where
    pub tells : {r v : ℕ} → r ≡ verdict_number (performed_in c s).verdict → v ≡ value_of (performed_in c s).object → Tells c s r v
    tells e f =
        record { number = rw image e; value = rw image (f ∙ value-left demand1 c (node_image.get s) (performed_in c s).verdict refl) }

    pub does : {r v : ℕ} {s' : List ℕ} → r ≡ verdict_number (performed_in c s).verdict
        → s' ≡ on_accept (performed_in c s).verdict s (node_image.put (performed_in c s).node) → v ≡ value_of (performed_in c s).object
        → Does c s r s' v
    does e g f = record { tells = tells e f; node = rw image g }

module _ (time timeout : ℕ) (s d : List ℕ) where
  pub starts_none : is_image node_image s ≡ false → Starts time timeout s d 13 s d 0
  starts_none e = record { does = does-none (starting time timeout d) s e; dst = rw e }

  pub starts : {r v : ℕ} {s' d' : List ℕ} → Demand1 → is_image node_image s ≡ true → Does (starting time timeout d) s r s' v
      → d' ≡ (performed_in (starting time timeout d) s).lent → Starts time timeout s d r s' d' v
  starts demand1 image did e =
      record {
        does = did;
        dst = rw image (e ∙ lent-left demand1 time timeout d (node_image.get s) (performed_in (starting time timeout d) s).verdict refl);
      }

-- ---- a call that hands back a struct of n bytes
module _ (n : ℕ) (c : NodeCall) (s w : List ℕ) where
  pub changes-unfit : ¬ (length w ≡ n) → Changes n c s w 13 s w
  changes-unfit h =
      record {
        gives = hands-unfit n (is_image node_image s) (performed_in c s).verdict (struct_of (performed_in c s).object) w h;
        node = rw (ne_eqb (length w) n h);
      }

  pub changes-none : {w' : List ℕ} → length w ≡ n → is_image node_image s ≡ false → w' ≡ replicate (length w) 0 → Changes n c s w 13 s w'
  changes-none h e f =
      record {
        gives = hands_none n (is_image node_image s) (performed_in c s).verdict (struct_of (performed_in c s).object) w h e f;
        node = rw (eq-eqb (length w) n h, e);
      }

  pub gives : {r : ℕ} {w' : List ℕ} → length w ≡ n → is_image node_image s ≡ true → r ≡ verdict_number (performed_in c s).verdict
      → w' ≡ on_accept (performed_in c s).verdict (replicate n 0) (struct_of (performed_in c s).object) → Gives n c s w r w'
  gives h image e f = hands-told n (is_image node_image s) (performed_in c s).verdict (struct_of (performed_in c s).object) w h image e f

  pub changes : {r : ℕ} {s' w' : List ℕ} → length w ≡ n → is_image node_image s ≡ true → r ≡ verdict_number (performed_in c s).verdict
      → s' ≡ on_accept (performed_in c s).verdict s (node_image.put (performed_in c s).node)
      → w' ≡ on_accept (performed_in c s).verdict (replicate n 0) (struct_of (performed_in c s).object) → Changes n c s w r s' w'
  changes h image e g f = record { gives = gives h image e f; node = rw (eq-eqb (length w) n h, image) g }
