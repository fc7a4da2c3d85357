-- What `open_map` answers, case by case of its returns.
use Rattle.std.specs.Prelude.{Result, Ok, Err, Some, None}
use Prim.Native.Nat.{ℕ}
use mathlib.Core.Path.{◌≡◌, refl, sym, ◌∙◌}
use mathlib.Core.Bool.{Bool, cond}
use mathlib.Core.List.{List}
use native.Mathlib.Omega.{arith}
use borrow.Author.Tests.{eq-eqb, ne_eqb}
use lib.Dec.{eqb}
use lib.ListN.{length, drop}
use Rattle.refusal.specs.declared.Refusal.{Refusal}
use Rattle.refusal.specs.Verdict.{Verdict}
use Rattle.cbor.specs.Item.{Item}
use Rattle.cbor.specs.Decode.{Outcome, refused, got, heading, payload_by}
use Rattle.cbor.specs.Strict.{head_by}
use Rattle.cbor.specs.Answer.{head_answer, scan_answer, open_answer, map_head}
use Rattle.cbor.specs.declared.head.Head.{Head}
use Rattle.cbor.proofs.Answers.{head-refused, head-got, head-place}

scan-no : (k : Refusal) (o : Outcome Item) → Err k ≡ scan_answer o → o ≡ refused k
scan-no k (refused j) e = cc
scan-no k (got i t) e = cc

scan-yes : (o : Outcome Item) → Ok tt ≡ scan_answer o → (i : Item) × (t : List ℕ) × (o ≡ got i t)
scan-yes (refused k) e = absurd (let z : ◌≡◌ {A = ℕ} 0 1 = cc in omega arith)
scan-yes (got i t) e = (i, t, refl)

module _ (b : Bool) (s : List ℕ) (v : Verdict) (e : v ≡ scan_answer (payload_by (head_by b) s)) where
  pub open-refused : (k : Refusal) → v ≡ Err k → Err k ≡ open_answer (length s) (payload_by (head_by b) s) (heading s)
  open-refused k g = rw (scan-no k (payload_by (head_by b) s) (sym g ∙ e))

  module _ (g : v ≡ Ok tt) (r : Result Head Refusal) (f : r ≡ head_answer (length s) (heading (drop 0 s))) where
    pub open-unheaded : (k : Refusal) → r ≡ Err k → Err k ≡ open_answer (length s) (payload_by (head_by b) s) (heading s)
    open-unheaded k o =
        let (i, t, w) = scan-yes (payload_by (head_by b) s) (sym g ∙ e) in
        rw (w, head-refused s 0 r f k o)

    module _ (h : Head) (o : r ≡ Ok h) where
      opened : open_answer (length s) (payload_by (head_by b) s) (heading s)
          ≡ Ok (cond (eqb h.major 5) (Some (map_head h.argument h.next)) None)
      opened =
          let (i, t, w) = scan-yes (payload_by (head_by b) s) (sym g ∙ e) in
          rw (w, head-got s 0 r f h o, head-place s 0 r f h o)

      pub open-map : h.major ≡ 5 → Ok (Some (map_head h.argument h.next)) ≡ open_answer (length s) (payload_by (head_by b) s) (heading s)
      open-map m = sym (opened ∙ rw (eq-eqb h.major 5 m))

      pub open-other : ¬ (h.major ≡ 5) → Ok None ≡ open_answer (length s) (payload_by (head_by b) s) (heading s)
      open-other m = sym (opened ∙ rw (ne_eqb h.major 5 m))
