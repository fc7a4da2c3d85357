-- A start, by whether it may be made and by what became of its request.
use Rattle.std.specs.Prelude.{Result, Ok, Err}
use Prim.Native.Nat.{ℕ}
use mathlib.Core.Path.{◌≡◌, sym, ◌∙◌}
use mathlib.Core.List.{List}
use Rattle.refusal.specs.declared.Refusal.{Refusal}
use Rattle.refusal.specs.Verdict.{Verdict}
use Rattle.byte_io.specs.Write.{Did}
use Rattle.cojp.specs.Writing.{request_plan}
use Rattle.cojp.specs.declared.request.JoinRequest.{JoinRequest}
use Rattle.node.specs.Timing.{request_of, start_verdict, start_plan, started_from, started_by, unstarted, start, start_after, StartDid}
use Rattle.node.specs.declared.node.Node.{Node}

module _ (n : Node) (time timeout : ℕ) (d : List ℕ) (v : Verdict) (e : v ≡ start_verdict n time timeout) where
  pub start-refused : {k : Refusal} → v ≡ Err k → StartDid n time timeout d (unstarted k n) d
  unfolding start start_after start_plan
  start-refused r = let f = sym e ∙ r in record { says = rw f; holds = rw f }

  module _ (a : v ≡ Ok tt) (q : JoinRequest) (w : Result ℕ Refusal) (d' : List ℕ) (f : q ≡ request_of n)
      (did : Did (request_plan n.version q) d w d') where
    pub start-written : StartDid n time timeout d (started_by w n (started_from n time timeout)) d'
    unfolding start start_after start_plan
    start-written =
        let g = sym e ∙ a in
        let done : Did (request_plan n.version (request_of n)) d w d' = rw f at did in
        record { says = rw (g, ← done.says); holds = rw g done.holds }
