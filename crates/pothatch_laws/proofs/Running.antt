-- Where each contract says by equations what its call answers, every list of calls has its answers.
use mathlib.Core.List.{List, [], ◌∷◌}
use Rattle.pothatch_laws.specs.Runs.{Runs, none_made, next-made}

-- a call's answer and what it leaves
pub record Answer {T L : Type 0} (D : T → L → Type 0) : Type 0 where
  pub answer : T
  pub after : L
  pub did : D answer after

module _ {C L T : Type 0} (Did : C → L → T → L → Type 0) where
  pub record Ran (cs : List C) (x : L) : Type 0 where
    pub told : List T
    pub left : L
    pub runs : Runs Did cs x told left

  -- calls that C can make
  module _ (Can : C → Type 0) where
    abbrev pub AllCan : List C → Type 0
    AllCan [] = Unit {0}
    AllCan (c ∷ cs) = Can c × AllCan cs

    pub ran : ((c : C) (x : L) → Can c → Answer (Did c x)) → (cs : List C) (x : L) → AllCan cs → Ran cs x
    ran one [] x can = record { told = []; left = x; runs = none_made }
    ran one (c ∷ cs) x can =
        let a = one c x can.0 in
        let r = ran one cs a.after can.1 in
        record { told = a.answer ∷ r.told; left = r.left; runs = next-made a.did r.runs }
