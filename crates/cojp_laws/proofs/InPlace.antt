-- Where bytes were written, the plan is to write them, and they stand in front.
use Rattle.std.specs.Prelude.{Ok, Err}
use Prim.Native.Nat.{ℕ}
use mathlib.Core.Path.{◌≡◌, ap, sym}
use mathlib.Core.Bool.{Bool, true, false, cond}
use mathlib.Core.List.{List, ◌++◌}
use native.Mathlib.Omega.{arith}
use lib.Dec.{leb}
use lib.ListN.{length, take, drop}
use lib.Seq.{take_at}
use Rattle.refusal.specs.declared.Refusal.TheVariants.{Room}
use Rattle.byte_io.specs.Write.{Plan, refuse, emit, answer, after}
use Rattle.cojp.specs.Writing.{configuration_plan}
use Rattle.cojp.specs.declared.configuration.Configuration.{Configuration}
use Rattle.cojp_laws.specs.RoundTrip.{ConfigurationRoundTrip, ConfigurationInPlace}

front : (b : Bool) (p d : List ℕ) (n : ℕ) → cond b (Ok (length p)) (Err Room) ≡ Ok n
    → p ≡ take n (cond b (p ++ drop (length p) d) d)
front true p d n e = let m : n ≡ length p = cc in sym (take_at p (drop (length p) d) n (sym m))
front false p d n e = absurd (let z : ◌≡◌ {A = ℕ} 0 1 = cc in omega arith)

in-front : (plan : Plan) (d : List ℕ) (n : ℕ) → answer plan d ≡ Ok n → plan ≡ emit (take n (after plan d))
in-front (refuse k) d n e = absurd (let z : ◌≡◌ {A = ℕ} 0 1 = cc in omega arith)
in-front (emit p) d n e = ap emit (front (leb (length p) (length d)) p d n e)

pub configuration-in-place : (c : Configuration) → ConfigurationRoundTrip c → ConfigurationInPlace c
configuration-in-place c back v d n e b = back v (take n (after (configuration_plan v c) d)) (in-front (configuration_plan v c) d n e) b
