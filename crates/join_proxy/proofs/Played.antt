-- The day is computed; what is judged in it goes through the laws.
-- Assumes nothing.
use mathlib.Core.Path.{refl}
use native.Mathlib.Omega.{arith}
use lib.ListN.{replicate}
use Rattle.lemmas.specs.lists.Same.{same}
use Rattle.join_proxy.specs.Body.{body_of}
use Rattle.join_proxy.specs.Issuing.{issue_plan}
use Rattle.join_proxy.specs.Judging.{judge_body}
use Rattle.join_proxy.specs.Example.{ProxyExample, key, asks}
use Rattle.join_proxy.specs.Laws.{ProxyLaws}

pub day : ProxyLaws → ProxyExample
unfolding same body_of issue_plan judge_body
day laws =
    record {
      said = refl;
      sealed-first = refl;
      sealed-then = refl;
      of-64 = laws.issued-returns (key 1) (replicate 64 (asks 2 31)) 0 (omega arith) (omega arith) refl;
      of-65 = laws.issued-ages (key 1) (replicate 65 (asks 2 31)) 0 (omega arith) (omega arith) refl;
      of-65-next = laws.issued-returns (key 1) (replicate 65 (asks 2 31)) 1 (omega arith) (omega arith) refl;
      at-the-end = refl;
    }
