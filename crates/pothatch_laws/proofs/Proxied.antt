-- The law at these calls; what the proxy's own calls answer is computed, and no seal is.
use Prim.Native.Nat.{ℕ}
use mathlib.Core.List.{List}
use mathlib.Core.Path.{◌≡◌, refl, ap, ◌∙◌, subst}
use lib.ListN.{replicate}
use Rattle.lemmas.specs.lists.Same.{same}
use Rattle.byte_io.specs.BigEndian.{bytes_of}
use Rattle.join_proxy.specs.Body.{body_of}
use Rattle.join_proxy.specs.Example.{key}
use Rattle.join_proxy.specs.Issuing.{issue_plan}
use Rattle.join_proxy.specs.Judging.{judge_body}
use Rattle.pothatch_laws.specs.ProxyExample.{calls, firsts, answered, kept, ProxyExample}
use Rattle.pothatch_laws.specs.Proxy.{Did, no-proxy, tells, after, shown, ProxyRuns}
use Rattle.pothatch_laws.specs.Runs.{Runs, after_all, answers, As}
use Rattle.pothatch_laws.proofs.ByteLists.{bytes-by}
use Rattle.pothatch_laws.proofs.ProxyAnswers.{Can, one}
use Rattle.pothatch_laws.proofs.Running.{AllCan, ran}

can : AllCan Did Can calls
can = (bytes-by (replicate 15 1) refl, (tt, (bytes-by (key 1) refl, (tt, (tt, (tt, (tt, (bytes-by (key 1) refl, (tt, tt)))))))))

said : firsts (answers tells after calls no-proxy) ≡ answered
unfolding same body_of issue_plan judge_body
said = refl

left_so : shown (after_all after calls no-proxy) ≡ kept
unfolding same issue_plan bytes_of
left_so = refl

pub proxy-seen : ProxyRuns → ProxyExample
proxy-seen law =
    let before : List ℕ = replicate 26 0 in
    let r = ran Did Can one calls before can in
    let s : As tells after shown calls no-proxy r.told r.left =
    law.from-make (replicate 15 1) _ no-proxy before r.told r.left refl r.runs in
    record {
      told = r.told;
      runs = subst (Runs Did calls before r.told) (s.left ∙ left_so) r.runs;
      said = ap firsts s.answered ∙ said;
    }
