-- A pledge that a body names has an image: what opens under a key of bytes is of bytes, and each field is made of its own.
use Prim.Native.Nat.{ℕ, zero, suc, ◌+◌, ◌<◌}
use mathlib.Core.List.{List, []}
use mathlib.Core.Bool.{cond}
use mathlib.Core.Path.{◌≡◌, refl}
use native.Mathlib.Omega.{arith}
use lib.Dec.{eqb, ltb}
use lib.ListN.{length, get_or, take, drop, replicate}
use Rattle.image.specs.Part.{AllBytes}
use Rattle.aes.specs.BoundsLemmas.{tabled}
use Rattle.aes_ccm.specs.Laws.{CcmLaws}
use Rattle.aes_ccm.specs.Plan.{Plan, refuse, emit}
use Rattle.lemmas.specs.lists.TableLemmas.{length-table}
use Rattle.join_proxy.specs.Body.{number_of, nonce_with}
use Rattle.join_proxy.specs.Judging.{nobody, is_fresh, pledge_in, judge_text, judge_plan, opening, judge_body}
use Rattle.join_proxy.specs.declared.judging.JudgeResult.{JudgeResult}
use Rattle.join_proxy.specs.Issued.{Issued}
use Rattle.join_proxy.specs.declared.proxy.Proxy.{Proxy}
use Rattle.state_image.specs.Proxy.{proxy_image, pledge_image}
use Rattle.pothatch_laws.proofs.Cases.{either}
use Rattle.pothatch_laws.proofs.Records.{dropped}

zeros : (n : ℕ) → AllBytes (replicate n 0)
zeros zero i = omega arith
zeros (suc n) zero = omega arith
zeros (suc n) (suc i) = zeros n i

nobody-fits : pledge_image.Fit nobody
nobody-fits = ((refl, zeros 8), (omega arith, (omega arith, (refl, zeros 8))))

pledge-fits : (t : List ℕ) → AllBytes t → pledge_image.Fit (pledge_in t)
unfolding pledge_in
pledge-fits t b =
    let rest : ℕ → ℕ = λ i. cond (ltb i (get_or t 10 0)) (get_or t (11 + i) 0) 0 in (
      (length-table 8 (λ i. get_or t i 0), tabled 8 (λ i. get_or t i 0) b),
      (
        omega (arith, b 8, b 9),
        (
          b 10,
          (
            length-table 8 rest,
            tabled 8 rest (λ i. either (λ (x : ℕ). x < 256) (ltb i (get_or t 10 0)) (λ _. b (11 + i)) (λ _. omega arith)),
          ),
        ),
      ),
    )

-- ---- by what the sealed part opens to
abbrev JudgedFits : JudgeResult → Type 0
JudgedFits j = pledge_image.Fit j.pledge

text-fits : (issued : Issued) (n : ℕ) (t : List ℕ) → AllBytes t → JudgedFits (judge_text issued n t)
unfolding judge_text
text-fits issued n t b =
    either JudgedFits (ltb 8 (get_or t 10 0)) (λ _. nobody-fits)
    (λ _. either JudgedFits (is_fresh issued n) (λ _. pledge-fits t b) (λ _. nobody-fits))

plan-fits : (issued : Issued) (n : ℕ) (plan : Plan) → ((t : List ℕ) → plan ≡ emit t → AllBytes t) → JudgedFits (judge_plan issued n plan)
plan-fits issued n (refuse k) h = nobody-fits
plan-fits issued n (emit t) h = text-fits issued n t (h t refl)

pub judged-fits : CcmLaws → (p : Proxy) (body : List ℕ) → proxy_image.Fit p → AllBytes body → pledge_image.Fit (judge_body p body).pledge
unfolding judge_body
judged-fits ccm p body f b =
    either JudgedFits (eqb (length body) 31)
    (λ _. plan-fits p.next (number_of (take 4 body)) (opening p body)
    (λ t e. ccm.opened-bytes p.key (nonce_with (take 4 body)) [] (drop 4 body) t 19 f.0.1 (dropped 4 body b) e))
    (λ _. nobody-fits)
