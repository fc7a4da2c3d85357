-- Judging a body by the present key alone: TYPE, SEAL, RANGE, STALE, or forwarded to the pledge and token that it names.
use Rattle.std.specs.Prelude.{Bool, cond, ◌&&◌, List, [], ◌∷◌, ℕ, ◌+◌, ◌-◌, ◌*◌, eqb, ltb, length, get_or, take, drop, Ok, Err}
use Rattle.lemmas.specs.lists.Table.{table}
use Rattle.refusal.specs.declared.Refusal.{Refusal}
use Rattle.refusal.specs.declared.Refusal.TheVariants.{«Type», Range, Seal, Stale}
use Rattle.aes_ccm.specs.Plan.{Plan, refuse, emit, unseal_plan}
use Rattle.join_proxy.specs.declared.judging.JudgeResult.{JudgeResult}
use Rattle.join_proxy.specs.declared.judging.Pledge.{Pledge}
use Rattle.join_proxy.specs.Issued.{Issued}
use Rattle.join_proxy.specs.declared.proxy.Proxy.{Proxy}
use Rattle.join_proxy.specs.Body.{number_of, nonce_with}
use Rattle.join_proxy.specs.Keys.{count_of}

abbrev pub nobody : Pledge
nobody =
    record {
      interface = 0 ∷ 0 ∷ 0 ∷ 0 ∷ 0 ∷ 0 ∷ 0 ∷ 0 ∷ [];
      port = 0;
      len = 0;
      token = 0 ∷ 0 ∷ 0 ∷ 0 ∷ 0 ∷ 0 ∷ 0 ∷ 0 ∷ [];
    }

abbrev pub refused_with : Refusal → JudgeResult
refused_with k = record { verdict = Err k; pledge = nobody }

abbrev pub forward_to : Pledge → JudgeResult
forward_to w = record { verdict = Ok tt; pledge = w }

-- the number was issued since the key was set, with fewer than 64 issued after it
abbrev pub is_fresh : Issued → ℕ → Bool
is_fresh issued n = ltb n (count_of issued) && ltb (count_of issued - 1 - n) 64

-- whom a text names; bytes after the token's length are not looked at
unfoldable pub pledge_in : List ℕ → Pledge
pledge_in t =
    record {
      interface = table 8 (λ i. get_or t i 0);
      port = get_or t 8 0 * 256 + get_or t 9 0;
      len = get_or t 10 0;
      token = table 8 (λ i. cond (ltb i (get_or t 10 0)) (get_or t (11 + i) 0) 0);
    }

-- the text that the seal held, with the body's number
unfoldable pub judge_text : Issued → ℕ → List ℕ → JudgeResult
judge_text issued n t =
    cond (ltb 8 (get_or t 10 0)) (refused_with Range) (cond (is_fresh issued n) (forward_to (pledge_in t)) (refused_with Stale))

abbrev pub judge_plan : Issued → ℕ → Plan → JudgeResult
judge_plan issued n (refuse k) = refused_with Seal
judge_plan issued n (emit t) = judge_text issued n t

-- what opening the sealed part says
abbrev pub opening : Proxy → List ℕ → Plan
opening p body = unseal_plan p.key (nonce_with (take 4 body)) [] (drop 4 body) 19

unfoldable pub judge_body : Proxy → List ℕ → JudgeResult
judge_body p body =
    cond (eqb (length body) 31) (judge_plan p.next (number_of (take 4 body)) (opening p body)) (refused_with «Type»)
