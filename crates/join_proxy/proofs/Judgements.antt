-- What judging answers at each of its returns, and for which bodies it forwards:
-- the definition's tests taken one by one, and what opens was sealed.
-- Assumes nothing.
use Rattle.std.specs.Prelude.{Result, Ok, Err}
use mathlib.Core.Path.{◌≡◌, refl, sym, ◌∙◌, ap, ap₂}
use mathlib.Core.Bool.{Bool, true, false, cond}
use mathlib.Core.List.{List, [], ◌∷◌, ◌++◌, append-nil}
use Prim.Native.Nat.{ℕ, ◌+◌, ◌-◌, ◌<◌, ◌≤◌}
use native.Mathlib.Omega.{arith}
use borrow.Author.Tests.{lt-ltb, le-ltb, ltb-true, ltb-false, eq-eqb, ne_eqb, eqb-true}
use lib.Dec.{ltb, eqb}
use lib.ListN.{length, get_or, take, drop, length-drop, drop_of_length-le, take-append-drop}
use lib.Seq.{take_all, drop_at, length-take-le}
use Rattle.lemmas.specs.logic.Tests.{both_true}
use Rattle.refusal.specs.RefusalLemmas.{accepted-not}
use Rattle.refusal.specs.declared.Refusal.{Refusal}
use Rattle.refusal.specs.declared.Refusal.TheVariants.{«Type», Range, Seal, Stale}
use Rattle.aes_ccm.specs.Ccm.{sealed}
use Rattle.aes_ccm.specs.Laws.{CcmLaws}
use Rattle.aes_ccm.specs.Plan.{Plan, refuse, emit, Did, unseal_plan}
use Rattle.join_proxy.specs.declared.judging.JudgeResult.{JudgeResult}
use Rattle.join_proxy.specs.declared.judging.Pledge.{Pledge}
use Rattle.join_proxy.specs.Issued.{Issued}
use Rattle.join_proxy.specs.declared.proxy.Proxy.{Proxy}
use Rattle.join_proxy.specs.Body.{four, number_of, nonce_with, pledge_text, body_of}
use Rattle.join_proxy.specs.Judging.{nobody, refused_with, forward_to, is_fresh, pledge_in, judge_text, judge_plan, opening, judge_body}
use Rattle.join_proxy.specs.Keys.{count_of}
use Rattle.join_proxy.proofs.Bodies.{number-back, length-text, length-body}

-- ---- the text
module _ (issued : Issued) (n : ℕ) (t : List ℕ) where
  pub text-range : 8 < get_or t 10 0 → judge_text issued n t ≡ refused_with Range
  unfolding judge_text
  text-range h = rw (lt-ltb 8 (get_or t 10 0) h)

  pub text-forwarded : get_or t 10 0 ≤ 8 → is_fresh issued n ≡ true → judge_text issued n t ≡ forward_to (pledge_in t)
  unfolding judge_text
  text-forwarded h e = rw (le-ltb 8 (get_or t 10 0) h, e)

  pub text-stale : get_or t 10 0 ≤ 8 → is_fresh issued n ≡ false → judge_text issued n t ≡ refused_with Stale
  unfolding judge_text
  text-stale h e = rw (le-ltb 8 (get_or t 10 0) h, e)

-- ---- the seal
opened-as : (plan : Plan) (d d' : List ℕ) (r : Result ℕ Refusal) (k : Refusal) → Did plan d r d' → r ≡ Err k → plan ≡ refuse k
opened-as (refuse j) d d' r k did e = ap refuse (let q : Err j ≡ Err k = sym did.says ∙ e in cc)
opened-as (emit t) d d' r k did e =
    absurd (let q : Ok (length t) ≡ Err k = sym did.says ∙ e in let z : ◌≡◌ {A = ℕ} 0 1 = cc in omega arith)

-- an accepted opening: the text, which fills the nineteen places
pub record Opened (plan : Plan) (d d' : List ℕ) : Type 0 where
  pub text : List ℕ
  pub so : plan ≡ emit text
  pub left : d' ≡ text ++ drop (length text) d

opened-to : (plan : Plan) (d d' : List ℕ) (r : Result ℕ Refusal) (n : ℕ) → Did plan d r d' → r ≡ Ok n → Opened plan d d'
opened-to (refuse j) d d' r n did e =
    absurd (let q : Err j ≡ Ok n = sym did.says ∙ e in let z : ◌≡◌ {A = ℕ} 0 1 = cc in omega arith)
opened-to (emit t) d d' r n did e = record { text = t; so = refl; left = did.holds }

front : (body : List ℕ) → 4 ≤ length body → get_or body 0 0 ∷ get_or body 1 0 ∷ get_or body 2 0 ∷ get_or body 3 0 ∷ [] ≡ take 4 body
front [] h = absurd (omega arith)
front (a ∷ []) h = absurd (omega arith)
front (a ∷ b ∷ []) h = absurd (omega arith)
front (a ∷ b ∷ c ∷ []) h = absurd (omega arith)
front (a ∷ b ∷ c ∷ d ∷ rest) h = refl

module _ (p : Proxy) (body : List ℕ) where
  pub not-31 : (length body ≡ 31 → ⊥) → judge_body p body ≡ refused_with «Type»
  unfolding judge_body
  not-31 h = rw (ne_eqb (length body) 31 h)

  by-plan : (plan : Plan) → length body ≡ 31 → opening p body ≡ plan
      → judge_body p body ≡ judge_plan p.next (number_of (take 4 body)) plan
  unfolding judge_body
  by-plan plan l e = rw (eq-eqb (length body) 31 l, e)

  -- the part after the number, as the code lends it, with the nonce that the code makes of the number
  module _ (l : length body ≡ 31) (nonce d d' : List ℕ) (r : Result ℕ Refusal)
      (en : nonce ≡ nonce_with (get_or body 0 0 ∷ get_or body 1 0 ∷ get_or body 2 0 ∷ get_or body 3 0 ∷ []))
      (did : Did (unseal_plan p.key nonce [] (take (length body - 4) (drop 4 body)) 19) d r d') where
    opening-did : Did (opening p body) d r d'
    opening-did =
        let rest : take (length body - 4) (drop 4 body) ≡ drop 4 body
        = take_all (length body - 4) (drop 4 body) (rw (length-drop 4 body) (omega arith)) in
        rw (rest, en, front body (omega arith)) at did

    pub sealed-wrong : (k : Refusal) → r ≡ Err k → judge_body p body ≡ refused_with Seal
    sealed-wrong k e = by-plan (refuse k) l (opened-as (opening p body) d d' r k opening-did e)

    pub sealed-right : CcmLaws → (n : ℕ) → r ≡ Ok n → length d ≡ 19
        → judge_body p body
        ≡ judge_text p.next (number_of (get_or body 0 0 ∷ get_or body 1 0 ∷ get_or body 2 0 ∷ get_or body 3 0 ∷ [])) d'
    sealed-right laws n e ld =
        let was = opened-to (opening p body) d d' r n opening-did e in
        let sent : drop 4 body ≡ sealed p.key (nonce_with (take 4 body)) [] was.text
        = laws.opened-was-sealed p.key (nonce_with (take 4 body)) [] (drop 4 body) was.text 19 was.so in
        let long : length (drop 4 body) ≡ length was.text + 8
        = ap length sent ∙ laws.length-sealed p.key (nonce_with (take 4 body)) [] was.text in
        let nineteen : length was.text ≡ 19 = omega (arith, length-drop 4 body) in
        let short : length d ≤ length was.text = omega arith in
        let all : d' ≡ was.text
        = was.left ∙ ap (λ (x : List ℕ). was.text ++ x) (drop_of_length-le d short) ∙ append-nil was.text in
        by-plan (emit was.text) l was.so
        ∙ ap₂ (λ (x y : List ℕ). judge_text p.next (number_of x) y) (sym (front body (omega arith))) (sym all)

-- ---- exactly when a body is forwarded
accepted : (k : Refusal) (w : Pledge) → refused_with k ≡ forward_to w → ⊥
accepted k w e =
    let q : Err k ≡ Ok tt = ap (λ (j : JudgeResult). j.verdict) e in
    let z : ◌≡◌ {A = ℕ} 0 1 = cc in
    omega arith

-- what a fresh number is
pub fresh-both : (issued : Issued) (n : ℕ) → is_fresh issued n ≡ true → (n < count_of issued) × (count_of issued - 1 - n < 64)
fresh-both issued n e =
    let two = both_true (ltb n (count_of issued)) (ltb (count_of issued - 1 - n) 64) e in
    (ltb-true n (count_of issued) two.0, ltb-true (count_of issued - 1 - n) 64 two.1)

-- a text that is forwarded
pub record Passed (issued : Issued) (n : ℕ) (t : List ℕ) (w : Pledge) : Type 0 where
  pub token-fits : get_or t 10 0 ≤ 8
  pub was-issued : n < count_of issued
  pub is-recent : count_of issued - 1 - n < 64
  pub names : pledge_in t ≡ w

text-passed : (issued : Issued) (n : ℕ) (t : List ℕ) (w : Pledge) → judge_text issued n t ≡ forward_to w → Passed issued n t w
unfolding judge_text
text-passed issued n t w e = by_length (ltb 8 (get_or t 10 0)) (is_fresh issued n) refl refl e
  where
    by_length : (long fresh : Bool) → ltb 8 (get_or t 10 0) ≡ long → is_fresh issued n ≡ fresh
        → cond long (refused_with Range) (cond fresh (forward_to (pledge_in t)) (refused_with Stale)) ≡ forward_to w → Passed issued n t w
    by_length true fresh p q e = absurd (accepted Range w e)
    by_length false false p q e = absurd (accepted Stale w e)
    by_length false true p q e =
        let two = fresh-both issued n q in
        record {
          token-fits = ltb-false 8 (get_or t 10 0) p;
          was-issued = two.0;
          is-recent = two.1;
          names = ap (λ (j : JudgeResult). j.pledge) e;
        }

pub fresh-true : (issued : Issued) (n : ℕ) → n < count_of issued → count_of issued - 1 - n < 64 → is_fresh issued n ≡ true
fresh-true issued n h k = rw (lt-ltb n (count_of issued) h, lt-ltb (count_of issued - 1 - n) 64 k)

cut : (body : List ℕ) → 4 ≤ length body → length (take 4 body) ≡ 4
cut body h = length-take-le 4 body h

-- what stands under a body's seal and in front of it
pub record Passing (p : Proxy) (body : List ℕ) (w : Pledge) : Type 0 where
  pub long : length body ≡ 31
  pub text : List ℕ
  pub seal-opens : body ≡ body_of p.key (take 4 body) text
  pub passed : Passed p.next (number_of (take 4 body)) text w

module _ (laws : CcmLaws) (p : Proxy) (body : List ℕ) where
  -- what opens was sealed
  sealed-as : (t : List ℕ) → opening p body ≡ emit t → body ≡ body_of p.key (take 4 body) t
  unfolding body_of
  sealed-as t o =
      sym (take-append-drop 4 body)
      ∙ ap (λ (x : List ℕ). take 4 body ++ x) (laws.opened-was-sealed p.key (nonce_with (take 4 body)) [] (drop 4 body) t 19 o)

  -- what was sealed opens
  pub opens : (t : List ℕ) → length body ≡ 31 → body ≡ body_of p.key (take 4 body) t → opening p body ≡ emit t
  unfolding body_of
  opens t l e =
      let nonce = nonce_with (take 4 body) in
      let rest : drop 4 body ≡ sealed p.key nonce [] t
      = ap (drop 4) e ∙ drop_at (take 4 body) (sealed p.key nonce [] t) 4 (cut body (omega arith)) in
      let long : length (drop 4 body) ≡ length t + 8 = ap length rest ∙ laws.length-sealed p.key nonce [] t in
      ap (λ (x : List ℕ). unseal_plan p.key nonce [] x 19) rest
      ∙ laws.sealed-opens p.key nonce [] t 19 (omega arith) (omega (arith, length-drop 4 body)) (omega (arith, length-drop 4 body))

  -- so a body whose seal opens is judged by its text, and any other of 31 bytes is SEAL
  pub by-text : (t : List ℕ) → length body ≡ 31 → body ≡ body_of p.key (take 4 body) t
      → judge_body p body ≡ judge_text p.next (number_of (take 4 body)) t
  by-text t l e = by-plan p body (emit t) l (opens t l e)

  pub never-opens : length body ≡ 31 → ((t : List ℕ) → body ≡ body_of p.key (take 4 body) t → ⊥) → judge_body p body ≡ refused_with Seal
  never-opens l h = by-opening (opening p body) refl
    where
      by-opening : (plan : Plan) → opening p body ≡ plan → judge_body p body ≡ refused_with Seal
      by-opening (refuse k) o = by-plan p body (refuse k) l o
      by-opening (emit t) o = absurd (h t (sealed-as t o))

  pub passing : (w : Pledge) → judge_body p body ≡ forward_to w → Passing p body w
  unfolding judge_body
  passing w e = by-long (eqb (length body) 31) refl e
    where
      by-opening : (plan : Plan) → length body ≡ 31 → opening p body ≡ plan
          → judge_plan p.next (number_of (take 4 body)) plan ≡ forward_to w → Passing p body w
      by-opening (refuse k) l o e = absurd (accepted Seal w e)
      by-opening (emit t) l o e =
          record { long = l; text = t; seal-opens = sealed-as t o; passed = text-passed p.next (number_of (take 4 body)) t w e }

      by-long : (b : Bool) → eqb (length body) 31 ≡ b
          → cond b (judge_plan p.next (number_of (take 4 body)) (opening p body)) (refused_with «Type») ≡ forward_to w → Passing p body w
      by-long true t e = by-opening (opening p body) (eqb-true (length body) 31 t) refl e
      by-long false t e = absurd (accepted «Type» w e)

  -- a refused body names nobody
  pub refused-body : (k : Refusal) → (judge_body p body).verdict ≡ Err k → (judge_body p body).pledge ≡ nobody
  unfolding judge_body judge_text
  refused-body k e = by-long (eqb (length body) 31) e
    where
      by-text-tests : (long fresh : Bool) (t : List ℕ)
          → (cond long (refused_with Range) (cond fresh (forward_to (pledge_in t)) (refused_with Stale))).verdict ≡ Err k
          → (cond long (refused_with Range) (cond fresh (forward_to (pledge_in t)) (refused_with Stale))).pledge ≡ nobody
      by-text-tests true fresh t e = refl
      by-text-tests false false t e = refl
      by-text-tests false true t e = accepted-not k e

      by-opening : (plan : Plan) → (judge_plan p.next (number_of (take 4 body)) plan).verdict ≡ Err k
          → (judge_plan p.next (number_of (take 4 body)) plan).pledge ≡ nobody
      by-opening (refuse j) e = refl
      by-opening (emit t) e = by-text-tests (ltb 8 (get_or t 10 0)) (is_fresh p.next (number_of (take 4 body))) t e

      by-long : (b : Bool)
          → (cond b (judge_plan p.next (number_of (take 4 body)) (opening p body)) (refused_with «Type»)).verdict ≡ Err k
          → (cond b (judge_plan p.next (number_of (take 4 body)) (opening p body)) (refused_with «Type»)).pledge ≡ nobody
      by-long true e = by-opening (opening p body) e
      by-long false e = refl

-- ---- a body that the proxy issued is judged by its number alone
pub own_body : CcmLaws → (p : Proxy) (n : ℕ) (interface : List ℕ) (port : ℕ) (token body : List ℕ) → length interface ≡ 8
    → body ≡ body_of p.key (four n) (pledge_text interface port token)
    → judge_body p body ≡ judge_text p.next n (pledge_text interface port token)
unfolding body_of
own_body laws p n interface port token body l e =
    let text = pledge_text interface port token in
    let head : take 4 body ≡ four n = ap (take 4) e in
    let long : length body ≡ 31 = ap length e ∙ length-body laws p.key n text (length-text interface port token l) in
    by-text laws p body text long (e ∙ ap (λ (x : List ℕ). body_of p.key x text) (sym head))
    ∙ ap (λ (m : ℕ). judge_text p.next m text) (ap number_of head ∙ number-back n)
