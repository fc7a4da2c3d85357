-- After any list of calls the bodies issued since the key was set have the numbers 0, 1,
-- 2 and so on under that key, and the proxy counts them:
-- each call keeps that.
-- Assumes nothing.
use Rattle.std.specs.Prelude.{None, Some}
use mathlib.Core.Path.{◌≡◌, refl, sym, ◌∙◌, ap, ap₂, subst}
use mathlib.Core.Bool.{Bool, true, false, cond}
use mathlib.Core.List.{List, [], ◌∷◌, ◌++◌}
use mathlib.Core.Logic.{⊎_elim}
use Prim.Native.Nat.{ℕ, ◌+◌, ◌<◌, ◌≤◌}
use native.Mathlib.Nat.{eq-or-lt_of_le}
use native.Mathlib.Omega.{arith}
use borrow.Author.Tests.{eqb-true, eqb-false}
use lib.Dec.{eqb}
use lib.ListN.{length, take, length-append, get_or-append}
use lib.Seq.{get_or_at}
use Rattle.lemmas.specs.lists.Same.{same}
use Rattle.lemmas.specs.lists.SameLemmas.{same-equal, same_refl}
use Rattle.aes_ccm.specs.Plan.{Plan, refuse, emit, answer, number_in}
use Rattle.join_proxy.specs.Issued.{Issued}
use Rattle.join_proxy.specs.declared.proxy.Proxy.{Proxy}
use Rattle.join_proxy.specs.Body.{four, number_of, pledge_text, body_of}
use Rattle.join_proxy.specs.History.{ProxyCall, setting, issuing, judging, Sent, History, sent_at, with_sent}
use Rattle.join_proxy.specs.History.{called, answered, run, after}
use Rattle.join_proxy.specs.Issuing.{issue_plan, after_issue, raised, raised_from}
use Rattle.join_proxy.specs.Keys.{count_of, fresh}
use Rattle.join_proxy.specs.Laws.{SetsInOrder}
use Rattle.join_proxy.proofs.Bodies.{number-back}
use Rattle.join_proxy.proofs.Plans.{emitted}

-- what the proxy keeps after n issues
pub data IssuedCount (issued : Issued) (n : ℕ) : Type 0 where
  going : issued ≡ Some n → n < 4294967296 → IssuedCount issued n
  spent : issued ≡ None → n ≡ 4294967296 → IssuedCount issued n

pub standing-count : (issued : Issued) (n : ℕ) → IssuedCount issued n → count_of issued ≡ n
standing-count issued n (going e h) = ap count_of e
standing-count issued n (spent e h) = ap count_of e ∙ sym h

raised-stands : (n : ℕ) → n < 4294967296 → IssuedCount (raised n) (n + 1)
raised-stands n h = by-test (eqb n 4294967295) refl
  where
    by-test : (b : Bool) → eqb n 4294967295 ≡ b → IssuedCount (cond b None (Some (n + 1))) (n + 1)
    by-test true e = let q : n ≡ 4294967295 = eqb-true n 4294967295 e in spent refl (omega arith)
    by-test false e = let q : n ≡ 4294967295 → ⊥ = eqb-false n 4294967295 e in going refl (omega arith)

-- an issue with its number
pub record Right (key : List ℕ) (s : Sent) (n : ℕ) : Type 0 where
  pub token-fits : length s.token ≤ 8
  pub so : s.body ≡ body_of key (four n) (pledge_text s.interface s.port s.token)

-- what the calls tell is what the proxy keeps
pub record Told (h : History) : Type 0 where
  pub key-is : h.proxy.key ≡ h.key
  pub stands : IssuedCount h.proxy.next (length h.sent)
  pub each : (i : ℕ) → i < length h.sent → Right h.key (sent_at h.sent i) i

-- ---- setting a key
-- the key in use leaves all as it was, another one begins anew
set_told : (h : History) (key : List ℕ) (b : Bool) → same h.proxy.key key ≡ b → Told h → Told (called (setting key) h)
set_told h key true e t = rw e (record { key-is = t.key-is; stands = t.stands; each = t.each })
set_told h key false e t = rw e (record { key-is = refl; stands = going refl (omega arith); each = λ i l. absurd (omega arith) })

module _ (h : History) (key : List ℕ) where
  in_use : same h.proxy.key key ≡ true → answered (setting key) h ≡ 13
  in_use e = rw e

  another : same h.proxy.key key ≡ false → called (setting key) h ≡ record { proxy = fresh key; key = key; sent = [] }
  another e = rw e

  differing : (b : Bool) → (h.proxy.key ≡ key → ⊥) → same h.proxy.key key ≡ b → same h.proxy.key key ≡ false
  differing true n e = absurd (n (same-equal h.proxy.key key e))
  differing false n e = e

-- ---- issuing
-- one more at the end
grown : (key : List ℕ) (sent : List Sent) (s : Sent) → ((i : ℕ) → i < length sent → Right key (sent_at sent i) i)
    → Right key s (length sent)
    → (i : ℕ) → i < length (sent ++ (s ∷ [])) → Right key (sent_at (sent ++ (s ∷ [])) i) i
grown key sent s each right i l =
    let m : i ≤ length sent = omega (arith, length-append sent (s ∷ [])) in
    ⊎_elim
    (λ (e : i ≡ length sent). subst (λ (x : Sent). Right key x i) (sym (get_or_at sent s [] _ i (sym e)))
    (subst (λ (n : ℕ). Right key s n) (sym e) right))
    (λ (k : i < length sent). subst (λ (x : Sent). Right key x i) (sym (get_or-append sent (s ∷ []) _ i k)) (each i k))
    (eq-or-lt_of_le m)

-- the number that was used is how many there were
number-used : (issued : Issued) (m n : ℕ) → IssuedCount issued m → issued ≡ Some n → (m ≡ n) × (m < 4294967296)
number-used issued m n (going e h) q = (ap count_of (sym e ∙ q), h)
number-used issued m n (spent e h) q = absurd (let r : None ≡ Some n = sym e ∙ q in let z : ◌≡◌ {A = ℕ} 0 1 = cc in omega arith)

issue-told : (h : History) (interface : List ℕ) (port : ℕ) (token : List ℕ) (room : ℕ) (plan : Plan)
    → issue_plan h.proxy interface port token room ≡ plan → Told h
    → Told (record { proxy = after_issue plan h.proxy; key = h.key; sent = with_sent plan interface port token h.sent })
issue-told h interface port token room (refuse k) q t = record { key-is = t.key-is; stands = t.stands; each = t.each }
issue-told h interface port token room (emit body) q t =
    let was = emitted h.proxy interface port token room body q in
    let m = length h.sent in
    let s : Sent = record { interface = interface; port = port; token = token; body = body } in
    let used = number-used h.proxy.next m was.number t.stands was.was in
    let now-issued : raised_from h.proxy.next ≡ raised m = ap raised_from was.was ∙ ap raised (sym used.0) in
    let right : Right h.key s m
    = record {
      token-fits = was.token-fits;
      so = was.so ∙ ap₂ (λ (k : List ℕ) (n : ℕ). body_of k (four n) (pledge_text interface port token)) t.key-is (sym used.0);
    } in
    record {
      key-is = t.key-is;
      stands =
          subst (λ (n : ℕ). IssuedCount (raised_from h.proxy.next) n) (sym (length-append h.sent (s ∷ [])))
          (subst (λ (x : Issued). IssuedCount x (m + 1)) (sym now-issued) (raised-stands m used.1));
      each = grown h.key h.sent s t.each right;
    }

call-told : (c : ProxyCall) (h : History) → Told h → Told (called c h)
call-told (setting key) h t = set_told h key (same h.proxy.key key) refl t
call-told (issuing interface port token room) h t =
    issue-told h interface port token room (issue_plan h.proxy interface port token room) refl t
call-told (judging body) h t = t

run-told : (cs : List ProxyCall) (h : History) → Told h → Told (run cs h)
run-told [] h t = t
run-told (c ∷ cs) h t = run-told cs (called c h) (call-told c h t)

pub told : (key : List ℕ) (calls : List ProxyCall) → Told (after key calls)
told key calls =
    run-told calls (record { proxy = fresh key; key = key; sent = [] })
    (record { key-is = refl; stands = going refl (omega arith); each = λ i l. absurd (omega arith) })

-- ---- numbers
pub number_at : (h : History) → Told h → (i : ℕ) → i < length h.sent → number_of (take 4 (sent_at h.sent i).body) ≡ i
unfolding body_of
number_at h t i l = ap (λ (x : List ℕ). number_of (take 4 x)) (t.each i l).so ∙ number-back i

pub no-number-twice : (key : List ℕ) (calls : List ProxyCall) (i j : ℕ) → (let sent = (after key calls).sent in
    i < length sent → j < length sent → number_of (take 4 (sent_at sent i).body) ≡ number_of (take 4 (sent_at sent j).body) → i ≡ j)
no-number-twice key calls i j hi hj e =
    let h = after key calls in
    let t = told key calls in
    sym (number_at h t i hi) ∙ e ∙ number_at h t j hj

-- ---- what setting a key answers
pub sets-in-order : (key : List ℕ) (calls : List ProxyCall) (new : List ℕ) → SetsInOrder (after key calls) new
sets-in-order key calls new =
    let h = after key calls in
    let own = (told key calls).key-is in
    record {
      in_use = λ e. in_use h new (ap (λ (x : List ℕ). same x new) (own ∙ e) ∙ same_refl new);
      another = λ n. another h new (differing h new (same h.proxy.key new) (λ e. n (sym own ∙ e)) refl);
    }

-- ---- a refused call
set-left : (h : History) (key : List ℕ) (b : Bool) → same h.proxy.key key ≡ b → (answered (setting key) h ≡ 0 → ⊥)
    → (called (setting key) h).proxy ≡ h.proxy
set-left h key true e r = rw e
set-left h key false e r = absurd (r (rw e))

issue-left : (plan : Plan) (p : Proxy) → (number_in (answer plan) ≡ 0 → ⊥) → after_issue plan p ≡ p
issue-left (refuse k) p r = refl
issue-left (emit body) p r = absurd (r refl)

pub refused-leaves : (c : ProxyCall) (h : History) → (answered c h ≡ 0 → ⊥) → (called c h).proxy ≡ h.proxy
refused-leaves (setting key) h r = set-left h key (same h.proxy.key key) refl r
refused-leaves (issuing interface port token room) h r = issue-left (issue_plan h.proxy interface port token room) h.proxy r
refused-leaves (judging body) h r = refl
