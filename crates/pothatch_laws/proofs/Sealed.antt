-- The numbers that C's answers show are those of the bodies in the proxy's history, and no two of those are the same.
use Rattle.std.specs.Prelude.{Ok, Err, None, Some}
use Prim.Native.Nat.{ℕ, zero, suc, ◌<◌, ◌≤◌}
use mathlib.Core.Path.{◌≡◌, refl, ap, sym, ◌∙◌}
use mathlib.Core.Bool.{Bool, true, false, cond}
use mathlib.Core.List.{List, [], ◌∷◌, ◌++◌}
use native.Mathlib.Omega.{arith}
use borrow.Author.Tests.{ne_eqb}
use lib.Dec.{eqb, ltb}
use lib.ListN.{length, get_or, take, drop}
use lib.Seq.{take-append-le}
use Rattle.refusal.specs.Refusal as refusal
use Rattle.refusal.specs.Refusal.{Numbered}
use Rattle.refusal.specs.declared.Refusal.{Refusal}
use Rattle.refusal.specs.declared.Refusal.TheVariants.{Range, Room, Spent}
use Rattle.refusal.specs.Verdict.{Verdict}
use Rattle.refusal.specs.Verdict.{verdict_number}
use Rattle.aes_ccm.specs.Plan as plan
use Rattle.aes_ccm.specs.Plan.{Plan, refuse, emit, answer, number_in}
use Rattle.join_proxy.specs.Body.{four, number_of, body_of, pledge_text}
use Rattle.join_proxy.specs.History as history
use Rattle.join_proxy.specs.History.{Sent, History, sent_at, with_sent, called, answered, settled}
use Rattle.join_proxy.specs.Issuing.{issue_plan, numbered}
use Rattle.join_proxy.specs.Keys.{set_key}
use Rattle.join_proxy.specs.Laws.{ProxyLaws}
use Rattle.join_proxy.specs.Issued.{Issued}
use Rattle.join_proxy.specs.declared.proxy.Proxy.{Proxy}
use Rattle.pothatch_laws.specs.Proxy.{OwnCall, setting, issuing, judging, ProxyOutput, proxy_output, proxy, fit, call_of}
use Rattle.pothatch_laws.specs.Proxy.{struct_of, lent_after, ranged, tells, after, calls_of, all_own, sealed_by, sealed_since}
use Rattle.pothatch_laws.specs.Runs.{answers}

-- ---- the numbers of the bodies that were sent
abbrev in_front : Sent → ℕ
in_front s = number_of (take 4 s.body)

abbrev numbers_of : List Sent → List ℕ
numbers_of [] = []
numbers_of (s ∷ ss) = in_front s ∷ numbers_of ss

numbers-long : (ss : List Sent) → length (numbers_of ss) ≡ length ss
numbers-long [] = refl
numbers-long (s ∷ ss) = ap suc (numbers-long ss)

numbers-at : (ss : List Sent) (i : ℕ) → get_or (numbers_of ss) i 0 ≡ in_front (sent_at ss i)
numbers-at [] i = refl
numbers-at (s ∷ ss) zero = refl
numbers-at (s ∷ ss) (suc i) = numbers-at ss i

one_more : (ss : List Sent) (s : Sent) → numbers_of (ss ++ (s ∷ [])) ≡ numbers_of ss ++ (in_front s ∷ [])
one_more [] s = refl
one_more (x ∷ ss) s = ap (λ (ns : List ℕ). in_front x ∷ ns) (one_more ss s)

-- ---- a body has its number in front
unlike : {A : Type 0} (k : Refusal) (p : List ℕ) → refuse k ≡ emit p → A
unlike k p e = absurd (let z : ◌≡◌ {A = ℕ} 0 1 = cc in omega arith)

body-long : (key : List ℕ) (n : ℕ) (text p : List ℕ) → emit (body_of key (four n) text) ≡ emit p → 4 ≤ length p
unfolding body_of
body-long key n text p e = let q : length (body_of key (four n) text) ≡ length p = cc in omega (arith, q)

numbered-long : (key : List ℕ) (i : Issued) (text : List ℕ) (room : ℕ) (p : List ℕ) → numbered key i text room ≡ emit p → 4 ≤ length p
numbered-long key (Some n) text room p e = by-test (ltb room 31) e
  where
    by-test : (b : Bool) → cond b (refuse Room) (emit (body_of key (four n) text)) ≡ emit p → 4 ≤ length p
    by-test true h = unlike Room p h
    by-test false h = body-long key n text p h
numbered-long key None text room p e = unlike Spent p e

plan-long : (y : Proxy) (interface : List ℕ) (port : ℕ) (token : List ℕ) (room : ℕ) (p : List ℕ)
    → issue_plan y interface port token room ≡ emit p → 4 ≤ length p
unfolding issue_plan
plan-long y interface port token room p e = by-test (ltb 8 (length token)) e
  where
    by-test : (b : Bool)
        → cond b (refuse Range) (numbered y.key y.next (pledge_text interface port token) room) ≡ emit p → 4 ≤ length p
    by-test true h = unlike Range p h
    by-test false h = numbered-long y.key y.next (pledge_text interface port token) room p h

-- ---- one call: what its answer adds is what it adds to the history
module _ (numbers : Numbered) where
  refused-number : (k : Refusal) → eqb (refusal.number_of k) 0 ≡ false
  refused-number k = ne_eqb (refusal.number_of k) 0 (λ z. omega (arith, numbers.least k))

  set-sealed : (v : Verdict) (y : Proxy) (key : List ℕ) (h : History)
      → cond (eqb (verdict_number v) 0) [] (numbers_of h.sent) ≡ numbers_of (settled v y key h).sent
  set-sealed (Ok tt) y key h = refl
  set-sealed (Err k) y key h = rw (refused-number k)

  issue-sealed : (q : Plan) (interface : List ℕ) (port : ℕ) (token d : List ℕ) (ss : List Sent) → ((p : List ℕ) → q ≡ emit p → 4 ≤ length p)
      → cond (eqb (number_in (answer q)) 0) (numbers_of ss ++ (number_of (take 4 (plan.after q d)) ∷ [])) (numbers_of ss)
      ≡ numbers_of (with_sent q interface port token ss)
  issue-sealed (refuse k) interface port token d ss l = rw (refused-number k)
  issue-sealed (emit p) interface port token d ss l =
      ap (λ (b : List ℕ). numbers_of ss ++ (number_of b ∷ [])) (take-append-le 4 p (drop (length p) d) (l p refl)) ∙ sym (one_more ss _)

  own-sealed : (c : OwnCall) (h : History) (b : Bool)
      → sealed_by c (cond b (proxy_output (answered (call_of c) h) (struct_of c h) (lent_after c h)) (ranged c)) (numbers_of h.sent)
      ≡ numbers_of (cond b (called (call_of c) h) h).sent
  own-sealed (setting key) h true = set-sealed (set_key h.proxy key).verdict (set_key h.proxy key).proxy key h
  own-sealed (setting key) h false = refl
  own-sealed (issuing interface port token d) h true =
      issue-sealed (issue_plan h.proxy interface port token (length d)) interface port token d h.sent
      (λ p e. plan-long h.proxy interface port token (length d) p e)
  own-sealed (issuing interface port token d) h false = refl
  own-sealed (judging body) h true = refl
  own-sealed (judging body) h false = refl

  -- ---- all of them
  run-if : (c : OwnCall) (cs : List OwnCall) (h : History) (b : Bool)
      → history.run (calls_of cs) (cond b (called (call_of c) h) h) ≡ history.run (cond b (call_of c ∷ calls_of cs) (calls_of cs)) h
  run-if c cs h true = refl
  run-if c cs h false = refl

  all-sealed : (cs : List OwnCall) (h : History)
      → sealed_since cs (answers tells after (all_own cs) (proxy h)) (numbers_of h.sent) ≡ numbers_of (history.run (calls_of cs) h).sent
  all-sealed [] h = refl
  all-sealed (c ∷ cs) h =
      let k : History = cond (fit c) (called (call_of c) h) h in
      ap (sealed_since cs (answers tells after (all_own cs) (proxy k))) (own-sealed c h (fit c))
      ∙ all-sealed cs k
      ∙ ap (λ (y : History). numbers_of y.sent) (run-if c cs h (fit c))

  differing : (ss : List Sent) → ((i j : ℕ) → i < length ss → j < length ss → in_front (sent_at ss i) ≡ in_front (sent_at ss j) → i ≡ j)
      → (ns : List ℕ) → ns ≡ numbers_of ss → (i j : ℕ) → i < length ns → j < length ns → get_or ns i 0 ≡ get_or ns j 0 → i ≡ j
  differing ss apart ns e i j a b h =
      let l : length ns ≡ length ss = ap length e ∙ numbers-long ss in
      apart i j (omega arith) (omega arith)
      (sym (ap (λ (xs : List ℕ). get_or xs i 0) e ∙ numbers-at ss i) ∙ h ∙ ap (λ (xs : List ℕ). get_or xs j 0) e ∙ numbers-at ss j)

  pub no-twice : ProxyLaws → (key : List ℕ) (cs : List OwnCall) (ts : List ProxyOutput)
      → ts ≡ answers tells after (all_own cs) (proxy (history.after key [])) → (i j : ℕ) → (let ns = sealed_since cs ts [] in
      i < length ns → j < length ns → get_or ns i 0 ≡ get_or ns j 0 → i ≡ j)
  no-twice laws key cs ts e =
      differing (history.after key (calls_of cs)).sent (laws.no-number-twice key (calls_of cs)) (sealed_since cs ts [])
      (ap (λ (us : List ProxyOutput). sealed_since cs us []) e ∙ all-sealed cs (history.after key []))
