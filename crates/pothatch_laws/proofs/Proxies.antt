-- One call from C does to the image what the proxy's own call does to the proxy: it is loaded as it was stored, and its count of issued
-- numbers has an image again after every call. Zeros are no image, so every call but a make is RANGE on them.
use Rattle.std.specs.Prelude.{Ok, Err, None, Some}
use Prim.Native.Nat.{ℕ, ◌+◌, ◌<◌}
use mathlib.Core.Path.{◌≡◌, refl, ap, ap₂, sym, ◌∙◌, subst}
use mathlib.Core.Bool.{Bool, true, false, cond, ◌&&◌, and-false}
use mathlib.Core.List.{List, [], ◌∷◌}
use native.Mathlib.Omega.{arith}
use borrow.Author.Tests.{eq-eqb, eqb-true, eqb-false}
use lib.Dec.{eqb}
use lib.ListN.{length, replicate}
use Rattle.lemmas.specs.logic.Tests.{both}
use Rattle.refusal.specs.Refusal.{Numbered}
use Rattle.refusal.specs.Verdict.{verdict_number}
use Rattle.refusal.specs.declared.Refusal.TheVariants.{Range}
use Rattle.refusal.specs.Verdict.{Verdict}
use Rattle.image.specs.Effects.{on_accept, checked_first, ResultSpec}
use Rattle.image.specs.Part.{AllBytes, RoundTrips, is_image}
use Rattle.aes_ccm.specs.Plan as plan
use Rattle.aes_ccm.specs.Plan.{Plan, refuse, emit, answer, number_in}
use Rattle.lemmas.specs.lists.Same.{same}
use Rattle.cipher_calls.specs.Cipher.{plan_verdict, range_first}
use Rattle.join_proxy.specs.History as history
use Rattle.join_proxy.specs.History.{History, called, answered, settled}
use Rattle.join_proxy.specs.Issuing.{raised, raised_from, issue_plan, after_issue}
use Rattle.join_proxy.specs.Judging.{judge_body}
use Rattle.join_proxy.specs.Keys.{fresh, set_key}
use Rattle.join_proxy.specs.Laws.{ProxyLaws}
use Rattle.join_proxy.specs.Issued.{Issued}
use Rattle.join_proxy.specs.declared.proxy.SetKeyResult.{SetKeyResult}
use Rattle.join_proxy.specs.declared.proxy.Proxy.{Proxy}
use Rattle.state_image.specs.Proxy as state
use Rattle.state_image.specs.Proxy.{proxy_image, pledge_image}
use Rattle.proxy_calls.specs.Proxy.{key_verdict, issue_fits, issue_of, Makes, JudgesIn}
use Rattle.pothatch_laws.specs.Proxy.{OwnCall, setting, issuing, judging, Call, making, calling, ProxyOutput, proxy_output}
use Rattle.pothatch_laws.specs.Proxy.{ProxyMade, KeySet, BodyIssued, BodyJudged, OwnDid, Did, Held, no-proxy, proxy, is_key, fit}
use Rattle.pothatch_laws.specs.Proxy.{call_of, struct_of, lent_after, ranged, tells, after, shown, calls_of, all_own, ProxyRuns}
use Rattle.pothatch_laws.specs.Runs.{Runs, after_all, answers, As}
use Rattle.pothatch_laws.proofs.Following.{Step, runs, runs-from}
use Rattle.pothatch_laws.proofs.Handing.{right-number, right-result, wrong-number, wrong_result}
use Rattle.pothatch_laws.proofs.Images.{put-long, put_is, put-got, got-fits, got-put}
use Rattle.pothatch_laws.proofs.Sealed.{no-twice}

-- ---- the struct s stands for a proxy, or for none
pub data Stands : Held → List ℕ → Type 0 where
  stored : {h : History} {s : List ℕ} → proxy_image.Fit h.proxy → s ≡ proxy_image.put h.proxy → Stands (proxy h) s
  zeros : {s : List ℕ} → s ≡ replicate 26 0 → Stands no-proxy s

seen : (h : Held) (s : List ℕ) → Stands h s → s ≡ shown h
seen h s (stored f e) = e
seen h s (zeros e) = e

cons_tail : {t u : ProxyOutput} {ts us : List ProxyOutput} → t ∷ ts ≡ u ∷ us → ts ≡ us
cons_tail e = cc

told-as : (t : ProxyOutput) {n : ℕ} {w d : List ℕ} → t.number ≡ n → t.struct ≡ w → t.lent ≡ d → t ≡ proxy_output n w d
told-as t {n} a e f = ap₂ (λ (x : ℕ) (y : List ℕ). proxy_output x y t.lent) a e ∙ ap (proxy_output n _) f

-- ---- every call leaves a proxy that has an image
fresh-fits : (key : List ℕ) → length key ≡ 16 → AllBytes key → proxy_image.Fit (fresh key)
fresh-fits key l b = ((l, b), omega arith)

-- what setting a key answers, by whether it is the key in use
abbrev keyed : Bool → Proxy → List ℕ → SetKeyResult
keyed in_use p key = cond in_use (record { verdict = Err Range; proxy = p }) (record { verdict = Ok tt; proxy = fresh key })

keyed-fits : (b : Bool) (p : Proxy) (key : List ℕ) → length key ≡ 16 → AllBytes key → proxy_image.Fit p
    → proxy_image.Fit (keyed b p key).proxy
keyed-fits true p key l b f = f
keyed-fits false p key l b f = fresh-fits key l b

keyed-left : (b : Bool) (p : Proxy) (key s : List ℕ) → s ≡ proxy_image.put p
    → on_accept (keyed b p key).verdict s (proxy_image.put (keyed b p key).proxy) ≡ proxy_image.put (keyed b p key).proxy
keyed-left true p key s e = e
keyed-left false p key s e = refl

settled-proxy : (v : Verdict) (p : Proxy) (key : List ℕ) (h : History) → (settled v p key h).proxy ≡ p
settled-proxy (Ok tt) p key h = refl
settled-proxy (Err k) p key h = refl

raised-held : (n : ℕ) → n < 4294967296 → state.Held (raised n)
raised-held n h = by-test (eqb n 4294967295) refl
  where
    by-test : (b : Bool) → eqb n 4294967295 ≡ b → state.Held (cond b None (Some (n + 1)))
    by-test true e = refl
    by-test false e = let q : n ≡ 4294967295 → ⊥ = eqb-false n 4294967295 e in omega arith

raised-from-held : (i : Issued) → state.Held i → state.Held (raised_from i)
raised-from-held (Some n) h = raised-held n h
raised-from-held None h = h

issue-fits : (p : Proxy) (q : Plan) → proxy_image.Fit p → proxy_image.Fit (after_issue q p)
issue-fits p (refuse k) f = f
issue-fits p (emit b) f = (f.0, raised-from-held p.next f.1)

issue-left : (q : Plan) (p : Proxy) (s : List ℕ) → s ≡ proxy_image.put p
    → on_accept (plan_verdict q) s (proxy_image.put (after_issue q p)) ≡ proxy_image.put (after_issue q p)
issue-left (refuse k) p s e = e
issue-left (emit b) p s e = refl

-- ---- what a call answers and leaves, by the verdict or plan that it comes to; a judging and a make hand back a struct
module _ {key s : List ℕ} {t : ProxyOutput} {s' : List ℕ} (d : KeySet key s t s') {v : Verdict} (so : key_verdict s key ≡ v) where
  set_told : t ≡ proxy_output (verdict_number v) [] key
  set_told = told-as t (d.sets.number ∙ ap verdict_number so) d.struct d.lent

  set-left : s' ≡ on_accept v s (proxy_image.put (set_key (proxy_image.get s) key).proxy)
  set-left = d.sets.proxy ∙ ap (λ (u : Verdict). on_accept u s (proxy_image.put (set_key (proxy_image.get s) key).proxy)) so

module _ {interface : List ℕ} {port : ℕ} {token d s : List ℕ} {t : ProxyOutput} {s' : List ℕ} (w : BodyIssued interface port token d s t s')
    {q : Plan} (so : issue_of s interface port token (length d) ≡ q) where
  issue-told : t ≡ proxy_output (number_in (answer q)) [] (plan.after q d)
  issue-told =
      told-as t (w.issues.number ∙ ap (λ (r : Plan). number_in (answer r)) so) w.struct
      (w.issues.dst ∙ ap (λ (r : Plan). plan.after r d) so)

  issue-kept : s' ≡ on_accept (plan_verdict q) s (proxy_image.put (after_issue q (proxy_image.get s)))
  issue-kept = w.issues.proxy ∙ ap (λ (r : Plan). on_accept (plan_verdict r) s (proxy_image.put (after_issue r (proxy_image.get s)))) so

judge-hands : {s body w : List ℕ} {r : ℕ} {w' : List ℕ} → JudgesIn s body w r w'
    → (let j = judge_body (proxy_image.get s) body in
    ResultSpec 21 (is_image proxy_image s) j.verdict (pledge_image.put j.pledge) w r w')
judge-hands d = record { number = d.number; result = d.pledge }

make-hands : {key s : List ℕ} {r : ℕ} {s' : List ℕ} → Makes key s r s'
    → ResultSpec 26 (is_key key) (Ok tt) (proxy_image.put (fresh key)) s r s'
make-hands d = record { number = d.number; result = d.proxy }

-- ---- where the call has its lengths, and where not
module _ (c : OwnCall) (h : History) {t : ProxyOutput} {s' : List ℕ} where
  step-fit : fit c ≡ true → t ≡ proxy_output (answered (call_of c) h) (struct_of c h) (lent_after c h) → Stands (proxy (called (call_of c) h)) s'
      → Step tells after Stands (calling c) (proxy h) t s'
  step-fit g e a = record { same = rw g e; stands = rw g a }

  step-unfit : fit c ≡ false → t ≡ ranged c → Stands (proxy h) s' → Step tells after Stands (calling c) (proxy h) t s'
  step-unfit g e a = record { same = rw g e; stands = rw g a }

-- ---- a call that finds the image of a proxy
module _ (lawful : RoundTrips proxy_image) (h : History) (s : List ℕ) (f : proxy_image.Fit h.proxy)
    (e : s ≡ proxy_image.put h.proxy) where
  is : is_image proxy_image s ≡ true
  is = ap (is_image proxy_image) e ∙ put_is proxy_image lawful h.proxy f

  got : proxy_image.get s ≡ h.proxy
  got = ap proxy_image.get e ∙ put-got proxy_image lawful h.proxy f

  stays : {s' : List ℕ} → s' ≡ s → Stands (proxy h) s'
  stays i = stored f (i ∙ e)

  module _ (key : List ℕ) (t : ProxyOutput) (s' : List ℕ) (d : KeySet key s t s') where
    set-step : (b : Bool) → is_key key ≡ b → Step tells after Stands (calling (setting key)) (proxy h) t s'
    set-step true g =
        let p = h.proxy in
        let so : key_verdict s key ≡ (set_key p key).verdict =
        ap (λ (b : Bool). checked_first b (set_key (proxy_image.get s) key).verdict) (both (is_key key) (is_image proxy_image s) g is)
        ∙ ap (λ (q : Proxy). (set_key q key).verdict) got in
        let image : s' ≡ proxy_image.put (set_key p key).proxy =
        set-left d so
        ∙ ap (λ (q : Proxy). on_accept (set_key p key).verdict s (proxy_image.put (set_key q key).proxy)) got
        ∙ keyed-left (same p.key key) p key s e in
        let goes : (set_key p key).proxy ≡ (called (history.setting key) h).proxy =
        sym (settled-proxy (set_key p key).verdict (set_key p key).proxy key h) in
        step-fit (setting key) h g (set_told d so)
        (stored
        (subst proxy_image.Fit goes (keyed-fits (same p.key key) p key (eqb-true (length key) 16 g) d.bytes f))
        (image ∙ ap proxy_image.put goes))
    set-step false g =
        let so : key_verdict s key ≡ Err Range =
        ap (λ (b : Bool). checked_first (b && is_image proxy_image s) (set_key (proxy_image.get s) key).verdict) g in
        step-unfit (setting key) h g (set_told d so) (stays (set-left d so))

  module _ (interface : List ℕ) (port : ℕ) (token d : List ℕ) (t : ProxyOutput) (s' : List ℕ)
      (w : BodyIssued interface port token d s t s') where
    issue-step : (b : Bool) → issue_fits interface port ≡ b
        → Step tells after Stands (calling (issuing interface port token d)) (proxy h) t s'
    issue-step true g =
        let p = h.proxy in
        let q = issue_plan p interface port token (length d) in
        let so : issue_of s interface port token (length d) ≡ q =
        ap (λ (b : Bool). range_first b (issue_plan (proxy_image.get s) interface port token (length d)))
        (both (issue_fits interface port) (is_image proxy_image s) g is)
        ∙ ap (λ (r : Proxy). issue_plan r interface port token (length d)) got in
        step-fit (issuing interface port token d) h g (issue-told w so)
        (stored (issue-fits p q f)
        (issue-kept w so ∙ ap (λ (y : Proxy). on_accept (plan_verdict q) s (proxy_image.put (after_issue q y))) got ∙ issue-left q p s e))
    issue-step false g =
        let so : issue_of s interface port token (length d) ≡ refuse Range =
        ap (λ (b : Bool). range_first (b && is_image proxy_image s) (issue_plan (proxy_image.get s) interface port token (length d))) g in
        step-unfit (issuing interface port token d) h g (issue-told w so) (stays (issue-kept w so))

  judge-step : (body : List ℕ) (t : ProxyOutput) (s' : List ℕ) → BodyJudged body s t s'
      → Step tells after Stands (calling (judging body)) (proxy h) t s'
  judge-step body t s' d =
      let hands = judge-hands d.judges in
      step-fit (judging body) h refl
      (told-as t (right-number hands d.fits is ∙ ap (λ (p : Proxy). verdict_number (judge_body p body).verdict) got)
      (right-result hands d.fits is
      ∙ ap (λ (p : Proxy). on_accept (judge_body p body).verdict (replicate 21 0) (pledge_image.put (judge_body p body).pledge)) got)
      d.lent)
      (stays d.image)

  own-step : (c : OwnCall) (t : ProxyOutput) (s' : List ℕ) → OwnDid c s t s' → Step tells after Stands (calling c) (proxy h) t s'
  own-step (setting key) t s' d = set-step key t s' d (is_key key) refl
  own-step (issuing interface port token d) t s' w = issue-step interface port token d t s' w (issue_fits interface port) refl
  own-step (judging body) t s' d = judge-step body t s' d

-- ---- a call that finds none
module _ (s : List ℕ) (e : s ≡ replicate 26 0) where
  none : is_image proxy_image s ≡ false
  none = ap (is_image proxy_image) e

  neither : (a : Bool) → (a && is_image proxy_image s) ≡ false
  neither a = rw none (and-false a)

  none-step : (c : OwnCall) (t : ProxyOutput) (s' : List ℕ) → OwnDid c s t s' → Step tells after Stands (calling c) no-proxy t s'
  none-step (setting key) t s' d =
      let so : key_verdict s key ≡ Err Range =
      ap (λ (b : Bool). checked_first b (set_key (proxy_image.get s) key).verdict) (neither (is_key key)) in
      record { same = set_told d so; stands = zeros (set-left d so ∙ e) }
  none-step (issuing interface port token d) t s' w =
      let so : issue_of s interface port token (length d) ≡ refuse Range =
      ap (λ (b : Bool). range_first b (issue_plan (proxy_image.get s) interface port token (length d)))
      (neither (issue_fits interface port)) in
      record { same = issue-told w so; stands = zeros (issue-kept w so ∙ e) }
  none-step (judging body) t s' d =
      let hands = judge-hands d.judges in
      record {
        same = told-as t (wrong-number hands d.fits none) (wrong_result hands d.fits none) d.lent;
        stands = zeros (d.image ∙ e);
      }

-- ---- a make
make-step : (key : List ℕ) (h : Held) (s : List ℕ) (t : ProxyOutput) (s' : List ℕ) (b : Bool) → is_key key ≡ b → length s ≡ 26
    → ProxyMade key s t s' → Step tells after Stands (making key) h t s'
make-step key h s t s' true g l d =
    let hands = make-hands d.makes in
    record {
      same = rw g (told-as t (right-number hands l g) d.struct d.lent);
      stands = rw g (stored (fresh-fits key (eqb-true (length key) 16 g) d.bytes) (right-result hands l g));
    }
make-step key h s t s' false g l d =
    let hands = make-hands d.makes in
    record {
      same = rw g (told-as t (wrong-number hands l g) d.struct d.lent);
      stands = rw g (zeros (wrong_result hands l g));
    }

-- ---- any call, and then lists
abbrev Follows : List OwnCall → History → Type 0
Follows cs h = after_all after (all_own cs) (proxy h) ≡ proxy (history.run (calls_of cs) h)

own-next : (c : OwnCall) (cs : List OwnCall) (h : History) → ((k : History) → Follows cs k) → Follows (c ∷ cs) h
own-next c cs h next = by-test (fit c)
  where
    by-test : (b : Bool)
        → after_all after (all_own cs) (proxy (cond b (called (call_of c) h) h))
        ≡ proxy (history.run (cond b (call_of c ∷ calls_of cs) (calls_of cs)) h)
    by-test true = next (called (call_of c) h)
    by-test false = next h

own-history : (cs : List OwnCall) (h : History) → Follows cs h
own-history [] h = refl
own-history (c ∷ cs) h = own-next c cs h (λ k. own-history cs k)

module _ (lawful : RoundTrips proxy_image) where
  stands-long : (h : Held) (s : List ℕ) → Stands h s → length s ≡ 26
  stands-long h s (stored {h = k} f e) = ap length e ∙ put-long proxy_image lawful k.proxy f
  stands-long h s (zeros e) = ap length e

  step : (c : Call) (h : Held) (s : List ℕ) (t : ProxyOutput) (s' : List ℕ) → Stands h s → Did c s t s' → Step tells after Stands c h t s'
  step (making key) h s t s' a d = make-step key h s t s' (is_key key) refl (stands-long h s a) d
  step (calling c) h s t s' (stored {h = k} f e) d = own-step lawful k s f e c t s' d
  step (calling c) h s t s' (zeros e) d = none-step s e c t s' d

  image-stands : (h : History) (s : List ℕ) → AllBytes s → is_image proxy_image s ≡ true → h.proxy ≡ proxy_image.get s → Stands (proxy h) s
  image-stands h s b i g =
      stored (subst proxy_image.Fit (sym g) (got-fits proxy_image lawful s b i))
      (sym (ap proxy_image.put g ∙ got-put proxy_image lawful s b i))

  from-make : (key : List ℕ) (cs : List Call) (h : Held) (s : List ℕ) (ts : List ProxyOutput) (z : List ℕ) → length s ≡ 26
      → Runs Did (making key ∷ cs) s ts z → As tells after shown (making key ∷ cs) h ts z
  from-make key cs h s ts z l r =
      runs-from Did tells after Stands shown seen step (making key) cs h s ts z (λ t s' d. make-step key h s t s' (is_key key) refl l d) r

  -- what the calls after an accepted make answered
  answered-then : (key : List ℕ) (cs : List Call) (s : List ℕ) (t : ProxyOutput) (ts : List ProxyOutput) (z : List ℕ) → length s ≡ 26
      → length key ≡ 16
      → Runs Did (making key ∷ cs) s (t ∷ ts) z → ts ≡ answers tells after cs (proxy (history.after key []))
  answered-then key cs s t ts z l k r =
      cons_tail (from-make key cs no-proxy s (t ∷ ts) z l r).answered
      ∙ ap (λ (b : Bool). answers tells after cs (cond b (proxy (history.after key [])) no-proxy)) (eq-eqb (length key) 16 k)

  pub proxy-runs : Numbered → ProxyLaws → ProxyRuns
  proxy-runs numbers laws =
      record {
        from-make = from-make;
        from-image = λ cs h s ts z b i g r. runs Did tells after Stands shown seen step cs (proxy h) s ts z (image-stands h s b i g) r;
        histories = λ key cs. own-history cs (history.after key []);
        no-number-twice = λ key cs s t ts z l k r i j.
            no-twice numbers laws key cs ts (answered-then key (all_own cs) s t ts z l k r) i j;
      }
