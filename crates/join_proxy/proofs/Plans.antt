-- What issuing has done at each of its returns: the tests on the way say which clause of the plan it is.
-- Assumes nothing.
use Rattle.std.specs.Prelude.{Ok, Err, None, Some}
use mathlib.Core.Path.{◌≡◌, refl, sym, ◌∙◌, ap, subst⁻¹}
use mathlib.Core.Bool.{Bool, true, false, cond}
use mathlib.Core.List.{List, ◌++◌}
use Prim.Native.Nat.{ℕ, ◌<◌, ◌≤◌}
use native.Mathlib.Omega.{arith}
use borrow.Author.Tests.{lt-ltb, le-ltb, ltb-false}
use lib.Dec.{ltb}
use lib.ListN.{length, drop}
use Rattle.refusal.specs.Refusal.{number_of as refusal_number}
use Rattle.refusal.specs.declared.Refusal.{Refusal}
use Rattle.refusal.specs.declared.Refusal.TheVariants.{Range, Room, Spent}
use Rattle.aes_ccm.specs.Plan.{Plan, refuse, emit, Did, number_in, length_in}
use Rattle.join_proxy.specs.declared.issuing.IssueResult.{IssueResult}
use Rattle.join_proxy.specs.Issued.{Issued}
use Rattle.join_proxy.specs.declared.proxy.Proxy.{Proxy}
use Rattle.join_proxy.specs.Body.{four, pledge_text, body_of}
use Rattle.join_proxy.specs.Issuing.{raised, raised_from, numbered, issue_plan, after_issue, Issues}

abbrev proxy_with : List ℕ → Issued → Proxy
proxy_with key issued = record { key = key; next = issued }

module _ (p : Proxy) (interface : List ℕ) (port : ℕ) (token d : List ℕ) where
  refused-by : (k : Refusal) → issue_plan p interface port token (length d) ≡ refuse k
      → Issues p interface port token d (record { written = Err k; proxy = p }) d
  refused-by k e =
      record {
        did = subst⁻¹ (λ (x : Plan). Did x d (Err k) d) e (record { says = refl; holds = refl });
        goes_on = sym (ap (λ (x : Plan). after_issue x p) e);
      }

  pub issue-range : 8 < length token → Issues p interface port token d (record { written = Err Range; proxy = p }) d
  unfolding issue_plan
  issue-range h = refused-by Range (rw (lt-ltb 8 (length token) h))

  pub issue-spent : length token ≤ 8 → p.next ≡ None → Issues p interface port token d (record { written = Err Spent; proxy = p }) d
  unfolding issue_plan
  issue-spent h e = refused-by Spent (rw (le-ltb 8 (length token) h, e))

  pub issue-no-room : (n : ℕ) → length token ≤ 8 → p.next ≡ Some n → length d < 31
      → Issues p interface port token d (record { written = Err Room; proxy = p }) d
  unfolding issue_plan
  issue-no-room n h e l = refused-by Room (rw (le-ltb 8 (length token) h, e, lt-ltb (length d) 31 l))

  pub issue-done : (n : ℕ) (issued : Issued) (d' : List ℕ) → length token ≤ 8 → p.next ≡ Some n → 31 ≤ length d
      → length (body_of p.key (four n) (pledge_text interface port token)) ≡ 31
      → d' ≡ body_of p.key (four n) (pledge_text interface port token) ++ drop 31 d → issued ≡ raised n
      → Issues p interface port token d (record { written = Ok 31; proxy = record { key = p.key; next = issued } }) d'
  unfolding issue_plan
  issue-done n issued d' h e l long ed ei =
      let body = body_of p.key (four n) (pledge_text interface port token) in
      let plan : issue_plan p interface port token (length d) ≡ emit body = rw (le-ltb 8 (length token) h, e, le-ltb (length d) 31 l) in
      record {
        did =
            subst⁻¹ (λ (x : Plan). Did x d (Ok 31) d') plan
            (record { says = ap Ok (sym long); holds = ed ∙ ap (λ (k : ℕ). body ++ drop k d) (sym long) });
        goes_on =
            ap (proxy_with p.key) (ei ∙ sym (ap raised_from e))
            ∙ sym (ap (λ (x : Plan). after_issue x p) plan);
      }

-- an accepted issue used a number, and wrote the body with it
pub record Emitted (p : Proxy) (interface : List ℕ) (port : ℕ) (token body : List ℕ) : Type 0 where
  pub token-fits : length token ≤ 8
  pub number : ℕ
  pub was : p.next ≡ Some number
  pub so : body ≡ body_of p.key (four number) (pledge_text interface port token)

passed : (b : Bool) (k : Refusal) (p : Plan) (m : List ℕ) → cond b (refuse k) p ≡ emit m → (b ≡ false) × (p ≡ emit m)
passed true k p m e = absurd (let z : ◌≡◌ {A = ℕ} 0 1 = cc in omega arith)
passed false k p m e = (refl, e)

with_number : (key : List ℕ) (issued : Issued) (text : List ℕ) (room : ℕ) (body : List ℕ) → numbered key issued text room ≡ emit body
    → (n : ℕ) × ((issued ≡ Some n) × (body ≡ body_of key (four n) text))
with_number key (Some n) text room body e =
    let on = passed (ltb room 31) Room _ body e in
    let same : emit body ≡ emit (body_of key (four n) text) = sym on.1 in
    (n, (refl, cc))
with_number key None text room body e = absurd (let z : ◌≡◌ {A = ℕ} 0 1 = cc in omega arith)

pub emitted : (p : Proxy) (interface : List ℕ) (port : ℕ) (token : List ℕ) (room : ℕ) (body : List ℕ)
    → issue_plan p interface port token room ≡ emit body → Emitted p interface port token body
unfolding issue_plan
emitted p interface port token room body e =
    let on = passed (ltb 8 (length token)) Range _ body e in
    let got = with_number p.key p.next (pledge_text interface port token) room body on.1 in
    record { token-fits = ltb-false 8 (length token) on.0; number = got.0; was = got.1.0; so = got.1.1 }

pub refused-issue : (p : Proxy) (interface : List ℕ) (port : ℕ) (token d : List ℕ) (r : IssueResult) (d' : List ℕ) (k : Refusal)
    → Issues p interface port token d r d' → issue_plan p interface port token (length d) ≡ refuse k
    → (number_in r.written ≡ refusal_number k) × (length_in r.written ≡ 0) × (r.proxy ≡ p) × (d' ≡ d)
refused-issue p interface port token d r d' k did e =
    let says : r.written ≡ Err k = did.did.says ∙ rw e in (
      ap number_in says,
      ap length_in says,
      did.goes_on ∙ rw e,
      did.did.holds ∙ rw e,
    )
