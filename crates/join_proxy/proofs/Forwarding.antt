-- What a proxy answers after any list of calls: what the calls tell is what it keeps, so the definitions' tests are the laws' words.
-- Assumes nothing.
use Rattle.std.specs.Prelude.{Some}
use mathlib.Core.Path.{◌≡◌, refl, sym, ◌∙◌, ap}
use mathlib.Core.Bool.{Bool, true, false}
use mathlib.Core.List.{List}
use Prim.Native.Nat.{ℕ, ◌-◌, ◌<◌, ◌≤◌}
use native.Mathlib.Omega.{arith}
use borrow.Author.Tests.{lt-ltb, le-ltb}
use lib.ListN.{length, get_or, take}
use Rattle.refusal.specs.Verdict.{verdict_number}
use Rattle.refusal.specs.declared.Refusal.TheVariants.{Range, Room, Spent, Stale}
use Rattle.aes_ccm.specs.Laws.{CcmLaws}
use Rattle.aes_ccm.specs.Plan.{Plan, refuse, emit, answer, number_in}
use Rattle.join_proxy.specs.declared.judging.JudgeResult.{JudgeResult}
use Rattle.join_proxy.specs.declared.judging.Pledge.{Pledge}
use Rattle.join_proxy.specs.Body.{four, number_of, pledge_text, body_of}
use Rattle.join_proxy.specs.History.{ProxyCall, History, sent_at, after}
use Rattle.join_proxy.specs.Issuing.{issue_plan}
use Rattle.join_proxy.specs.Judging.{judge_body, judge_text, forward_to, refused_with, is_fresh}
use Rattle.join_proxy.specs.Keys.{count_of}
use Rattle.join_proxy.specs.Laws.{pledge_for, IssuesInOrder, Recent, Forwardable, JudgesInOrder}
use Rattle.join_proxy.proofs.Bodies.{reads-back, token-length}
use Rattle.join_proxy.proofs.Histories.{IssuedCount, going, spent, standing-count, Told, told, number_at}
use Rattle.join_proxy.proofs.Judgements.{not-31, text-range, text-forwarded, text-stale, fresh-true, fresh-both}
use Rattle.join_proxy.proofs.Judgements.{by-text, never-opens, passing, own_body}

-- ---- issuing
module _ (h : History) (t : Told h) (interface : List ℕ) (port : ℕ) (token : List ℕ) (room : ℕ) where
  is-range : 8 < length token → issue_plan h.proxy interface port token room ≡ refuse Range
  unfolding issue_plan
  is-range l = rw (lt-ltb 8 (length token) l)

  is-spent : length token ≤ 8 → length h.sent ≡ 4294967296 → issue_plan h.proxy interface port token room ≡ refuse Spent
  unfolding issue_plan
  is-spent l e = by-standing t.stands
    where
      by-standing : IssuedCount h.proxy.next (length h.sent) → issue_plan h.proxy interface port token room ≡ refuse Spent
      by-standing (going q k) = absurd (omega arith)
      by-standing (spent q k) = rw (le-ltb 8 (length token) l, q)

  next : length token ≤ 8 → length h.sent < 4294967296 → h.proxy.next ≡ Some (length h.sent)
  next l k = by-standing t.stands
    where
      by-standing : IssuedCount h.proxy.next (length h.sent) → h.proxy.next ≡ Some (length h.sent)
      by-standing (going q k) = q
      by-standing (spent q e) = absurd (omega arith)

  has-no-room : length token ≤ 8 → length h.sent < 4294967296 → room < 31 → issue_plan h.proxy interface port token room ≡ refuse Room
  unfolding issue_plan
  has-no-room l k r = rw (le-ltb 8 (length token) l, next l k, lt-ltb room 31 r)

  is-done : length token ≤ 8 → length h.sent < 4294967296 → 31 ≤ room
      → issue_plan h.proxy interface port token room ≡ emit (body_of h.key (four (length h.sent)) (pledge_text interface port token))
  unfolding issue_plan
  is-done l k r = rw (le-ltb 8 (length token) l, next l k, le-ltb room 31 r, t.key-is)

  at_most : IssuedCount h.proxy.next (length h.sent) → length h.sent ≤ 4294967296
  at_most (going q k) = omega arith
  at_most (spent q e) = omega arith

  issues-by : IssuesInOrder h interface port token room
  issues-by =
      record {
        range = λ l. ap (λ (x : Plan). number_in (answer x)) (is-range l);
        spent = λ l e. ap (λ (x : Plan). number_in (answer x)) (is-spent l e);
        no_room = λ l k r. ap (λ (x : Plan). number_in (answer x)) (has-no-room l k r);
        done = is-done;
        at_most = at_most t.stands;
      }

pub issues-in-order : (key : List ℕ) (calls : List ProxyCall) (interface : List ℕ) (port : ℕ) (token : List ℕ) (room : ℕ)
    → IssuesInOrder (after key calls) interface port token room
issues-in-order key calls = issues-by (after key calls) (told key calls)

-- ---- what was issued
-- the proxy's count is how many were issued
counts : (key : List ℕ) (calls : List ProxyCall) → (let h = after key calls in count_of h.proxy.next ≡ length h.sent)
counts key calls = let h = after key calls in standing-count h.proxy.next (length h.sent) (told key calls).stands

module _ (laws : CcmLaws) (key : List ℕ) (calls : List ProxyCall) (i : ℕ) where
  -- a body of the proxy's own is judged by its place
  own : (let h = after key calls in
      let s = sent_at h.sent i in
      i < length h.sent → length s.interface ≡ 8
      → judge_body h.proxy s.body ≡ judge_text h.proxy.next i (pledge_text s.interface s.port s.token))
  own l e =
      let h = after key calls in
      let t = told key calls in
      let s = sent_at h.sent i in
      let text = pledge_text s.interface s.port s.token in
      own_body laws h.proxy i s.interface s.port s.token s.body e
      ((t.each i l).so ∙ ap (λ (k : List ℕ). body_of k (four i) text) (sym t.key-is))

  -- and its token's length is at most 8
  fits : (let sent = (after key calls).sent in
      let s = sent_at sent i in
      i < length sent → length s.interface ≡ 8 → get_or (pledge_text s.interface s.port s.token) 10 0 ≤ 8)
  fits l e =
      let s = sent_at (after key calls).sent i in
      rw (token-length s.interface s.port s.token e) ((told key calls).each i l).token-fits

  pub issued-returns : (let h = after key calls in
      let s = sent_at h.sent i in
      i < length h.sent → length h.sent - 1 - i < 64 → length s.interface ≡ 8
      → judge_body h.proxy s.body ≡ forward_to (pledge_for s.interface s.port s.token))
  issued-returns l few e =
      let h = after key calls in
      let s = sent_at h.sent i in
      let text = pledge_text s.interface s.port s.token in
      let count = counts key calls in
      own l e
      ∙ text-forwarded h.proxy.next i text (fits l e) (fresh-true h.proxy.next i (omega (arith, count)) (omega (arith, count)))
      ∙ ap forward_to (reads-back s.interface s.port s.token e)

  pub issued-ages : (let h = after key calls in
      let s = sent_at h.sent i in
      i < length h.sent → 64 ≤ length h.sent - 1 - i → length s.interface ≡ 8 → judge_body h.proxy s.body ≡ refused_with Stale)
  issued-ages l many e =
      let issued = (after key calls).proxy.next in
      let s = sent_at (after key calls).sent i in
      let count = counts key calls in
      let old : is_fresh issued i ≡ false
      = rw (lt-ltb i (count_of issued) (omega (arith, count)), le-ltb (count_of issued - 1 - i) 64 (omega (arith, count))) in
      own l e ∙ text-stale issued i (pledge_text s.interface s.port s.token) (fits l e) old

-- ---- exactly when a body is forwarded
module _ (laws : CcmLaws) (key : List ℕ) (calls : List ProxyCall) (body : List ℕ) where
  -- a fresh number is that of its place
  recent : (let issued = (after key calls).proxy.next in
      let n = number_of (take 4 body) in n < count_of issued → count_of issued - 1 - n < 64 → Recent (after key calls) body n)
  recent l few =
      let h = after key calls in
      let count = counts key calls in
      record {
        was-issued = omega (arith, count);
        its-number = sym (number_at h (told key calls) (number_of (take 4 body)) (omega (arith, count)));
        few-after = omega (arith, count);
      }

  -- the key that was set last is the proxy's
  to-proxy : (text : List ℕ) → body ≡ body_of (after key calls).key (take 4 body) text
      → body ≡ body_of (after key calls).proxy.key (take 4 body) text
  to-proxy text e = e ∙ ap (λ (k : List ℕ). body_of k (take 4 body) text) (sym (told key calls).key-is)

  from-proxy : (text : List ℕ) → body ≡ body_of (after key calls).proxy.key (take 4 body) text
      → body ≡ body_of (after key calls).key (take 4 body) text
  from-proxy text e = e ∙ ap (λ (k : List ℕ). body_of k (take 4 body) text) (told key calls).key-is

  pub forwarded-only : (w : Pledge) → judge_body (after key calls).proxy body ≡ forward_to w → Forwardable (after key calls) body w
  forwarded-only w e =
      let on = passing laws (after key calls).proxy body w e in
      record {
        long = on.long;
        text = on.text;
        seal-opens = from-proxy on.text on.seal-opens;
        token-fits = on.passed.token-fits;
        place = number_of (take 4 body);
        recent = recent on.passed.was-issued on.passed.is-recent;
        names = on.passed.names;
      }

  pub forwarded-all : (w : Pledge) → Forwardable (after key calls) body w → judge_body (after key calls).proxy body ≡ forward_to w
  forwarded-all w f =
      let h = after key calls in
      let n = number_of (take 4 body) in
      let count = counts key calls in
      let at : n ≡ f.place = f.recent.its-number ∙ number_at h (told key calls) f.place f.recent.was-issued in
      let was = f.recent.was-issued in
      let few = f.recent.few-after in
      by-text laws h.proxy body f.text f.long (to-proxy f.text f.seal-opens)
      ∙ text-forwarded h.proxy.next n f.text f.token-fits
      (fresh-true h.proxy.next n (omega (arith, count, at, was, few)) (omega (arith, count, at, was, few)))
      ∙ ap forward_to f.names

  pub judges-in-order : JudgesInOrder (after key calls) body
  judges-in-order =
      let p = (after key calls).proxy in
      let n = number_of (take 4 body) in
      let number : JudgeResult → ℕ = λ j. verdict_number j.verdict in
      record {
        type-first = λ l. ap number (not-31 p body l);
        seal-next = λ l never. ap number (never-opens laws p body l (λ t e. never t (from-proxy t e)));
        range-next = λ t l e over. ap number (by-text laws p body t l (to-proxy t e) ∙ text-range p.next n t over);
        stale-last =
            λ t l e fits old. ap number
            (by-text laws p body t l (to-proxy t e) ∙ text-stale p.next n t fits (not-fresh old (is_fresh p.next n) refl));
      }
    where
      not-fresh : ((place : ℕ) → Recent (after key calls) body place → ⊥) → (let issued = (after key calls).proxy.next in
          let n = number_of (take 4 body) in (b : Bool) → is_fresh issued n ≡ b → is_fresh issued n ≡ false)
      not-fresh old true e =
          let n = number_of (take 4 body) in
          let both = fresh-both (after key calls).proxy.next n e in
          absurd (old n (recent both.0 both.1))
      not-fresh old false e = e
