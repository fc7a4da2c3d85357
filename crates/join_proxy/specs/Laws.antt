-- What holds of a proxy after any list of calls: what it issues, for which bodies it forwards a response,
-- and that no number is sealed twice.
-- Numbers, ages and the key are told from the calls and their answers (History), not from what the proxy keeps.
use Rattle.std.specs.Prelude.{List, [], ◌≡◌, ℕ, ◌-◌, ◌<◌, ◌≤◌, length, get_or, take, Err}
use Rattle.refusal.specs.Refusal.{number_of as refusal_number}
use Rattle.refusal.specs.declared.Refusal.{Refusal}
use Rattle.refusal.specs.declared.Refusal.TheVariants.{Stale}
use Rattle.aes_ccm.specs.Plan.{refuse, emit, number_in, length_in}
use Rattle.join_proxy.specs.declared.issuing.IssueResult.{IssueResult}
use Rattle.join_proxy.specs.declared.judging.Pledge.{Pledge}
use Rattle.join_proxy.specs.declared.proxy.Proxy.{Proxy}
use Rattle.join_proxy.specs.Body.{four, number_of, eight, pledge_text, body_of}
use Rattle.join_proxy.specs.Issuing.{issue_plan, Issues}
use Rattle.join_proxy.specs.Judging.{judge_body, forward_to, refused_with, pledge_in, nobody, opening}
use Rattle.join_proxy.specs.Keys.{fresh}
use Rattle.join_proxy.specs.History.{ProxyCall, setting, issuing, judging, History, sent_at, called, answered, after}

-- the pledge and token that a body was issued for
abbrev pub pledge_for : List ℕ → ℕ → List ℕ → Pledge
pledge_for interface port token = record { interface = interface; port = port; len = length token; token = eight token }

-- the body with number n for a pledge, read back: 31 bytes, the number in front, and under the seal the text that names the pledge
pub record ReadsBack (key : List ℕ) (n : ℕ) (interface : List ℕ) (port : ℕ) (token : List ℕ) : Type 0 where
  pub long : length (body_of key (four n) (pledge_text interface port token)) ≡ 31
  pub number : number_of (take 4 (body_of key (four n) (pledge_text interface port token))) ≡ n
  pub opens : opening (fresh key) (body_of key (four n) (pledge_text interface port token)) ≡ emit (pledge_text interface port token)
  pub names : pledge_in (pledge_text interface port token) ≡ pledge_for interface port token

-- setting a key: RANGE for the one that was set last; any other begins anew
pub record SetsInOrder (h : History) (new : List ℕ) : Type 0 where
  pub in_use : h.key ≡ new → answered (setting new) h ≡ 13
  pub another : (h.key ≡ new → ⊥) → called (setting new) h ≡ record { proxy = fresh new; key = new; sent = [] }

-- issuing: RANGE, SPENT, ROOM, or the body whose number is how many were issued since the key was set
pub record IssuesInOrder (h : History) (interface : List ℕ) (port : ℕ) (token : List ℕ) (room : ℕ) : Type 0 where
  pub range : 8 < length token → answered (issuing interface port token room) h ≡ 13
  pub spent : length token ≤ 8 → length h.sent ≡ 4294967296 → answered (issuing interface port token room) h ≡ 21
  pub no_room : length token ≤ 8 → length h.sent < 4294967296 → room < 31 → answered (issuing interface port token room) h ≡ 12
  pub done : length token ≤ 8 → length h.sent < 4294967296 → 31 ≤ room
      → issue_plan h.proxy interface port token room ≡ emit (body_of h.key (four (length h.sent)) (pledge_text interface port token))
  pub at_most : length h.sent ≤ 4294967296

-- the body has the number of what was issued at this place since the key was set, with fewer than 64 issued after it
pub record Recent (h : History) (body : List ℕ) (place : ℕ) : Type 0 where
  pub was-issued : place < length h.sent
  pub its-number : number_of (take 4 body) ≡ number_of (take 4 (sent_at h.sent place).body)
  pub few-after : length h.sent - 1 - place < 64

-- 02's words: 31 bytes, a seal that opens by the present key, a token length of at most 8, and such a number
pub record Forwardable (h : History) (body : List ℕ) (w : Pledge) : Type 0 where
  pub long : length body ≡ 31
  pub text : List ℕ
  pub seal-opens : body ≡ body_of h.key (take 4 body) text
  pub token-fits : get_or text 10 0 ≤ 8
  pub place : ℕ
  pub recent : Recent h body place
  pub names : pledge_in text ≡ w

-- what is not forwarded: TYPE, SEAL, RANGE, STALE, in this order
pub record JudgesInOrder (h : History) (body : List ℕ) : Type 0 where
  pub type-first : (length body ≡ 31 → ⊥) → answered (judging body) h ≡ 5
  pub seal-next : length body ≡ 31 → ((text : List ℕ) → body ≡ body_of h.key (take 4 body) text → ⊥) → answered (judging body) h ≡ 20
  pub range-next : (text : List ℕ) → length body ≡ 31 → body ≡ body_of h.key (take 4 body) text → 8 < get_or text 10 0
      → answered (judging body) h ≡ 13
  pub stale-last : (text : List ℕ) → length body ≡ 31 → body ≡ body_of h.key (take 4 body) text → get_or text 10 0 ≤ 8
      → ((place : ℕ) → Recent h body place → ⊥) → answered (judging body) h ≡ 22

pub record ProxyLaws : Type 0 where
  -- a body's fields read back from its bytes
  pub reads-back : (key : List ℕ) (n : ℕ) (interface : List ℕ) (port : ℕ) (token : List ℕ) → length interface ≡ 8
      → ReadsBack key n interface port token
  pub sets-in-order : (key : List ℕ) (calls : List ProxyCall) (new : List ℕ) → SetsInOrder (after key calls) new
  pub issues-in-order : (key : List ℕ) (calls : List ProxyCall) (interface : List ℕ) (port : ℕ) (token : List ℕ) (room : ℕ)
      → IssuesInOrder (after key calls) interface port token room
  -- what was issued under the present key is forwarded to exactly its pledge and token while fewer than 64 were issued after it
  pub issued-returns : (key : List ℕ) (calls : List ProxyCall) (i : ℕ) → (let h = after key calls in
      let s = sent_at h.sent i in
      i < length h.sent → length h.sent - 1 - i < 64 → length s.interface ≡ 8
      → judge_body h.proxy s.body ≡ forward_to (pledge_for s.interface s.port s.token))
  -- and is stale from then on
  pub issued-ages : (key : List ℕ) (calls : List ProxyCall) (i : ℕ) → (let h = after key calls in
      let s = sent_at h.sent i in
      i < length h.sent → 64 ≤ length h.sent - 1 - i → length s.interface ≡ 8 → judge_body h.proxy s.body ≡ refused_with Stale)
  -- a body is forwarded exactly when 02 says
  pub forwarded-only : (key : List ℕ) (calls : List ProxyCall) (body : List ℕ) (w : Pledge) → (let h = after key calls in
      judge_body h.proxy body ≡ forward_to w → Forwardable h body w)
  pub forwarded-all : (key : List ℕ) (calls : List ProxyCall) (body : List ℕ) (w : Pledge) → (let h = after key calls in
      Forwardable h body w → judge_body h.proxy body ≡ forward_to w)
  pub judges-in-order : (key : List ℕ) (calls : List ProxyCall) (body : List ℕ) → JudgesInOrder (after key calls) body
  -- between two settings of a key no number is sealed twice, so no nonce is used twice
  pub no-number-twice : (key : List ℕ) (calls : List ProxyCall) (i j : ℕ) → (let sent = (after key calls).sent in
      i < length sent → j < length sent → number_of (take 4 (sent_at sent i).body) ≡ number_of (take 4 (sent_at sent j).body) → i ≡ j)
  -- a refused call leaves the proxy
  pub refused-leaves : (c : ProxyCall) (h : History) → (answered c h ≡ 0 → ⊥) → (called c h).proxy ≡ h.proxy
  -- a refused issue answers its number and no length, and leaves proxy and destination; a refused body names nobody
  pub refused-issue : (p : Proxy) (interface : List ℕ) (port : ℕ) (token d : List ℕ) (r : IssueResult) (d' : List ℕ) (k : Refusal)
      → Issues p interface port token d r d' → issue_plan p interface port token (length d) ≡ refuse k
      → (number_in r.written ≡ refusal_number k) × (length_in r.written ≡ 0) × (r.proxy ≡ p) × (d' ≡ d)
  pub refused-body : (p : Proxy) (body : List ℕ) (k : Refusal) → (judge_body p body).verdict ≡ Err k
      → (judge_body p body).pledge ≡ nobody
