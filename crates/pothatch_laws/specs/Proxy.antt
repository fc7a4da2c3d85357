-- The calls of a join proxy from C: makes and the proxy's own calls, in any order. From a make on, and from any image on, they answer what
-- the proxy's own calls answer, and the struct holds the proxy after them. A refused make leaves no proxy: then every call is RANGE until
-- one is made.
use Rattle.std.specs.Prelude.{ℕ, ◌<◌, Bool, true, cond, List, [], ◌∷◌, ◌++◌, ◌≡◌, eqb, length, get_or, take, replicate, Err}
use Rattle.refusal.specs.Verdict.{verdict_number}
use Rattle.refusal.specs.declared.Refusal.TheVariants.{Range}
use Rattle.image.specs.Effects.{on_accept}
use Rattle.image.specs.Part.{AllBytes, is_image}
use Rattle.aes_ccm.specs.Plan as plan
use Rattle.join_proxy.specs.Body.{number_of}
use Rattle.join_proxy.specs.History as history
use Rattle.join_proxy.specs.History.{ProxyCall, History, called, answered}
use Rattle.join_proxy.specs.Issuing.{issue_plan}
use Rattle.join_proxy.specs.Judging.{judge_body}
use Rattle.state_image.specs.Proxy.{proxy_image, pledge_image}
use Rattle.proxy_calls.specs.Proxy.{Makes, SetsKey, issue_fits, IssuesIn, JudgesIn}
use Rattle.pothatch_laws.specs.Runs.{Runs, after_all, As}

-- the calls that a proxy is handed to
pub data OwnCall : Type 0 where
  -- key
  setting : List ℕ → OwnCall
  -- interface identifier, port, token, and what the destination holds
  issuing : List ℕ → ℕ → List ℕ → List ℕ → OwnCall
  -- option body
  judging : List ℕ → OwnCall

pub data Call : Type 0 where
  -- key
  making : List ℕ → Call
  calling : OwnCall → Call

-- what a call answered: the number; what stands in the struct for its result, nothing where it has none; and what the bytes that it was
-- lent hold afterwards (a key, an issue's destination, a body)
pub record ProxyOutput : Type 0 where
  pub number : ℕ
  pub struct : List ℕ
  pub lent : List ℕ

abbrev pub proxy_output : ℕ → List ℕ → List ℕ → ProxyOutput
proxy_output n w d = record { number = n; struct = w; lent = d }

-- ---- a call from C on the struct s, by the contract of its function; s' is the struct afterwards. What is only read stays
pub record ProxyMade (key s : List ℕ) (t : ProxyOutput) (s' : List ℕ) : Type 0 where
  pub bytes : AllBytes key
  pub makes : Makes key s t.number s'
  pub struct : t.struct ≡ []
  pub lent : t.lent ≡ key

pub record KeySet (key s : List ℕ) (t : ProxyOutput) (s' : List ℕ) : Type 0 where
  pub bytes : AllBytes key
  pub sets : SetsKey s key t.number s'
  pub struct : t.struct ≡ []
  pub lent : t.lent ≡ key

pub record BodyIssued (interface : List ℕ) (port : ℕ) (token d s : List ℕ) (t : ProxyOutput) (s' : List ℕ) : Type 0 where
  pub issues : IssuesIn s interface port token d t.number s' t.lent
  pub struct : t.struct ≡ []

-- a judging is lent a struct for the pledge, whatever stood there
pub record BodyJudged (body s : List ℕ) (t : ProxyOutput) (s' : List ℕ) : Type 0 where
  pub before : List ℕ
  pub fits : length before ≡ 21
  pub judges : JudgesIn s body before t.number t.struct
  pub image : s' ≡ s
  pub lent : t.lent ≡ body

abbrev pub OwnDid : OwnCall → List ℕ → ProxyOutput → List ℕ → Type 0
OwnDid (setting key) = KeySet key
OwnDid (issuing interface port token d) = BodyIssued interface port token d
OwnDid (judging body) = BodyJudged body

abbrev pub Did : Call → List ℕ → ProxyOutput → List ℕ → Type 0
Did (making key) = ProxyMade key
Did (calling c) = OwnDid c

-- ---- the proxy's own calls, on the proxy with its history
pub data Held : Type 0 where
  no-proxy : Held
  proxy : History → Held

-- a key has sixteen bytes, an interface identifier eight, a port two; a call with another length or a larger port is RANGE
abbrev pub is_key : List ℕ → Bool
is_key key = eqb (length key) 16

abbrev pub fit : OwnCall → Bool
fit (setting key) = is_key key
fit (issuing interface port token d) = issue_fits interface port
fit (judging body) = true

abbrev pub call_of : OwnCall → ProxyCall
call_of (setting key) = history.setting key
call_of (issuing interface port token d) = history.issuing interface port token (length d)
call_of (judging body) = history.judging body

-- what is handed back beside the number
abbrev pub struct_of : OwnCall → History → List ℕ
struct_of (setting key) h = []
struct_of (issuing interface port token d) h = []
struct_of (judging body) h =
    on_accept (judge_body h.proxy body).verdict (replicate 21 0) (pledge_image.put (judge_body h.proxy body).pledge)

abbrev pub lent_after : OwnCall → History → List ℕ
lent_after (setting key) h = key
lent_after (issuing interface port token d) h = plan.after (issue_plan h.proxy interface port token (length d)) d
lent_after (judging body) h = body

-- RANGE: no pledge, and the lent bytes as they were
abbrev pub ranged : OwnCall → ProxyOutput
ranged (setting key) = proxy_output (verdict_number (Err Range)) [] key
ranged (issuing interface port token d) = proxy_output (verdict_number (Err Range)) [] d
ranged (judging body) = proxy_output (verdict_number (Err Range)) (replicate 21 0) body

abbrev pub tells : Call → Held → ProxyOutput
tells (making key) h = proxy_output (cond (is_key key) 0 (verdict_number (Err Range))) [] key
tells (calling c) no-proxy = ranged c
tells (calling c) (proxy h) = cond (fit c) (proxy_output (answered (call_of c) h) (struct_of c h) (lent_after c h)) (ranged c)

abbrev pub after : Call → Held → Held
after (making key) h = cond (is_key key) (proxy (history.after key [])) no-proxy
after (calling c) no-proxy = no-proxy
after (calling c) (proxy h) = proxy (cond (fit c) (called (call_of c) h) h)

-- the image of a proxy; all zero, which no call takes for one, where there is none
abbrev pub shown : Held → List ℕ
shown no-proxy = replicate 26 0
shown (proxy h) = proxy_image.put h.proxy

-- ---- the histories that the proxy's laws speak of: a key, and the calls since
abbrev pub calls_of : List OwnCall → List ProxyCall
calls_of [] = []
calls_of (c ∷ cs) = cond (fit c) (call_of c ∷ calls_of cs) (calls_of cs)

abbrev pub all_own : List OwnCall → List Call
all_own [] = []
all_own (c ∷ cs) = calling c ∷ all_own cs

-- the numbers that were sealed since the key was set last, told from the calls and what they answered: they stand in front of the bodies
abbrev pub sealed_by : OwnCall → ProxyOutput → List ℕ → List ℕ
sealed_by (setting key) t ns = cond (eqb t.number 0) [] ns
sealed_by (issuing interface port token d) t ns = cond (eqb t.number 0) (ns ++ (number_of (take 4 t.lent) ∷ [])) ns
sealed_by (judging body) t ns = ns

abbrev pub sealed_since : List OwnCall → List ProxyOutput → List ℕ → List ℕ
sealed_since [] ts ns = ns
sealed_since (c ∷ cs) [] ns = ns
sealed_since (c ∷ cs) (t ∷ ts) ns = sealed_since cs ts (sealed_by c t ns)

pub record ProxyRuns : Type 0 where
  -- from a make on, which goes by no earlier proxy, so any may stand in h
  pub from-make : (key : List ℕ) (cs : List Call) (h : Held) (s : List ℕ) (ts : List ProxyOutput) (z : List ℕ) → length s ≡ 26
      → Runs Did (making key ∷ cs) s ts z → As tells after shown (making key ∷ cs) h ts z
  -- from any image on, whatever is told of the proxy in it
  pub from-image : (cs : List Call) (h : History) (s : List ℕ) (ts : List ProxyOutput) (z : List ℕ) → AllBytes s
      → is_image proxy_image s ≡ true
      → h.proxy ≡ proxy_image.get s → Runs Did cs s ts z → As tells after shown cs (proxy h) ts z
  -- so what holds of every history (which bodies are issued and forwarded) holds of these calls
  pub histories : (key : List ℕ) (cs : List OwnCall)
      → after_all after (all_own cs) (proxy (history.after key [])) ≡ proxy (history.after key (calls_of cs))
  -- and between two settings of a key no number is sealed twice, so no nonce is used twice
  pub no-number-twice : (key : List ℕ) (cs : List OwnCall) (s : List ℕ) (t : ProxyOutput) (ts : List ProxyOutput) (z : List ℕ)
      → length s ≡ 26
      → length key ≡ 16 → Runs Did (making key ∷ all_own cs) s (t ∷ ts) z → (i j : ℕ) → (let ns = sealed_since cs ts [] in
      i < length ns → j < length ns → get_or ns i 0 ≡ get_or ns j 0 → i ≡ j)
