-- A list of calls on a proxy, and what is told of it by the calls and their answers alone:
-- the key that was set last, and what was issued since.
use Rattle.std.specs.Prelude.{List, [], ◌∷◌, ◌++◌, ℕ, get_or, Ok, Err}
use Rattle.refusal.specs.Verdict.{verdict_number}
use Rattle.refusal.specs.Verdict.{Verdict}
use Rattle.aes_ccm.specs.Plan.{Plan, refuse, emit, answer, number_in}
use Rattle.join_proxy.specs.declared.proxy.Proxy.{Proxy}
use Rattle.join_proxy.specs.Issuing.{issue_plan, after_issue}
use Rattle.join_proxy.specs.Judging.{judge_body}
use Rattle.join_proxy.specs.Keys.{fresh, set_key}

-- a key is set; a body is issued for an interface identifier, a port and a token, into so much room; a body is judged
pub data ProxyCall : Type 0 where
  setting : List ℕ → ProxyCall
  issuing : List ℕ → ℕ → List ℕ → ℕ → ProxyCall
  judging : List ℕ → ProxyCall

-- an accepted issue: for whom it was, and the body that was written
pub record Sent : Type 0 where
  pub interface : List ℕ
  pub port : ℕ
  pub token : List ℕ
  pub body : List ℕ

-- the proxy; the key that it was made with or that was set last; what was issued since then, the first one first
pub record History : Type 0 where
  pub proxy : Proxy
  pub key : List ℕ
  pub sent : List Sent

-- what was issued at place i; past the end, nothing
abbrev pub sent_at : List Sent → ℕ → Sent
sent_at sent i = get_or sent i (record { interface = []; port = 0; token = []; body = [] })

abbrev pub with_sent : Plan → List ℕ → ℕ → List ℕ → List Sent → List Sent
with_sent (refuse k) interface port token sent = sent
with_sent (emit body) interface port token sent = sent ++ (record { interface = interface; port = port; token = token; body = body } ∷ [])

abbrev pub settled : Verdict → Proxy → List ℕ → History → History
settled (Ok tt) p key h = record { proxy = p; key = key; sent = [] }
settled (Err k) p key h = record { proxy = p; key = h.key; sent = h.sent }

abbrev pub called : ProxyCall → History → History
called (setting key) h = settled (set_key h.proxy key).verdict (set_key h.proxy key).proxy key h
called (issuing interface port token room) h =
    let plan = issue_plan h.proxy interface port token room in
    record { proxy = after_issue plan h.proxy; key = h.key; sent = with_sent plan interface port token h.sent }
called (judging body) h = h

-- the number that a call answers, 0 where it is accepted
abbrev pub answered : ProxyCall → History → ℕ
answered (setting key) h = verdict_number (set_key h.proxy key).verdict
answered (issuing interface port token room) h = number_in (answer (issue_plan h.proxy interface port token room))
answered (judging body) h = verdict_number (judge_body h.proxy body).verdict

-- the calls one after the other
abbrev pub run : List ProxyCall → History → History
run [] h = h
run (c ∷ cs) h = run cs (called c h)

-- a proxy made with this key, and then called
abbrev pub after : List ℕ → List ProxyCall → History
after key calls = run calls (record { proxy = fresh key; key = key; sent = [] })
