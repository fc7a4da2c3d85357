-- Issuing: RANGE (token over 8), SPENT, ROOM, or the body with the next number, which is then used.
use Rattle.std.specs.Prelude.{cond, List, ◌≡◌, ℕ, ◌+◌, eqb, ltb, length, None, Some, Err}
use Rattle.refusal.specs.declared.Refusal.{Refusal}
use Rattle.refusal.specs.declared.Refusal.TheVariants.{Range, Room, Spent}
use Rattle.aes_ccm.specs.Plan.{Plan, refuse, emit, Did}
use Rattle.join_proxy.specs.declared.issuing.IssueResult.{IssueResult}
use Rattle.join_proxy.specs.Issued.{Issued}
use Rattle.join_proxy.specs.declared.proxy.Proxy.{Proxy}
use Rattle.join_proxy.specs.Body.{four, pledge_text, body_of}

-- after 4,294,967,295 all are used
abbrev pub raised : ℕ → Issued
raised n = cond (eqb n 4294967295) None (Some (n + 1))

-- the body with the next number, if there is one and it has room
abbrev pub numbered : List ℕ → Issued → List ℕ → ℕ → Plan
numbered key (Some n) text room = cond (ltb room 31) (refuse Room) (emit (body_of key (four n) text))
numbered key None text room = refuse Spent

unfoldable pub issue_plan : Proxy → List ℕ → ℕ → List ℕ → ℕ → Plan
issue_plan p interface port token room =
    cond (ltb 8 (length token)) (refuse Range) (numbered p.key p.next (pledge_text interface port token) room)

abbrev pub raised_from : Issued → Issued
raised_from (Some n) = raised n
raised_from None = None

-- a number is used by an accepted issue alone
abbrev pub after_issue : Plan → Proxy → Proxy
after_issue (refuse k) p = p
after_issue (emit body) p = record { key = p.key; next = raised_from p.next }

-- a refused issue leaves the proxy
abbrev pub unissued : Refusal → Proxy → IssueResult
unissued k p = record { written = Err k; proxy = p }

-- issuing did so: its answer r with the proxy after it, and the destination d before and d' afterwards
pub record Issues (p : Proxy) (interface : List ℕ) (port : ℕ) (token d : List ℕ) (r : IssueResult) (d' : List ℕ) : Type 0 where
  pub did : Did (issue_plan p interface port token (length d)) d r.written d'
  pub goes_on : r.proxy ≡ after_issue (issue_plan p interface port token (length d)) p
