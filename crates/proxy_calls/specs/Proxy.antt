-- The calls of a join proxy from C: the proxy stands in its image.
use Rattle.std.specs.Prelude.{ℕ, Bool, ◌&&◌, List, ◌≡◌, eqb, leb, length, Ok}
use Rattle.refusal.specs.Verdict.{verdict_number}
use Rattle.refusal.specs.Verdict.{Verdict}
use Rattle.aes_ccm.specs.Plan.{Plan, answer, after, number_in}
use Rattle.image.specs.Part.{is_image}
use Rattle.join_proxy.specs.Issuing.{issue_plan, after_issue}
use Rattle.join_proxy.specs.Judging.{judge_body}
use Rattle.join_proxy.specs.Keys.{fresh, set_key}
use Rattle.state_image.specs.Proxy.{proxy_image, pledge_image}
use Rattle.cipher_calls.specs.Cipher.{plan_verdict, range_first}
use Rattle.image.specs.Effects.{on_accept, checked_first, result_bytes}

-- ---- making hands back an image
abbrev pub make_verdict : List ℕ → List ℕ → Verdict
make_verdict key s = checked_first (eqb (length s) 26 && eqb (length key) 16) (Ok tt)

pub record Makes (key s : List ℕ) (r : ℕ) (s' : List ℕ) : Type 0 where
  pub number : r ≡ verdict_number (make_verdict key s)
  pub proxy : s' ≡ result_bytes 26 (make_verdict key s) (proxy_image.put (fresh key)) s

-- ---- setting a key
abbrev pub key_verdict : List ℕ → List ℕ → Verdict
key_verdict s key = checked_first (eqb (length key) 16 && is_image proxy_image s) (set_key (proxy_image.get s) key).verdict

pub record SetsKey (s key : List ℕ) (r : ℕ) (s' : List ℕ) : Type 0 where
  pub number : r ≡ verdict_number (key_verdict s key)
  pub proxy : s' ≡ on_accept (key_verdict s key) s (proxy_image.put (set_key (proxy_image.get s) key).proxy)

-- ---- issuing: an interface identifier has eight bytes, and a port two
abbrev pub issue_fits : List ℕ → ℕ → Bool
issue_fits interface port = (eqb (length interface) 8 && leb port 65535)

abbrev pub issue_of : List ℕ → List ℕ → ℕ → List ℕ → ℕ → Plan
issue_of s interface port token room =
    range_first (issue_fits interface port && is_image proxy_image s) (issue_plan (proxy_image.get s) interface port token room)

pub record IssuesIn (s interface : List ℕ) (port : ℕ) (token d : List ℕ) (r : ℕ) (s' d' : List ℕ) : Type 0 where
  pub number : r ≡ number_in (answer (issue_of s interface port token (length d)))
  pub proxy :
      s' ≡ on_accept (plan_verdict (issue_of s interface port token (length d))) s
      (proxy_image.put (after_issue (issue_of s interface port token (length d)) (proxy_image.get s)))
  pub dst : d' ≡ after (issue_of s interface port token (length d)) d

-- ---- judging hands back a pledge; the proxy is only read
abbrev pub judge_verdict : List ℕ → List ℕ → List ℕ → Verdict
judge_verdict s body w = checked_first (eqb (length w) 21 && is_image proxy_image s) (judge_body (proxy_image.get s) body).verdict

pub record JudgesIn (s body w : List ℕ) (r : ℕ) (w' : List ℕ) : Type 0 where
  pub number : r ≡ verdict_number (judge_verdict s body w)
  pub pledge : w' ≡ result_bytes 21 (judge_verdict s body w) (pledge_image.put (judge_body (proxy_image.get s) body).pledge) w
