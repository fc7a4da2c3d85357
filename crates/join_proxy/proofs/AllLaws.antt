-- The laws together.
-- Assumes nothing.
use mathlib.Core.List.{List}
use mathlib.Core.Path.{◌≡◌, refl}
use Prim.Native.Nat.{ℕ}
use lib.ListN.{length}
use Rattle.aes_ccm.specs.Laws.{CcmLaws}
use Rattle.join_proxy.specs.Body.{four, pledge_text, body_of}
use Rattle.join_proxy.specs.Keys.{fresh}
use Rattle.join_proxy.specs.Laws.{ReadsBack, ProxyLaws}
use Rattle.join_proxy.proofs.Bodies.{number-back, length-text, length-body, reads-back}
use Rattle.join_proxy.proofs.Judgements.{opens, refused-body}
use Rattle.join_proxy.proofs.Histories.{sets-in-order, no-number-twice, refused-leaves}
use Rattle.join_proxy.proofs.Forwarding.{issues-in-order, issued-returns, issued-ages}
use Rattle.join_proxy.proofs.Forwarding.{forwarded-only, forwarded-all, judges-in-order}
use Rattle.join_proxy.proofs.Plans.{refused-issue}

body-reads-back : CcmLaws → (key : List ℕ) (n : ℕ) (interface : List ℕ) (port : ℕ) (token : List ℕ) → length interface ≡ 8
    → ReadsBack key n interface port token
unfolding body_of
body-reads-back laws key n interface port token l =
    let text = pledge_text interface port token in
    let long : length (body_of key (four n) text) ≡ 31 = length-body laws key n text (length-text interface port token l) in
    record {
      long = long;
      number = number-back n;
      opens = opens laws (fresh key) (body_of key (four n) text) text long refl;
      names = reads-back interface port token l;
    }

pub proxy-laws : CcmLaws → ProxyLaws
proxy-laws laws =
    record {
      reads-back = body-reads-back laws;
      sets-in-order = sets-in-order;
      issues-in-order = issues-in-order;
      issued-returns = issued-returns laws;
      issued-ages = issued-ages laws;
      forwarded-only = forwarded-only laws;
      forwarded-all = forwarded-all laws;
      judges-in-order = judges-in-order laws;
      no-number-twice = no-number-twice;
      refused-leaves = refused-leaves;
      refused-issue = refused-issue;
      refused-body = refused-body laws;
    }
