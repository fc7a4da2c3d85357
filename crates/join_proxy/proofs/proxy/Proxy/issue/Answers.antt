-- Each return is a clause of the plan; at the last the body stands at the front of the destination.
use mathlib.Core.Path.{◌∙◌, sym, ap₂}
use mathlib.Core.List.{List, ◌++◌}
use Prim.Native.Nat.{ℕ}
use lib.ListN.{length, drop}
use Rattle.join_proxy.specs.Body.{body_of}
use Rattle.std.proofs.Common.{rules}
use Rattle.join_proxy.proofs.Bodies.{four-bytes}
use Rattle.join_proxy.proofs.Plans.{issue-range, issue-spent, issue-no-room, issue-done}
use Rattle.join_proxy.proofs.proxy.Proxy.issue.Goals as goal

pub returns-then-token-gt8 : goal.returns-then-token-gt8
returns-then-token-gt8 c =
    rw c.unissued.ensures
    (issue-range c.args.self c.args.interface c.args.port c.args.token.now c.args.dst.now c.if-token-gt8.true)

pub returns-in_default : goal.returns-in_default
returns-in_default c =
    rw c.unissued-in_default.ensures
    (issue-spent c.args.self c.args.interface c.args.port c.args.token.now c.args.dst.now c.if-token-gt8.false
    c.in_default.is)

pub returns-then-dst-lt31 : goal.returns-then-dst-lt31
returns-then-dst-lt31 c =
    rw c.unissued-then-dst-lt31.ensures
    (issue-no-room c.args.self c.args.interface c.args.port c.args.token.now c.args.dst.now _ c.if-token-gt8.false
    c.in-Some.is c.if-dst-lt31.true)

pub returns : goal.returns
returns c =
    let key = c.args.self.key in
    let number = c.to_be_bytes.ensures ∙ four-bytes _ (search rules) in
    issue-done c.args.self c.args.interface c.args.port c.args.token.now c.args.dst.now _ c.after.result _ c.if-token-gt8.false
    c.in-Some.is c.if-dst-lt31.false
    (sym (ap₂ (λ (x y : List ℕ). length (body_of key x y)) number c.text.ensures) ∙ c.write_body.ensures.long)
    (c.write_body.ensures.holds ∙ ap₂ (λ (x y : List ℕ). body_of key x y ++ drop 31 c.args.dst.now) number c.text.ensures)
    c.after.ensures
