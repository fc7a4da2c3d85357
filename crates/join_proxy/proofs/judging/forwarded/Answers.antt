-- Each return is a clause of the definition.
use mathlib.Core.Path.{◌∙◌, sym, ap}
use Rattle.join_proxy.specs.Judging.{forward_to}
use Rattle.join_proxy.proofs.Judgements.{text-range, text-forwarded, text-stale}
use Rattle.join_proxy.proofs.judging.forwarded.Goals as goal

pub returns-then-len-gt8 : goal.returns-then-len-gt8
returns-then-len-gt8 c = c.refused.ensures ∙ sym
    (text-range c.args.next c.args.number c.args.text c.if-len-gt8.true)

pub returns-then-is_fresh : goal.returns-then-is_fresh
returns-then-is_fresh c =
    ap forward_to c.pledge_in.ensures
    ∙ sym (text-forwarded c.args.next c.args.number c.args.text c.if-len-gt8.false
    (sym c.is_fresh.ensures ∙ c.if-is_fresh.true))

pub returns : goal.returns
returns c =
    c.refused-2.ensures ∙ sym (text-stale c.args.next c.args.number c.args.text c.if-len-gt8.false
    (sym c.is_fresh.ensures ∙ c.if-is_fresh.false))
