-- Each return is a clause of the definition; what opened has nineteen bytes, since it was sealed.
use mathlib.Core.Path.{refl, ◌∙◌, sym, ap}
use Prim.Native.Nat.{ℕ}
use Rattle.join_proxy.specs.Judging.{judge_text}
use Rattle.join_proxy.proofs.Judgements.{not-31, sealed-wrong, sealed-right}
use Rattle.join_proxy.proofs.proxy.Proxy.judge.Goals as goal

pub returns-then-body-ne31 : goal.returns-then-body-ne31
returns-then-body-ne31 c =
    c.refused.ensures ∙ sym (not-31 c.args.self c.args.body.now c.if-body-ne31.true)

pub returns-in_default : goal.returns-in_default
returns-in_default c =
    c.refused-in_default.ensures
    ∙ sym (sealed-wrong c.args.self c.args.body.now c.if-body-ne31.false c.nonce.result _
    c.unseal-written.new.dst c.unseal-written.result c.nonce.ensures
    c.unseal-written.ensures _ c.in_default.is)

pub returns : goal.returns
returns c =
    let self = c.args.self in
    c.forwarded.ensures
    ∙ ap (λ (n : ℕ). judge_text c.args.self.next n c.unseal-written.new.dst) c.from_be_bytes.ensures
    ∙ sym (sealed-right self c.args.body.now c.if-body-ne31.false c.nonce.result _ c.unseal-written.new.dst
    c.unseal-written.result c.nonce.ensures
    c.unseal-written.ensures c.laws.ensures _ c.in-Ok.is refl)
