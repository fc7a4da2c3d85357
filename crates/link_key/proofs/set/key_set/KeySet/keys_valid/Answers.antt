-- `keys_valid` meets its contract: the flags are exactly those of the keys before the place, and each key is told by its own.
use mathlib.Core.Path.{sym, ◌∙◌}
use lib.ListN.{take}
use Rattle.link_key.proofs.set.Flags.{judged-bad, judged-more}
use Rattle.link_key.proofs.set.InfoAllowed.{allowed-more}
use Rattle.link_key.proofs.set.key_set.KeySet.keys_valid.Goals as goal

pub loop-key-preserved : goal.loop-key-preserved
loop-key-preserved c =
    let ks = c.as_slice-key-items.result.now in
    let i = c.loop-key.key-index in
    let more = c.join.ensures.so_far (take i ks) c.loop-key.invariant.0.exact in (
      judged-more ks i c.loop-key.seen c.loop-key.invariant.0 _ c.loop-key-test.true _ _ more c.if-not-join.false,
      allowed-more c.args.allowed ks i c.loop-key-test.true _ c.loop-key.invariant.1
          (sym c.additional_info_allowed.ensures ∙ c.if-not-additional_info_allowed.false),
    )

pub returns-then-not-join : goal.returns-then-not-join
returns-then-not-join c =
    let ks = c.as_slice-key-items.result.now in
    let i = c.loop-key.key-index in
    let more = c.join.ensures.so_far (take i ks) c.loop-key.invariant.0.exact in
    rw (
      ← c.as_slice-key-items.ensures.exact,
      judged-bad ks i c.loop-key.seen c.loop-key.invariant.0 _ c.loop-key-test.true _ _ more c.if-not-join.true,
    )
