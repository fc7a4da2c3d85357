-- Each return answers as the laws of Items say of the head; the members' loop passes over one member a turn.
use Rattle.std.specs.Prelude.{Result, Ok}
use Rattle.refusal.specs.declared.Refusal.{Refusal}
use Rattle.std.proofs.Common.{◌≡◌, ℕ, ◌+◌, ◌-◌, Bool, List, length, drop, sym, ◌∙◌, arith}
use Rattle.std.proofs.lemmas.Result.{err_from_is_err_and}
use lib.Seq.{take_all}
use Rattle.cbor.specs.Answer.{skip_answer}
use Rattle.cbor.specs.Decode.{members}
use Rattle.cbor.proofs.Answers.{skip-answer, skip-tells, head-says, got-says, passed-item, passed-members}
use Rattle.cbor.proofs.scan.Items.{item_by, item-deep, item_refused, item-alone, item-string, item-short, item-array}
use Rattle.cbor.proofs.scan.Items.{item-map-refused, item-map, item-tag, members-refused, members-before, members-done}
use Rattle.cbor.proofs.Places.{Passed}
use Rattle.cbor.proofs.scan.+skip_item_skip_members.Goals as goal
use Rattle.cbor.proofs.scan.+skip_item_skip_members.Goals.{skip_members-in-Some, skip_members-in_default+in_ok-p-in_default}

pub skip_item-returns-then-levels-eq0 : goal.skip_item-returns-then-levels-eq0
skip_item-returns-then-levels-eq0 t c =
    let a = c.args in
    skip-tells a.s.now (item_by a.strict a.levels (drop a.at a.s.now)) _
    (item-deep a.strict a.s.now a.at a.levels c.if-levels-eq0.true)

pub skip_item-returns-in_err-head : goal.skip_item-returns-in_err-head
skip_item-returns-in_err-head t c =
    let p = err_from_is_err_and c.from_residual.result c.from_residual.ensures.1 in
    let a = c.args in
    rw (p.1, p.2)
    (skip-tells a.s.now (item_by a.strict a.levels (drop a.at a.s.now)) _
    (item_refused a.strict a.s.now a.at a.levels c.in_err-head.field-0.0 c.if-levels-eq0.false
    (rw c.in_err-head.was at (head-says a.strict a.s.now a.at c.read_head_by.result c.read_head_by.ensures))))

pub skip_item-returns-in-4 : goal.skip_item-returns-in-4
skip_item-returns-in-4 t c =
    let a = c.args in
    let h = c.in_ok-head.head in
    let w = got-says a.strict a.s.now a.at c.read_head_by.result c.read_head_by.ensures h c.in_ok-head.was in
    skip-tells a.s.now (item_by a.strict a.levels (drop a.at a.s.now)) _
    (item-array a.strict a.s.now a.at a.levels h c.if-levels-eq0.false w (omega arith) _
    (passed-members a.strict a.s.now h.next (a.levels - 1) h.argument c.skip_members.result w.inside c.skip_members.ensures))

pub skip_item-returns-in_err-half-in-5 : goal.skip_item-returns-in_err-half-in-5
skip_item-returns-in_err-half-in-5 t c =
    let p = err_from_is_err_and c.from_residual-in_err-half-in-5.result c.from_residual-in_err-half-in-5.ensures.1 in
    let a = c.args in
    let h = c.in_ok-head.head in
    let w = got-says a.strict a.s.now a.at c.read_head_by.result c.read_head_by.ensures h c.in_ok-head.was in
    rw (p.1, p.2)
    (skip-tells a.s.now (item_by a.strict a.levels (drop a.at a.s.now)) _
    (item-map-refused a.strict a.s.now a.at a.levels h c.if-levels-eq0.false w (omega arith) c.in_err-half-in-5.field-0.0
    (rw c.in_err-half-in-5.was at
    (passed-members a.strict a.s.now h.next (a.levels - 1) h.argument c.skip_members-in-5.result w.inside
    c.skip_members-in-5.ensures))))

pub skip_item-returns-in_ok-half-in-5 : goal.skip_item-returns-in_ok-half-in-5
skip_item-returns-in_ok-half-in-5 t c =
    let a = c.args in
    let h = c.in_ok-head.head in
    let p = c.in_ok-half-in-5.half in
    let w = got-says a.strict a.s.now a.at c.read_head_by.result c.read_head_by.ensures h c.in_ok-head.was in
    let half =
    rw c.in_ok-half-in-5.was at
    (passed-members a.strict a.s.now h.next (a.levels - 1) h.argument c.skip_members-in-5.result w.inside
    c.skip_members-in-5.ensures) in
    skip-tells a.s.now (item_by a.strict a.levels (drop a.at a.s.now)) _
    (item-map a.strict a.s.now a.at a.levels h c.if-levels-eq0.false w (omega arith) p _ half
    (passed-members a.strict a.s.now p (a.levels - 1) h.argument c.skip_members-in-5-2.result half.inside
    c.skip_members-in-5-2.ensures))

-- a tag's content is passed over in a slice that is the whole one
passed-whole : (b : Bool) (s : List ℕ) (at d : ℕ) (p : List ℕ) (r : Result ℕ Refusal) → p ≡ s
    → r ≡ skip_answer (length p) (item_by b d (drop at p)) → Passed s (item_by b d (drop at s)) r
passed-whole b s at d p r same said = passed-item b s at d r (rw same at said)

pub skip_item-returns-in-6 : goal.skip_item-returns-in-6
skip_item-returns-in-6 t c =
    let a = c.args in
    let h = c.in_ok-head.head in
    let w = got-says a.strict a.s.now a.at c.read_head_by.result c.read_head_by.ensures h c.in_ok-head.was in
    skip-tells a.s.now (item_by a.strict a.levels (drop a.at a.s.now)) _
    (item-tag a.strict a.s.now a.at a.levels h c.if-levels-eq0.false w (omega arith) _
    (passed-whole a.strict a.s.now h.next (a.levels - 1) _ c.skip_item.result
    (take_all (length a.s.now - 0) a.s.now (omega arith))
    c.skip_item.ensures.is))

pub skip_item-returns-then-len-s : goal.skip_item-returns-then-len-s
skip_item-returns-then-len-s t c =
    let a = c.args in
    let h = c.in_ok-head.head in
    let w = got-says a.strict a.s.now a.at c.read_head_by.result c.read_head_by.ensures h c.in_ok-head.was in
    skip-tells a.s.now (item_by a.strict a.levels (drop a.at a.s.now)) _
    (item-string a.strict a.s.now a.at a.levels h c.if-levels-eq0.false w (omega arith) (omega arith) (omega arith))

pub skip_item-returns-else-len-s : goal.skip_item-returns-else-len-s
skip_item-returns-else-len-s t c =
    let a = c.args in
    let h = c.in_ok-head.head in
    let w = got-says a.strict a.s.now a.at c.read_head_by.result c.read_head_by.ensures h c.in_ok-head.was in
    skip-tells a.s.now (item_by a.strict a.levels (drop a.at a.s.now)) _
    (item-short a.strict a.s.now a.at a.levels h c.if-levels-eq0.false w (omega arith) (omega arith) (omega arith))

pub skip_item-returns-in_default : goal.skip_item-returns-in_default
skip_item-returns-in_default t c =
    let a = c.args in
    let h = c.in_ok-head.head in
    let w = got-says a.strict a.s.now a.at c.read_head_by.result c.read_head_by.ensures h c.in_ok-head.was in
    skip-tells a.s.now (item_by a.strict a.levels (drop a.at a.s.now)) _
    (item-alone a.strict a.s.now a.at a.levels h c.if-levels-eq0.false w (λ l u. omega arith))

pub skip_item-returns-in_default-2 : goal.skip_item-returns-in_default-2
skip_item-returns-in_default-2 t c =
    let a = c.args in
    let h = c.in_ok-head.head in
    let w = got-says a.strict a.s.now a.at c.read_head_by.result c.read_head_by.ensures h c.in_ok-head.was in
    skip-tells a.s.now (item_by a.strict a.levels (drop a.at a.s.now)) _
    (item-alone a.strict a.s.now a.at a.levels h c.if-levels-eq0.false w (λ l u. omega arith))

pub skip_members-returns-in_err-p-in_default : goal.skip_members-returns-in_err-p-in_default
skip_members-returns-in_err-p-in_default t c =
    let p = err_from_is_err_and c.from_residual.result c.from_residual.ensures.1 in
    let a = c.args in
    let l = c.loop in
    let one = c.skip_item in
    let e = c.in_err-p-in_default in
    rw (p.1, p.2)
    (skip-answer a.s.now (members (item_by a.strict a.levels) a.count (drop a.at a.s.now)) _
    (record {
      says =
          sym (members-refused a.strict a.s.now l.p a.levels (a.count - l.counter) (omega arith) e.field-0.0
          (rw e.was at (passed-item a.strict a.s.now l.p a.levels one.result one.ensures.is)))
          ∙ l.invariant.1;
      inside = tt;
    }))

pub skip_members-loop-preserved : goal.skip_members-loop-preserved
skip_members-loop-preserved t c =
    let a = c.args in
    let l = c.loop in
    let m = c.match-plain_end in
    let one : Passed a.s.now (item_by a.strict a.levels (drop l.p a.s.now)) (Ok m.p) =
    elim m.branch [
      | skip_members-in-Some w ↦
          rw w.p-is
          (passed-item a.strict a.s.now l.p a.levels (Ok w.in-Some.end)
          (c.plain_end.ensures w.in-Some.end w.in-Some.is a.levels w.if-levels-gt0.true).is)
      | skip_members-in_default+in_ok-p-in_default w ↦
          rw w.p-is
          (rw w.in_ok-p-in_default.was at
          (passed-item a.strict a.s.now l.p a.levels w.skip_item.result w.skip_item.ensures.is))
    ] in
    let left : a.count - (l.counter + 1) ≡ a.count - l.counter - 1 = omega arith in (
      one.inside,
      rw left (members-before a.strict a.s.now l.p a.levels (a.count - l.counter) (omega arith) m.p one)
          ∙ l.invariant.1,
    )

pub skip_members-returns : goal.skip_members-returns
skip_members-returns t c =
    let a = c.args in
    let l = c.loop in
    skip-answer a.s.now (members (item_by a.strict a.levels) a.count (drop a.at a.s.now)) _
    (record {
      says = sym (members-done a.strict a.s.now l.p a.levels (a.count - l.counter) (omega arith)) ∙ l.invariant.1;
      inside = l.invariant.0;
    })
