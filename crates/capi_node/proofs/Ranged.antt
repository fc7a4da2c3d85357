-- RANGE stands where there is no image, and where its node is not valid; else the node's own call decides, on the parts read at their
-- places.
use Rattle.std.specs.Prelude.{Result, Ok, Err}
use Rattle.refusal.specs.declared.Refusal.{Refusal}
use Prim.Native.Nat.{ℕ, ◌<◌, ◌≤◌}
use mathlib.Core.Bool.{Bool, true, false, cond, ◌&&◌}
use mathlib.Core.List.{List}
use mathlib.Core.Path.{◌≡◌, refl, ap, sym, ◌∙◌}
use borrow.Author.Tests.{le-leb, lt-leb}
use lib.ListN.{drop}
use Rattle.image.specs.Effects.{on_accept}
use Rattle.image.specs.Part.{is_image}
use Rattle.lemmas.specs.logic.Tests.{both_left, both_right, never}
use Rattle.node.specs.Lease.{holds}
use Rattle.node.specs.Node.{attempting}
use Rattle.node.specs.Range.{valid}
use Rattle.node.specs.Timing.{poll, polled, polled_by}
use Rattle.node.specs.declared.lease.LeaseStatus.{LeaseStatus}
use Rattle.node.specs.declared.lease.LeaseStatus.TheVariants as lease
use Rattle.node.specs.declared.node.Node.{Node}
use Rattle.node.specs.declared.timing.PollResult.{PollResult}
use Rattle.node_attempt.specs.Poll as attempt
use Rattle.node_attempt.specs.Poll.{due_verdict}
use Rattle.node_attempt.specs.declared.attempt.Attempt.{Attempt}
use Rattle.node_attempt.specs.declared.poll.AttemptResult.{AttemptResult}
use Rattle.node_image.specs.Attempt.{attempt_part}
use Rattle.node_image.specs.Held.{held_address_part}
use Rattle.node_image.specs.Node.{node_image}
use Rattle.node_image.specs.NodeLemmas.{node_at_lem}
use Rattle.node_image.specs.Version.{version_part}
use Rattle.node_parameters.specs.Lease.{holds_at}
use Rattle.refusal.specs.declared.Refusal.TheVariants as refusal
use Rattle.refusal.specs.Verdict.{Verdict}
use Rattle.capi_node.specs.Calls.{node_in, due_in, holds_in}

pub out_of_range : {A B : Type 0} (f : A → B) (a b : Bool) (x y : A) → (a && b) ≡ false → f y ≡ cond a (f (cond b x y)) (f y)
out_of_range f true true x y e = never true refl e
out_of_range f true false x y e = refl
out_of_range f false b x y e = refl

module _ (s : List ℕ) where
  abbrev pub judged : Bool
  judged = (is_image node_image s && valid (node_in s))

  pub image-so : judged ≡ true → is_image node_image s ≡ true
  image-so e = both_left (is_image node_image s) (valid (node_in s)) e

  pub valid-so : judged ≡ true → valid (node_in s) ≡ true
  valid-so e = both_right (is_image node_image s) (valid (node_in s)) e

  attempt-so : attempt_part.get (drop 3 s) ≡ (node_in s).attempt
  attempt-so = ap (λ (m : Node). m.attempt) (node_at_lem s)

  -- ---- polling
  module _ (time : ℕ) where
    pub poll-none : judged ≡ false → Err refusal.Range ≡ due_in s time
    unfolding poll
    poll-none e =
        out_of_range (λ (x : PollResult). x.due) (is_image node_image s) (valid (node_in s)) _
        (polled (Err refusal.Range) (node_in s)) e

    module _ (e : judged ≡ true) (x : AttemptResult) (a : Attempt) (here : a ≡ attempt_part.get (drop 3 s))
        (says : x ≡ attempt.poll a time) where
      polled-so : poll (node_in s) time ≡ polled_by (node_in s) x
      unfolding poll
      polled-so = rw (valid-so e) (ap (polled_by (node_in s)) (sym (says ∙ ap (λ (b : Attempt). attempt.poll b time) (here ∙ attempt-so))))

      pub poll-due : x.due ≡ due_in s time
      poll-due = rw (image-so e) (sym (ap (λ (y : PollResult). y.due) polled-so))

      pub poll-node : {v : Verdict} {s' : List ℕ} → v ≡ due_verdict x.due
          → s' ≡ on_accept v s (node_image.put (attempting (node_in s) x.attempt))
          → s' ≡ on_accept (due_verdict x.due) s (node_image.put (poll (node_in s) time).node)
      poll-node f g = rw polled-so (g ∙ ap (λ (v : Verdict). on_accept v s (node_image.put (attempting (node_in s) x.attempt))) f)

    -- ---- the address
    pub holds-none : judged ≡ false → Err refusal.Range ≡ holds_in s time
    unfolding holds
    holds-none e = out_of_range (λ (x : Result LeaseStatus Refusal). x) (is_image node_image s) (valid (node_in s)) _ (Err refusal.Range) e

    module _ (e : judged ≡ true) (a : Attempt) (here : a ≡ attempt_part.get (drop 3 s)) where
      clock-so : a.clock ≡ (node_in s).attempt.clock
      clock-so = ap (λ (b : Attempt). b.clock) (here ∙ attempt-so)

      pub holds-early : time < a.clock → Err refusal.Clock ≡ holds_in s time
      unfolding holds
      holds-early h = rw (image-so e, valid-so e, ← clock-so, lt-leb a.clock time h)

      module _ (h : a.clock ≤ time) {b : Bool} (f : b ≡ holds_at (version_part.get (drop 601 s)) (held_address_part.get (drop 527 s)) time)
        where
          held-so : b ≡ holds_at (node_in s).version (node_in s).address time
          held-so = f ∙ ap (λ (m : Node). holds_at m.version m.address time) (node_at_lem s)

          pub holds-valid : b ≡ true → Ok lease.Valid ≡ holds_in s time
          unfolding holds
          holds-valid g = rw (image-so e, valid-so e, ← clock-so, le-leb a.clock time h, ← held-so, g)

          pub holds-expired : b ≡ false → Ok lease.Expired ≡ holds_in s time
          unfolding holds
          holds-expired g = rw (image-so e, valid-so e, ← clock-so, le-leb a.clock time h, ← held-so, g)
