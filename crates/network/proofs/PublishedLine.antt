-- The rekey of a line in the published form is computed, and demand 3 is applied to it.
use native.Mathlib.Omega.{arith}
use mathlib.Core.Path.{◌≡◌, refl}
use mathlib.Core.List.Memᴰ.{head as at}
use lib.Dec.{lit<}
use Rattle.refusal.specs.declared.Refusal.TheVariants as refusal
use Rattle.link_key.specs.set.KeySet.{Apart}
use Rattle.node.specs.Node.{active_of, pending_of}
use Rattle.node.specs.Range.{Valid}
use Rattle.node_laws.specs.Laws.{Takes}
use Rattle.node_attempt.specs.declared.delivery.Delivery.TheVariants.{Update}
use Rattle.network.specs.Network.{node_at}
use Rattle.network.specs.Events.{run, Admissible, Throughout}
use Rattle.network.specs.Demand3.{Supposed, NoneUsedUp, Demand3}
use Rattle.network.specs.RekeyExample.{old_keys, line_links, twice}
use Rattle.network.specs.PublishedRekeyExample.{keys_with_info, published_line, bad_jrc_beside}
use Rattle.network.specs.PublishedRekeyExample.{first_published, taken_published, PublishedRekeyExample}
use Rattle.network.proofs.Line.{computing, three, ones-apart, ones-differ, linked-twice, rounds, hops, turns-come}
use Rattle.network.proofs.Line.{unspent_at, unspent_through, unspent-through}

apart : Apart old_keys keys_with_info
apart = ones-apart _ _ (λ e. omega arith)

differ : old_keys ≡ keys_with_info → ⊥
differ = ones-differ _ _ (λ e. omega arith)

supposed : Supposed published_line 0 keys_with_info 1
unfolding computing
supposed =
    record {
      valid = three (λ i. Valid (node_at published_line i)) refl refl refl;
      inside = lit< tt;
      is-border = refl;
      ordinary = three (λ i. (i ≡ 0 → ⊥) → (node_at published_line i).role ≡ 0) (λ f. absurd (f refl)) (λ _. refl) (λ _. refl);
      covering = record { key = _; member = at refl; covering = refl };
      pending =
          three (λ i. (node_at published_line i).role ≡ 0 → pending_of (node_at published_line i) ≡ keys_with_info) (λ e. absurd (omega arith))
          (λ _. refl) (λ _. refl);
      active-at-none = three (λ i. active_of (node_at published_line i) ≡ keys_with_info → ⊥) differ differ differ;
      former-apart = apart;
    }

before : Admissible published_line first_published
unfolding computing
before = (
  (lit< tt, lit< tt, λ e. omega arith),
  (
    (lit< tt, lit< tt, λ e. omega arith),
    (
      (lit< tt, record { why = refusal.Clock; refused = refl }),
      ((lit< tt, record { why = refusal.Phase; refused = refl }), tt),
    ),
  ),
)

takes : Takes Update (node_at (run published_line first_published) 0) 20000 bad_jrc_beside keys_with_info
unfolding computing
takes = record { accepted = refl; taken = refl; set = refl }

after : Admissible taken_published twice
unfolding computing
after = turns-come 3 taken_published twice refl refl

unspent-before : Throughout (NoneUsedUp keys_with_info 1) published_line first_published
unfolding computing unspent_at unspent_through
unspent-before = unspent-through keys_with_info 1 published_line first_published refl

unspent-after : Throughout (NoneUsedUp keys_with_info 1) taken_published twice
unfolding computing unspent_at unspent_through
unspent-after = unspent-through keys_with_info 1 taken_published twice refl

pub published-witness : Demand3 → PublishedRekeyExample
unfolding Demand3 computing
published-witness claim =
    let said = claim published_line 0 keys_with_info 1 supposed first_published before in
    let then = said.1 unspent-before Update 20000 bad_jrc_beside takes in
    record {
      supposed = supposed;
      before = before;
      unspent-before = unspent-before;
      takes = takes;
      after = after;
      unspent-after = unspent-after;
      linked = linked-twice;
      rounds = rounds;
      hops = hops;
      border-active = refl;
      unreported = refl;
      reported = refl;
      still-reported = refl;
      one-round-active = refl;
      one-round-pending = refl;
      two-rounds-active = refl;
      two-rounds-pending = refl;
      none-sends = said.0;
      rekeyed = then line_links 2 twice after linked-twice rounds unspent-after 2 (lit< tt) hops;
    }
